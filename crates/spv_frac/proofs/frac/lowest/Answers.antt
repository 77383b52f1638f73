use Rattle.std.proofs.Common.{◌∙◌, sym}
use Rattle.spv_frac.proofs.Divided.{divisor, lowest_view, lowest_inside, can_divide, fits_pos, positive_below, stays_view}
use Rattle.spv_frac.proofs.frac.lowest.Goals as goal

pub returns-then-divisor-eq1 : goal.returns-then-divisor-eq1
returns-then-divisor-eq1 c =
    let d = divisor c.args.num c.args.den _ _ _ c.requires.num_fits c.ranges.den c.requires.den_positive c.unsigned_abs.ensures.value c.unsigned_abs-2.ensures.value c.common_divisor-divisor.ensures in
    stays_view c.args.num c.args.den c.requires.num_fits (positive_below c.args.den c.requires.den_positive c.ranges.den) (sym d.g_is ∙ c.if-divisor-eq1.true) c.requires.den_positive

pub overflow_cast-result : goal.overflow_cast-result
overflow_cast-result c =
    let d = divisor c.args.num c.args.den _ _ _ c.requires.num_fits c.ranges.den c.requires.den_positive c.unsigned_abs.ensures.value c.unsigned_abs-2.ensures.value c.common_divisor-divisor.ensures in
    fits_pos c.common_divisor-divisor.result d.below

pub overflow_cast-result-2 : goal.overflow_cast-result-2
overflow_cast-result-2 c =
    let d = divisor c.args.num c.args.den _ _ _ c.requires.num_fits c.ranges.den c.requires.den_positive c.unsigned_abs.ensures.value c.unsigned_abs-2.ensures.value c.common_divisor-divisor.ensures in
    fits_pos c.common_divisor-divisor.result d.below

pub nonzero_div-result : goal.nonzero_div-result
nonzero_div-result c =
    let d = divisor c.args.num c.args.den _ _ _ c.requires.num_fits c.ranges.den c.requires.den_positive c.unsigned_abs.ensures.value c.unsigned_abs-2.ensures.value c.common_divisor-divisor.ensures in
    (d.positive, can_divide c.args.num c.common_divisor-divisor.result c.requires.num_fits d.positive d.below)

pub nonzero_div-result-2 : goal.nonzero_div-result-2
nonzero_div-result-2 c =
    let d = divisor c.args.num c.args.den _ _ _ c.requires.num_fits c.ranges.den c.requires.den_positive c.unsigned_abs.ensures.value c.unsigned_abs-2.ensures.value c.common_divisor-divisor.ensures in
    (d.positive, can_divide c.args.den c.common_divisor-divisor.result (positive_below c.args.den c.requires.den_positive c.ranges.den) d.positive d.below)

pub invariant_of-result-2 : goal.invariant_of-result-2
invariant_of-result-2 c =
    let d = divisor c.args.num c.args.den _ _ _ c.requires.num_fits c.ranges.den c.requires.den_positive c.unsigned_abs.ensures.value c.unsigned_abs-2.ensures.value c.common_divisor-divisor.ensures in
    lowest_inside c.args.num c.args.den _ _ _ c.requires.num_fits (positive_below c.args.den c.requires.den_positive c.ranges.den) c.requires.den_positive d.g_is d.num_is d.den_is

pub returns : goal.returns
returns c =
    let d = divisor c.args.num c.args.den _ _ _ c.requires.num_fits c.ranges.den c.requires.den_positive c.unsigned_abs.ensures.value c.unsigned_abs-2.ensures.value c.common_divisor-divisor.ensures in
    lowest_view c.args.num c.args.den _ _ _ d.g_is d.num_is d.den_is
