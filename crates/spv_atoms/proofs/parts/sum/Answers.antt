use Rattle.std.proofs.Common.{refl, ◌∙◌, ap}
use mathlib.Core.Path.{ap₂}
use Rattle.std.specs.Prelude.{◌+ℤ◌}
use Rattle.spv_frac.specs.Range.{fits}
use Rattle.spv_atoms.proofs.Sums.{refused, left-narrow, right-narrow, summing_step, summing_wide}
use Rattle.spv_atoms.proofs.parts.sum.Goals as goal

pub returns-in_default-plus : goal.returns-in_default-plus
returns-in_default-plus c =
    summing_wide c.args.left.now c.args.right.now c.loop-t.parts.items c.loop-t.left_rest.now c.loop-t.right_rest.now c.loop-t.invariant c.in-Some.t _ _ c.in-Some.ensures
    (left-narrow c.args.left.now c.args.right.now c.loop-t.parts.items c.loop-t.left_rest.now c.loop-t.right_rest.now c.loop-t.invariant c.in-Some.t c.number_in_front.result c.number_in_front.ensures)
    (right-narrow c.args.left.now c.args.right.now c.loop-t.parts.items c.loop-t.left_rest.now c.loop-t.right_rest.now c.loop-t.invariant c.in-Some.t c.number_in_front-in-Some.result c.number_in_front-in-Some.ensures)
    (refused _ c.in_default-plus.ensures.fits.1)

pub loop-t-preserved : goal.loop-t-preserved
loop-t-preserved c =
    summing_step c.args.left.now c.args.right.now c.loop-t.parts.items c.loop-t.left_rest.now c.loop-t.right_rest.now c.loop-t.invariant c.in-Some.t c.in-Ok.number c.push_number.new.parts.items
    c.behind-left_rest.result.now c.behind-right_rest.result.now c.in-Some.ensures
    (c.in-Ok.ensures.value ∙ ap₂ ◌+ℤ◌
    (left-narrow c.args.left.now c.args.right.now c.loop-t.parts.items c.loop-t.left_rest.now c.loop-t.right_rest.now c.loop-t.invariant c.in-Some.t c.number_in_front.result c.number_in_front.ensures)
    (right-narrow c.args.left.now c.args.right.now c.loop-t.parts.items c.loop-t.left_rest.now c.loop-t.right_rest.now c.loop-t.invariant c.in-Some.t c.number_in_front-in-Some.result c.number_in_front-in-Some.ensures))
    (ap fits c.in-Ok.ensures.value ∙ c.in-Ok.ensures.fits.0 refl)
    c.in_ok-push_number.ensures c.behind-left_rest.ensures c.behind-right_rest.ensures
