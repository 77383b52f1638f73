use Rattle.std.proofs.Common.{refl, ◌∙◌}
use Rattle.spv_arithmetic_side.proofs.constraint_rows.OnRows.{all_met}
use Rattle.spv_arithmetic_side.proofs.constraint_rows.standing.Standing.is_met.Goals as goal

pub returns-then-is_within : goal.returns-then-is_within
returns-then-is_within c =
    λ upper.
    all_met c.law_sides.ensures.lower c.law_sides.ensures.upper c.args.self.now c.args.row c.args.saying c.constant.result c.bounds_of-bounds.result c.of-value.result c.constant.ensures.form c.constant.ensures.room c.bounds_of-bounds.ensures
    (c.of-value.ensures ∙ c.row_value.ensures) (c.if-is_within.ensures refl) (c.is_within-then-is_within.ensures upper)
