use Rattle.std.proofs.Common.{◌≡◌, Some, length, sym, ap, ◌∙◌}
use Rattle.spv_dictionary.specs.Dictionary.{outside_at}
use Rattle.spv_dictionary.proofs.Mixed.{if_err}
use Rattle.spv_dictionary.specs.updates.Shifts.{value_in}
use Rattle.spv_dictionary.specs.pivoting.Choosing.{limits_of, out_side}
use Rattle.spv_simplex.specs.pivot_runs.Derivation.{moves, moving}
use Rattle.spv_simplex.proofs.Searches.{on_ok}
use Rattle.spv_simplex.proofs.searching.place.Goals as goal

pub returns-in-Ok-Some-clause-placed : goal.returns-in-Ok-Some-clause-placed
returns-in-Ok-Some-clause-placed c =
    let bound : limits_of (length c.args.dictionary.now.outside) c.args.trail.now.bounds (outside_at c.args.dictionary.now c.args.slot) c.in-Ok-Some.side ≡ Some c.unwrap-bound.result =
    ap (λ n. limits_of (length c.args.dictionary.now.outside) c.args.trail.now.bounds n c.in-Ok-Some.side) (sym c.outside-column.ensures)
    ∙ ap (λ n. limits_of n c.args.trail.now.bounds c.outside-column.result c.in-Ok-Some.side) (sym c.slots.ensures) ∙ sym c.limit.ensures ∙ c.unwrap-bound.ensures in
    let side : out_side (limits_of (length c.args.dictionary.now.outside) c.args.trail.now.bounds) (value_in c.args.values.now) (outside_at c.args.dictionary.now c.args.slot) ≡ Some c.in-Ok-Some.side =
    sym c.in-Ok-Some.ensures.value ∙ c.in-Ok-Some.field-0-is in
    on_ok c.move_to.result _ _ c.move_to.ensures.made (λ made. moves c.in-Ok-Some.side c.unwrap-bound.result side bound made)

pub returns-in-Ok-Some-clause-refused : goal.returns-in-Ok-Some-clause-refused
returns-in-Ok-Some-clause-refused c =
    let bound : limits_of (length c.args.dictionary.now.outside) c.args.trail.now.bounds (outside_at c.args.dictionary.now c.args.slot) c.in-Ok-Some.side ≡ Some c.unwrap-bound.result =
    ap (λ n. limits_of (length c.args.dictionary.now.outside) c.args.trail.now.bounds n c.in-Ok-Some.side) (sym c.outside-column.ensures)
    ∙ ap (λ n. limits_of n c.args.trail.now.bounds c.outside-column.result c.in-Ok-Some.side) (sym c.slots.ensures) ∙ sym c.limit.ensures ∙ c.unwrap-bound.ensures in
    let side : out_side (limits_of (length c.args.dictionary.now.outside) c.args.trail.now.bounds) (value_in c.args.values.now) (outside_at c.args.dictionary.now c.args.slot) ≡ Some c.in-Ok-Some.side =
    sym c.in-Ok-Some.ensures.value ∙ c.in-Ok-Some.field-0-is in
    if_err c.move_to.result _ _ c.move_to.ensures.refused (λ o is. moving c.in-Ok-Some.side c.unwrap-bound.result side bound is)
