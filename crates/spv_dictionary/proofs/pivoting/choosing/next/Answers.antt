use Rattle.std.proofs.Common.{rules, ◌≡◌, ◌+◌, ◌<◌, true, length, ap, ◌∙◌, sym, subst, ℕ}
use Rattle.spv_frac.specs.declared.frac.Op.TheVariants.{Cmp}
use Rattle.spv_tableau_rules.specs.tableaux.Bounds.{breaks}
use Rattle.spv_tableau_rules.specs.tableaux.Operations.{operation}
use Rattle.spv_dictionary.specs.declared.spot.Spot.TheVariants.{Row}
use Rattle.spv_dictionary.specs.Dictionary.{spot_of}
use Rattle.spv_dictionary.specs.updates.Shifts.{value_in}
use Rattle.spv_dictionary.proofs.pivoting.Choices.{column_in, read_value, leaves_found, bound_compares}
use Rattle.spv_dictionary.proofs.pivoting.choosing.next.Goals as goal

pub returns-in-Ok-true-clause-value : goal.returns-in-Ok-true-clause-value
returns-in-Ok-true-clause-value c =
    let inside : c.slots.result + c.row.result < length c.args.dictionary.now.spots =
    column_in _ _ _ _ _ _ _ c.law_dictionary.ensures.count c.requires.rows c.get-bound.ensures.row c.slots.ensures c.row.ensures in
    let value = read_value c.args.values.now (c.slots.result + c.row.result) c.index-values-column.result (subst (λ (n : ℕ). c.slots.result + c.row.result < n) (sym c.requires.count) inside) c.index-values-column.is in
    let broken : true ≡ breaks c.get-bound.result.side c.get-bound.result.value c.index-values-column.result = search rules in
    let at : spot_of c.args.dictionary.now (c.slots.result + c.row.result) ≡ Row c.in-Row.row = search rules in
    leaves_found c.args.dictionary.now (value_in c.args.values.now) c.args.trail.now.bounds c.args.place c.get-bound.result c.args.found (c.slots.result + c.row.result) c.in-Row.row c.side.result c.value.result
    c.law_trail.ensures.apart c.get-bound.ensures.there (ap (λ n. n + c.row.result) c.slots.ensures ∙ ap (λ n. length c.args.dictionary.now.outside + n) c.row.ensures) c.side.ensures c.value.ensures at inside
    (ap (breaks c.get-bound.result.side c.get-bound.result.value) (sym value) ∙ sym broken) (sym c.is_found.ensures ∙ c.if-is_found.false)

pub returns-in-Err-clause-refused : goal.returns-in-Err-clause-refused
returns-in-Err-clause-refused c =
    let inside : c.slots.result + c.row.result < length c.args.dictionary.now.spots =
    column_in _ _ _ _ _ _ _ c.law_dictionary.ensures.count c.requires.rows c.get-bound.ensures.row c.slots.ensures c.row.ensures in
    let value = read_value c.args.values.now (c.slots.result + c.row.result) c.index-values-column.result (subst (λ (n : ℕ). c.slots.result + c.row.result < n) (sym c.requires.count) inside) c.index-values-column.is in
    let refused : c.in-Err.refused ≡ operation Cmp c.index-values-column.result c.get-bound.result.value = search rules in
    bound_compares c.args.dictionary.now (value_in c.args.values.now) c.args.trail.now.bounds c.args.place c.get-bound.result (c.slots.result + c.row.result) c.law_trail.ensures.apart c.get-bound.ensures.there
    (ap (λ n. n + c.row.result) c.slots.ensures ∙ ap (λ n. length c.args.dictionary.now.outside + n) c.row.ensures) c.in-Err.refused (refused ∙ ap (λ x. operation Cmp x c.get-bound.result.value) value)
