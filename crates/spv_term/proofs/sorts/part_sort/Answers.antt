-- The sort is seen beside the field's name in the fields of the record's shape.
use Rattle.std.proofs.Common.{sym, ap, ◌∙◌, nat_eq}
use Rattle.std.specs.List.{find}
use Rattle.std.specs.Option.{option_map}
use Rattle.spv_logic.specs.Shapes.{field_sort_of, fields_of, fields_of_shape}
use Rattle.spv_term.proofs.SortLemmas.{field_sort-find}
use Rattle.spv_term.proofs.sorts.part_sort.Goals as goal

pub returns-in-Some-Record : goal.returns-in-Some-Record
returns-in-Some-Record c =
    let name = c.args.name.0 in
    let fields = c.as_slice.ensures in
    let seen = c.field_sort.ensures ∙ ap (λ fs. option_map (λ f. f.sort) (find (λ f. nat_eq f.name.0 name) fs)) fields in
    let shape = ap (λ s. field_sort_of (fields_of c.args.shapes.now s) name) c.in-Whole.is
    ∙ ap (λ s. field_sort_of (fields_of_shape s) name) (c.in-Some-Record.ensures.there ∙ c.in-Some-Record.field-0-is) in
    seen ∙ sym (field_sort-find c.in-Some-Record.fields name) ∙ sym shape
