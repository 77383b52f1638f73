use Rattle.std.proofs.Common.{◌≡◌, ◌<◌, length, sym, ap, ◌∙◌, subst, slice_get, Some}
use Rattle.spv_logic.specs.declared.types.Shape.TheVariants as shape
use Rattle.spv_proof.proofs.schema_facts.Fields.{whole_there, names_there, no_names_there}
use Rattle.spv_proof.proofs.schema_facts.listing.fields.Goals as goal

pub get-requires : goal.get-requires
get-requires c =
    subst (λ (shapes : _). c.in-Whole.t.0 < length shapes) (sym c.shapes.ensures)
    (whole_there c.args.terms.now c.law_arena.ensures c.args.whole c.requires c.in-Whole.t (sym c.sort.ensures ∙ c.in-Whole.is))

pub returns-in-Record : goal.returns-in-Record
returns-in-Record c =
    let found : slice_get c.args.terms.now.shapes c.in-Whole.t.0 ≡ Some c.get.result.now = ap (λ shapes. slice_get shapes c.in-Whole.t.0) (sym c.shapes.ensures) ∙ c.get.ensures in
    names_there c.args.terms.now.shapes _ c.in-Whole.t c.get.result.now (sym c.sort.ensures ∙ c.in-Whole.is) found c.as_slice.result.now (c.in-Record.is ∙ ap shape.Record (sym c.as_slice.ensures))

pub returns-in_default-get : goal.returns-in_default-get
returns-in_default-get c =
    let found : slice_get c.args.terms.now.shapes c.in-Whole.t.0 ≡ Some c.get.result.now = ap (λ shapes. slice_get shapes c.in-Whole.t.0) (sym c.shapes.ensures) ∙ c.get.ensures in
    no_names_there c.args.terms.now.shapes _ c.in-Whole.t c.get.result.now (sym c.sort.ensures ∙ c.in-Whole.is) found c.in_default-get.not-Record
