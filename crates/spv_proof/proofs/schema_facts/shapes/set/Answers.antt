use Rattle.std.proofs.Common.{refl, sym, ap, ◌∙◌, subst, map}
use Rattle.spv_logic.specs.declared.operators.Head.TheVariants as head
use Rattle.spv_schemas.specs.Facts.{about_set_cell}
use Rattle.spv_term.specs.Arena.{tree}
use Rattle.spv_proof.specs.schema_facts.Shapes.{IsFitting, pointer_fits}
use Rattle.spv_proof.proofs.schema_facts.Fitted.{set_cell_is, not_fitting, passing, failing, pointer_passes}
use Rattle.spv_proof.proofs.schema_facts.shapes.set.Goals as goal

pub returns-in_err-change : goal.returns-in_err-change
returns-in_err-change c =
    let a = c.args.terms.now in
    let us = map (tree a) c.args.ts.now in
    subst (IsFitting a head.SetCell about_set_cell pointer_fits us) (sym c.from_residual.ensures)
    (not_fitting a c.law_arena.ensures head.SetCell about_set_cell set_cell_is pointer_fits us c.in_err-change.ensures.missing)

pub returns-then-is_pointer_of : goal.returns-then-is_pointer_of
returns-then-is_pointer_of c =
    let a = c.args.terms.now in
    passing a c.law_arena.ensures head.SetCell about_set_cell set_cell_is pointer_fits (map (tree a) c.args.ts.now) c.in_ok-change.change c.in_ok-change.ensures.there
    (ap (map (tree a)) c.in_ok-change.ensures.terms)
    (pointer_passes a c.law_arena.ensures head.SetCell (λ given. refl) c.in_ok-change.change c.in_ok-change.ensures.there c.is_pointer_of.result c.is_pointer_of.ensures ∙ c.if-is_pointer_of.true)

pub returns-else-is_pointer_of : goal.returns-else-is_pointer_of
returns-else-is_pointer_of c =
    let a = c.args.terms.now in
    failing a c.law_arena.ensures head.SetCell about_set_cell set_cell_is pointer_fits (map (tree a) c.args.ts.now) c.in_ok-change.change c.in_ok-change.ensures.there
    (ap (map (tree a)) c.in_ok-change.ensures.terms)
    (pointer_passes a c.law_arena.ensures head.SetCell (λ given. refl) c.in_ok-change.change c.in_ok-change.ensures.there c.is_pointer_of.result c.is_pointer_of.ensures ∙ c.if-is_pointer_of.false)
