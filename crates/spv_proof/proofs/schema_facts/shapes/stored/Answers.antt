use Rattle.std.proofs.Common.{sym, ap, subst, map}
use Rattle.spv_logic.specs.declared.types.Sort.TheVariants as sort
use Rattle.spv_logic.specs.declared.operators.Head.TheVariants as head
use Rattle.spv_logic.specs.Terms.{sort_eq}
use Rattle.spv_schemas.specs.Facts.{about_store}
use Rattle.spv_term.specs.Arena.{tree}
use Rattle.spv_proof.specs.schema_facts.Shapes.{IsFitting, index_fits}
use Rattle.spv_proof.proofs.schema_facts.Fitted.{store_is, not_fitting, passing}
use Rattle.spv_proof.proofs.schema_facts.shapes.stored.Goals as goal

pub returns-in_err-change : goal.returns-in_err-change
returns-in_err-change c =
    let a = c.args.terms.now in
    let us = map (tree a) c.args.ts.now in
    subst (IsFitting a head.Store about_store index_fits us) (sym c.from_residual.ensures)
    (not_fitting a c.law_arena.ensures head.Store about_store store_is index_fits us c.in_err-change.ensures.missing)

pub returns-then-is_number : goal.returns-then-is_number
returns-then-is_number c =
    let a = c.args.terms.now in
    passing a c.law_arena.ensures head.Store about_store store_is index_fits (map (tree a) c.args.ts.now) c.in_ok-change.change c.in_ok-change.ensures.there
    (ap (map (tree a)) c.in_ok-change.ensures.terms) (ap (sort_eq sort.Int) (c.is_number.ensures.sort c.if-is_number.true))
