use Rattle.std.proofs.Common.{◌≡◌, sym, ap, ◌∙◌, Some}
use Rattle.spv_logic.specs.declared.conditions.TermId.{TermId}
use Rattle.spv_term.specs.Arena.{tree}
use Rattle.spv_term.proofs.NodeLemmas.{id_from}
use Rattle.spv_derivations.specs.derivation.Sides.{sides_at}
use Rattle.spv_explanations.proofs.equalities.Ways.{told-backward, told-equates, told-forward}
use Rattle.spv_explanations.proofs.equalities.links.pass_told.Goals as goal

pub returns-then-left-at-clause-reaches : goal.returns-then-left-at-clause-reaches
returns-then-left-at-clause-reaches c t f ends =
    told-forward c.args.terms.now c.law_arena.ensures c.args.derivation.now f c.args.why c.unwrap.result (sym c.sides.ensures ∙ c.unwrap.ensures) c.args.at t
    (id_from c.unwrap.result.0 c.args.at c.if-left-at.true) ends

pub returns-clause-reaches : goal.returns-clause-reaches
returns-clause-reaches c t f ends =
    let sides : sides_at c.args.terms.now c.args.derivation.now c.args.why ≡ Some c.unwrap.result = sym c.sides.ensures ∙ c.unwrap.ensures in
    told-backward c.args.terms.now c.law_arena.ensures c.args.derivation.now f c.args.why c.unwrap.result sides c.symmetric.new.self c.in_ok-number.number c.args.at t
    (λ e. c.if-left-at.false (ap (λ (x : TermId). x.0) e)) ends
    (c.in_ok-number.ensures.gains c.args.terms.now (tree c.args.terms.now c.unwrap.result.0) (tree c.args.terms.now c.unwrap.result.1) f
    (told-equates c.args.terms.now c.law_arena.ensures c.args.derivation.now f c.args.why c.unwrap.result sides))
