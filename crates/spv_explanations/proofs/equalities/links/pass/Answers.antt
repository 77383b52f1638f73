use Rattle.std.proofs.Common.{sym, subst}
use Rattle.spv_explanations.specs.equalities.Links.{LeadsBy}
use Rattle.spv_explanations.proofs.equalities.Ways.{congruent-reaches}
use Rattle.spv_explanations.proofs.equalities.links.pass.Goals as goal

pub returns-in-Congruent-clause-reaches : goal.returns-in-Congruent-clause-reaches
returns-in-Congruent-clause-reaches c t f shown leads =
    congruent-reaches c.args.terms.now c.args.derivation.now c.args.known.now c.in-Congruent.left c.in-Congruent.right c.args.at t c.number.result f shown (sym c.number.ensures)
    (subst (λ l. LeadsBy c.args.terms.now c.args.derivation.now c.args.known.now l c.args.at t) c.in-Congruent.is leads)
