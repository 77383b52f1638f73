use Rattle.std.proofs.Common.{◌∙◌, sym, subst}
use Rattle.spv_proof_rules.specs.Stand.{StepsIn}
use Rattle.spv_rounds.proofs.telling.ToldLemmas.{proof-told, if_told}
use Rattle.spv_rounds.proofs.telling.verdicts.proved.Goals as goal

pub returns : goal.returns
returns c =
    if_told c.exchanged_proof.result _ _ _ c.exchanged_proof.ensures.nodes c.exchanged_proof.ensures.terms
    (λ p is there rules stand. proof-told rules c.args.s.now stand c.requires c.as_slice.result.now (c.as_slice.ensures.value ∙ c.in_ok-steps.ensures.steps)
    (λ falsity rounds. subst (StepsIn c.args.s.now.terms) (sym c.as_slice.ensures.value) (c.in_ok-steps.ensures.in_range falsity rounds)) c.law_proved.ensures c.args.proof.now p is there)
