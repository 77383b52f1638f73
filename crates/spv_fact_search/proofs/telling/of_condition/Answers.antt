use Rattle.std.proofs.Common.{List, sym, ap, subst, ◌∙◌}
use Rattle.spv_atoms.specs.declared.proofs.Step.{Step}
use Rattle.spv_proof_rules.specs.Stand.{StepsIn}
use Rattle.spv_verdicts.specs.translation.Exchanged.{exchanged_nodes}
use Rattle.spv_verdicts.specs.declared.answers.verdicts.Verdict.{Verdict}
use Rattle.spv_fact_search.specs.Telling.{IsFoundOf}
use Rattle.spv_fact_search.proofs.Told.{told-proof}
use Rattle.spv_fact_search.proofs.telling.of_condition.Goals as goal

pub returns-in_ok-exchanged_proof-in-Proved : goal.returns-in_ok-exchanged_proof-in-Proved
returns-in_ok-exchanged_proof-in-Proved c =
    let a = c.args.terms.now in
    let f = subst (λ (x : Verdict). IsFoundOf a c.args.condition.now c.args.limits.now x) c.in-Proved.is c.requires.found in
    let table = c.in_ok-steps-in-Proved.steps.items in
    told-proof a c.args.condition.now c.args.limits.now c.law_exchange.ensures.accepted table c.in_ok-steps-in-Proved.ensures.exchanges c.in-Proved.proof c.in_ok-exchanged_proof-in-Proved.field-0
    (c.in_ok-exchanged_proof-in-Proved.ensures.nodes ∙ ap (λ (ss : List Step). exchanged_nodes ss c.in-Proved.proof) c.as_slice.ensures.value)
    (c.in_ok-exchanged_proof-in-Proved.ensures.terms a (subst (StepsIn a) (sym c.as_slice.ensures.value) c.in_ok-steps-in-Proved.ensures.in_range) f.terms_in) f
