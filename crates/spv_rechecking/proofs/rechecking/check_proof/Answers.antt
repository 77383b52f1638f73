use Rattle.std.proofs.Common.{ap, ◌∙◌}
use Rattle.spv_term.specs.Arena.{trees_of}
use Rattle.spv_proof_rules.specs.Stand.{question_under}
use Rattle.spv_proof_rules.specs.Outcomes.{outcome}
use Rattle.spv_rules.specs.RuleSets.{rules_in}
use Rattle.spv_search_terms.proofs.condition_copy.Exits.{if_ok}
use Rattle.spv_rechecking.specs.Asked.{verdict_after}
use Rattle.spv_rechecking.proofs.JudgeLemmas.{by_answer}
use Rattle.spv_rechecking.proofs.Judged.{answer_in}
use Rattle.spv_rechecking.proofs.rechecking.check_proof.Goals as goal

pub returns-clause-terms_in : goal.returns-clause-terms_in
returns-clause-terms_in c =
    if_ok c.verdict_of.result _ _ c.verdict_of.ensures
    (λ v is.
    answer_in c.check_under-answer.ensures.grows c.most-most.result c.args.proof c.requires.proof
    (outcome c.args.terms.now.most (question_under (rules_in c.args.rules.now) c.args.terms.now c.args.condition.now) (trees_of c.args.terms.now.nodes) c.args.proof) c.check_under-answer.result c.check_under-answer.ensures.stop v is)

pub returns-clause-verdict : goal.returns-clause-verdict
returns-clause-verdict c =
    if_ok c.verdict_of.result _ _ c.verdict_of.ensures
    (λ v is.
    by_answer (rules_in c.args.rules.now) c.args.terms.now c.check_under-answer.new.terms c.args.condition.now c.args.proof c.check_under-answer.result v
    (is ∙ ap (λ n. verdict_after n c.args.proof c.check_under-answer.result) c.most-most.ensures) c.check_under-answer.ensures.outcome c.check_under-answer.ensures.stop)
