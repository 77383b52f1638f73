use Rattle.std.proofs.Common.{List, sym, ap, subst, ◌∙◌}
use Rattle.spv_atoms.specs.declared.proofs.Step.{Step}
use Rattle.spv_proof_rules.specs.Stand.{StepsIn}
use Rattle.spv_verdicts.specs.answers.Nodes.{tree_at}
use Rattle.spv_verdicts.specs.translation.ExchangedTrees.{exchanged_tree}
use Rattle.spv_verdicts.specs.declared.answers.verdicts.Limit.{Limit}
use Rattle.spv_fact_search.specs.Telling.{IsLimitOf}
use Rattle.spv_fact_search.proofs.Told.{told-splits, told-terms}
use Rattle.spv_fact_search.proofs.telling.limit_of.Goals as goal

pub returns-in_ok-exchanged_tree-in-Splits : goal.returns-in_ok-exchanged_tree-in-Splits
returns-in_ok-exchanged_tree-in-Splits c =
    let a = c.args.terms.now in
    let l = subst (λ (x : Limit). IsLimitOf a c.args.condition.now c.args.limits.now x) c.in-Splits.is c.requires.reached in
    let table = c.in_ok-steps-in-Splits.steps.items in
    told-splits a c.args.condition.now c.args.limits.now c.law_kept.ensures table c.in_ok-steps-in-Splits.ensures.exchanges c.in-Splits.tree c.in_ok-exchanged_tree-in-Splits.field-0
    (λ at. c.in_ok-exchanged_tree-in-Splits.ensures.tree at ∙ ap (λ (ss : List Step). exchanged_tree ss (tree_at at c.in-Splits.tree)) c.as_slice.ensures.value)
    (c.in_ok-exchanged_tree-in-Splits.ensures.terms a (subst (StepsIn a) (sym c.as_slice.ensures.value) c.in_ok-steps-in-Splits.ensures.in_range) l.terms_in) l

pub returns-in-Terms : goal.returns-in-Terms
returns-in-Terms c =
    told-terms c.args.terms.now c.args.condition.now c.args.limits.now c.requires.enough c.in-Terms.field-0
    (subst (λ (x : Limit). IsLimitOf c.args.terms.now c.args.condition.now c.args.limits.now x) c.in-Terms.is c.requires.reached)
