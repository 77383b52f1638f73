use Rattle.std.proofs.Common.{◌∙◌, sym, subst}
use Rattle.spv_proof_rules.specs.Stand.{StepsIn}
use Rattle.spv_verdicts.specs.declared.answers.verdicts.Limit.{Limit}
use Rattle.spv_verdicts.specs.declared.answers.verdicts.Limit.TheVariants as limit
use Rattle.spv_rounds.specs.telling.Told.{LimitTold}
use Rattle.spv_rounds.proofs.telling.ToldLemmas.{splits-told}
use Rattle.spv_rounds.proofs.telling.verdicts.told_limit.Goals as goal

pub returns-in_ok-exchanged_tree-in-Splits : goal.returns-in_ok-exchanged_tree-in-Splits
returns-in_ok-exchanged_tree-in-Splits c = λ rules limits stand.
    subst (λ (l : Limit). LimitTold rules limits c.args.s.now l (limit.Splits c.in_ok-exchanged_tree-in-Splits.field-0)) (sym c.in-Splits.is)
    (splits-told rules c.args.s.now stand c.requires c.as_slice.result.now (c.as_slice.ensures.value ∙ c.in_ok-steps-in-Splits.ensures.steps)
    (λ falsity rounds. subst (StepsIn c.args.s.now.terms) (sym c.as_slice.ensures.value) (c.in_ok-steps-in-Splits.ensures.in_range falsity rounds)) c.law_kept.ensures limits c.in-Splits.tree c.in_ok-exchanged_tree-in-Splits.field-0
    c.in_ok-exchanged_tree-in-Splits.ensures.tree c.in_ok-exchanged_tree-in-Splits.ensures.terms)
