use Rattle.std.proofs.Common.{◌∙◌, ap, length, take, subst, sym}
use Rattle.spv_proof_rules.specs.Stand.{question}
use Rattle.spv_verdicts.specs.Verdicts.{condition_atoms}
use Rattle.spv_verdicts.specs.answers.Views.{CasesIn}
use Rattle.spv_rounds.specs.telling.Told.{all_members}
use Rattle.spv_rounds.proofs.judging.SurviveLemmas.{survives}
use Rattle.spv_rounds.proofs.judging.surviving.survived.Goals as goal

pub returns : goal.returns
returns c = λ rules a d limits is found nothing.
    survives rules a d limits c.args.s is c.args.u found nothing c.in_ok-branch.branch
    (c.in_ok-branch.ensures.first ∙ ap (take (length (condition_atoms (question c.args.s.terms c.args.s.condition)))) c.as_slice.ensures)
    (λ h. c.in_ok-branch.ensures.terms (subst (CasesIn c.args.s.terms) (sym c.as_slice.ensures) h))
    c.in_ok-instances.instances (c.in_ok-instances.ensures ∙ ap all_members c.as_slice-2.ensures)
