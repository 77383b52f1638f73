use Rattle.std.proofs.Common.{length, sym, subst, arith}
use Rattle.std.proofs.lemmas.Grind.{common_steps}
use Rattle.spv_proof_rules.specs.Stand.{question}
use Rattle.spv_verdicts.specs.answers.Views.{CasesIn}
use Rattle.spv_verdicts.specs.Verdicts.{condition_atoms}
use Rattle.spv_verdicts.proofs.translation.BranchLemmas.{own-cases}
use Rattle.spv_verdicts.proofs.translation.StandLemmas.{taken-in}
use Rattle.spv_verdicts.proofs.translation.branches.own_branch.Goals as goal

pub returns-clause-first : goal.returns-clause-first
returns-clause-first c = grind (arith, common_steps)

pub returns-clause-survives : goal.returns-clause-survives
returns-clause-survives c = own-cases c.args.terms.now c.args.condition.now c.args.branch.now c.from_vec.result (returns-clause-first c)

pub returns-clause-terms : goal.returns-clause-terms
returns-clause-terms c =
    λ h. subst (CasesIn c.args.terms.now) (sym (returns-clause-first c)) (taken-in c.args.terms.now (length (condition_atoms (question c.args.terms.now c.args.condition.now))) c.args.branch.now h)
