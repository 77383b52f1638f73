use Rattle.spv_derivations.proofs.branches.Following.{begins, case_behind, step_behind, first_path}
use Rattle.spv_derivations.proofs.branches.Behind.{steps_close}
use Rattle.spv_derivations.proofs.branches.Within.{course_closes_in, path_in}
use Rattle.spv_derivations.proofs.branches.laws.law_path.Goals as goal

pub returns-clause-begins : goal.returns-clause-begins
returns-clause-begins c = begins

pub returns-clause-cases : goal.returns-clause-cases
returns-clause-cases c = case_behind

pub returns-clause-steps : goal.returns-clause-steps
returns-clause-steps c = step_behind

pub returns-clause-first : goal.returns-clause-first
returns-clause-first c = first_path

pub returns-clause-closes : goal.returns-clause-closes
returns-clause-closes c = steps_close

pub returns-clause-within : goal.returns-clause-within
returns-clause-within c = path_in

pub returns-clause-derivations : goal.returns-clause-derivations
returns-clause-derivations c = course_closes_in
