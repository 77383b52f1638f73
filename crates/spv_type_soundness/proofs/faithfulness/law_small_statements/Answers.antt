use Rattle.spv_type_soundness.proofs.faithfulness.Examples.{assignments_are_kept, branches_are_kept, loops_and_arms_are_kept}
use Rattle.spv_type_soundness.proofs.faithfulness.law_small_statements.Goals as goal

pub returns-clause-assignments : goal.returns-clause-assignments
returns-clause-assignments c = assignments_are_kept

pub returns-clause-branches : goal.returns-clause-branches
returns-clause-branches c = branches_are_kept

pub returns-clause-loops_and_arms : goal.returns-clause-loops_and_arms
returns-clause-loops_and_arms c = loops_and_arms_are_kept
