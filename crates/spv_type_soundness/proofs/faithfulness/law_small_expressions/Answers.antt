use Rattle.spv_type_soundness.proofs.faithfulness.Examples.{sums_are_kept, from_the_left, relations_are_kept, factors_are_kept, numbers_are_kept, indices_are_kept}
use Rattle.spv_type_soundness.proofs.faithfulness.law_small_expressions.Goals as goal

pub returns-clause-sums : goal.returns-clause-sums
returns-clause-sums c = sums_are_kept

pub returns-clause-from_the_left : goal.returns-clause-from_the_left
returns-clause-from_the_left c = from_the_left

pub returns-clause-relations : goal.returns-clause-relations
returns-clause-relations c = relations_are_kept

pub returns-clause-numbers : goal.returns-clause-numbers
returns-clause-numbers c = numbers_are_kept

pub returns-clause-indices : goal.returns-clause-indices
returns-clause-indices c = indices_are_kept

pub returns-clause-factors : goal.returns-clause-factors
returns-clause-factors c = factors_are_kept
