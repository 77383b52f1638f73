use Rattle.spv_models.proofs.split_trees.Trying.{both-truths-not-live, opposite-not-live, numerals-not-live, point-not-live, values-not-live}
use Rattle.spv_models.proofs.split_trees.laws.law_contradictions.Goals as goal

pub returns-clause-true_and_false : goal.returns-clause-true_and_false
returns-clause-true_and_false c live = both-truths-not-live live

pub returns-clause-opposite_values : goal.returns-clause-opposite_values
returns-clause-opposite_values c live = opposite-not-live live

pub returns-clause-two_numerals : goal.returns-clause-two_numerals
returns-clause-two_numerals c live = numerals-not-live live

pub returns-clause-no_point : goal.returns-clause-no_point
returns-clause-no_point c live = point-not-live live

pub returns-clause-no_equal_values : goal.returns-clause-no_equal_values
returns-clause-no_equal_values c live = values-not-live live
