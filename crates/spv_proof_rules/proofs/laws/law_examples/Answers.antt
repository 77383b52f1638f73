use Rattle.std.proofs.Common.{refl}
use Rattle.spv_whole.specs.Fraction as fraction
use Rattle.spv_whole.specs.Gcd.{gcd}
use Rattle.spv_proof_rules.proofs.laws.law_examples.Goals as goal

pub returns-clause-gap : goal.returns-clause-gap
unfolding fraction.sum fraction.product fraction.lowest gcd
returns-clause-gap c = refl

pub returns-clause-a_sum_of_0_closes_nothing : goal.returns-clause-a_sum_of_0_closes_nothing
unfolding fraction.sum fraction.product fraction.lowest gcd
returns-clause-a_sum_of_0_closes_nothing c = refl

pub returns-clause-a_multiplier_is_not_negative : goal.returns-clause-a_multiplier_is_not_negative
unfolding fraction.sum fraction.product fraction.lowest gcd
returns-clause-a_multiplier_is_not_negative c = refl

pub returns-clause-an_equality_has_two_lists : goal.returns-clause-an_equality_has_two_lists
unfolding fraction.sum fraction.product fraction.lowest gcd
returns-clause-an_equality_has_two_lists c = refl

pub returns-clause-both_lists_count : goal.returns-clause-both_lists_count
unfolding fraction.sum fraction.product fraction.lowest gcd
returns-clause-both_lists_count c = refl

pub returns-clause-all_arguments_are_equal : goal.returns-clause-all_arguments_are_equal
unfolding fraction.sum fraction.product fraction.lowest gcd
returns-clause-all_arguments_are_equal c = refl

pub returns-clause-no_argument_is_missing : goal.returns-clause-no_argument_is_missing
unfolding fraction.sum fraction.product fraction.lowest gcd
returns-clause-no_argument_is_missing c = refl

pub returns-clause-whole_numbers_have_three_cases : goal.returns-clause-whole_numbers_have_three_cases
unfolding fraction.sum fraction.product fraction.lowest gcd
returns-clause-whole_numbers_have_three_cases c = refl

pub returns-clause-two_are_too_few : goal.returns-clause-two_are_too_few
unfolding fraction.sum fraction.product fraction.lowest gcd
returns-clause-two_are_too_few c = refl

pub returns-clause-a_case_has_its_own_facts : goal.returns-clause-a_case_has_its_own_facts
unfolding fraction.sum fraction.product fraction.lowest gcd
returns-clause-a_case_has_its_own_facts c = refl

pub returns-clause-each_case_is_closed : goal.returns-clause-each_case_is_closed
unfolding fraction.sum fraction.product fraction.lowest gcd
returns-clause-each_case_is_closed c = refl

pub returns-clause-a_value_comes_from_a_cited_fact : goal.returns-clause-a_value_comes_from_a_cited_fact
unfolding fraction.sum fraction.product fraction.lowest gcd
returns-clause-a_value_comes_from_a_cited_fact c = refl
