use Rattle.std.proofs.Common.{refl}
use Rattle.spv_whole.specs.Fraction as fraction
use Rattle.spv_whole.specs.Gcd.{gcd}
use Rattle.spv_proof_tests.proofs.rules.law_multiples.Goals as goal

pub returns : goal.returns
unfolding fraction.sum fraction.product fraction.lowest gcd
returns c = record { each_below_the_other = refl; a_part_is_left = refl; the_sum_is_0 = refl; an_order_and_its_negation = refl; an_order_and_the_negation_of_another = refl; an_equation_from_the_other_side = refl; an_order_from_the_other_side = refl; the_negation_of_an_equation = refl; no_relation = refl; an_equation_of_formulas = refl; no_such_fact = refl; a_list_for_the_other_direction = refl; no_fact = refl; numbers = refl; formulas = refl; equal_formulas = refl }
