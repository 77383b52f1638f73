use Rattle.std.proofs.Common.{refl, arith}
use Rattle.spv_whole.specs.Fraction as fraction
use Rattle.spv_whole.specs.Gcd.{gcd}
use Rattle.spv_tableau_rules.proofs.tableaux.laws.law_example_steps.Goals as goal

pub returns-clause-first : goal.returns-clause-first
unfolding fraction.sum fraction.product fraction.lowest gcd
returns-clause-first c = record { leaving_in = omega arith; leaves = refl; breaks = refl; entering_in = omega arith; enters = refl }

pub returns-clause-second : goal.returns-clause-second
unfolding fraction.sum fraction.product fraction.lowest gcd
returns-clause-second c = record { leaving_in = omega arith; leaves = refl; breaks = refl; entering_in = omega arith; enters = refl }

pub returns-clause-enters_first : goal.returns-clause-enters_first
unfolding fraction.sum fraction.product fraction.lowest gcd
returns-clause-enters_first c = refl

pub returns-clause-enters_second : goal.returns-clause-enters_second
unfolding fraction.sum fraction.product fraction.lowest gcd
returns-clause-enters_second c = refl

pub returns-clause-least : goal.returns-clause-least
unfolding fraction.sum fraction.product fraction.lowest gcd
returns-clause-least c = refl

pub returns-clause-absent : goal.returns-clause-absent
unfolding fraction.sum fraction.product fraction.lowest gcd
returns-clause-absent c = refl

pub returns-clause-out : goal.returns-clause-out
unfolding fraction.sum fraction.product fraction.lowest gcd
returns-clause-out c = refl

pub returns-clause-met : goal.returns-clause-met
unfolding fraction.sum fraction.product fraction.lowest gcd
returns-clause-met c = refl
