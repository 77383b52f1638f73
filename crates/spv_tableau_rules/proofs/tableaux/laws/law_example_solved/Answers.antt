use Rattle.std.proofs.Common.{refl}
use Rattle.spv_whole.specs.Fraction as fraction
use Rattle.spv_whole.specs.Gcd.{gcd}
use Rattle.spv_tableau_rules.proofs.tableaux.laws.law_example_solved.Goals as goal

pub returns-clause-first : goal.returns-clause-first
unfolding fraction.sum fraction.product fraction.lowest gcd
returns-clause-first c = refl

pub returns-clause-second : goal.returns-clause-second
unfolding fraction.sum fraction.product fraction.lowest gcd
returns-clause-second c = refl

pub returns-clause-third : goal.returns-clause-third
unfolding fraction.sum fraction.product fraction.lowest gcd
returns-clause-third c = refl

pub returns-clause-second_point : goal.returns-clause-second_point
unfolding fraction.sum fraction.product fraction.lowest gcd
returns-clause-second_point c = refl

pub returns-clause-third_point : goal.returns-clause-third_point
unfolding fraction.sum fraction.product fraction.lowest gcd
returns-clause-third_point c = refl
