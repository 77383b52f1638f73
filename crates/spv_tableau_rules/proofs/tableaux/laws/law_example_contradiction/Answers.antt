use Rattle.std.proofs.Common.{refl}
use Rattle.spv_whole.specs.Fraction as fraction
use Rattle.spv_whole.specs.Gcd.{gcd}
use Rattle.spv_tableau_rules.proofs.tableaux.laws.law_example_contradiction.Goals as goal

pub returns-clause-sums : goal.returns-clause-sums
unfolding fraction.sum fraction.product fraction.lowest gcd
returns-clause-sums c = refl

pub returns-clause-may_multiply : goal.returns-clause-may_multiply
unfolding fraction.sum fraction.product fraction.lowest gcd
returns-clause-may_multiply c = refl
