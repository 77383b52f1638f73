use Rattle.std.proofs.Common.{refl}
use Rattle.spv_whole.specs.Fraction as fraction
use Rattle.spv_whole.specs.Gcd.{gcd}
use Rattle.spv_tableau_rules.proofs.tableaux.laws.law_example_forms.Goals as goal

pub returns-clause-parts : goal.returns-clause-parts
unfolding fraction.sum fraction.product fraction.lowest gcd
returns-clause-parts c = refl

pub returns-clause-count : goal.returns-clause-count
unfolding fraction.sum fraction.product fraction.lowest gcd
returns-clause-count c = refl

pub returns-clause-coefficients : goal.returns-clause-coefficients
unfolding fraction.sum fraction.product fraction.lowest gcd
returns-clause-coefficients c = refl
