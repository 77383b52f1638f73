use Rattle.std.proofs.Common.{refl}
use Rattle.spv_whole.specs.Fraction as fraction
use Rattle.spv_whole.specs.Gcd.{gcd}
use Rattle.spv_tableau_rules.proofs.tableaux.laws.law_example_inside.Goals as goal

pub returns-clause-moved : goal.returns-clause-moved
unfolding fraction.sum fraction.product fraction.lowest gcd
returns-clause-moved c = refl

pub returns-clause-as_held : goal.returns-clause-as_held
unfolding fraction.sum fraction.product fraction.lowest gcd
returns-clause-as_held c = refl

pub returns-clause-at_bounds : goal.returns-clause-at_bounds
unfolding fraction.sum fraction.product fraction.lowest gcd
returns-clause-at_bounds c = refl
