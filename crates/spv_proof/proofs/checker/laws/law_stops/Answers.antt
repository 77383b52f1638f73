use Rattle.std.proofs.Common.{refl}
use Rattle.spv_whole.specs.Fraction as fraction
use Rattle.spv_whole.specs.Gcd.{gcd}
use Rattle.spv_proof.proofs.checker.laws.law_stops.Goals as goal

pub returns-clause-room : goal.returns-clause-room
unfolding fraction.sum fraction.product fraction.lowest gcd
returns-clause-room c = refl

pub returns-clause-no_room : goal.returns-clause-no_room
unfolding fraction.sum fraction.product fraction.lowest gcd
returns-clause-no_room c = refl

pub returns-clause-wide_at_x : goal.returns-clause-wide_at_x
unfolding fraction.sum fraction.product fraction.lowest gcd
returns-clause-wide_at_x c = refl

pub returns-clause-wide_at_y : goal.returns-clause-wide_at_y
unfolding fraction.sum fraction.product fraction.lowest gcd
returns-clause-wide_at_y c = refl

pub returns-clause-negative_first : goal.returns-clause-negative_first
unfolding fraction.sum fraction.product fraction.lowest gcd
returns-clause-negative_first c = refl

pub returns-clause-wide_relation : goal.returns-clause-wide_relation
unfolding fraction.sum fraction.product fraction.lowest gcd
returns-clause-wide_relation c = refl
