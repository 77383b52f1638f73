use Rattle.std.proofs.Common.{refl}
use Rattle.spv_whole.specs.Gcd.{gcd}
use Rattle.spv_rules.proofs.matching.laws.law_examples.Goals as goal

pub returns-clause-first_term : goal.returns-clause-first_term
unfolding gcd
returns-clause-first_term c = refl

pub returns-clause-left_to_right : goal.returns-clause-left_to_right
unfolding gcd
returns-clause-left_to_right c = refl

pub returns-clause-rules_first : goal.returns-clause-rules_first
unfolding gcd
returns-clause-rules_first c = refl

pub returns-clause-side_by_side : goal.returns-clause-side_by_side
unfolding gcd
returns-clause-side_by_side c = refl
