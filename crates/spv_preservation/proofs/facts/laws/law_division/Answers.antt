use Rattle.std.proofs.Common.{ap}
use Rattle.std.proofs.lemmas.Int.{quot-rem, rem_below}
use Rattle.spv_logic.specs.Values.{Number}
use Rattle.spv_preservation.proofs.facts.Values.{of_positive, of_negative}
use Rattle.spv_preservation.proofs.facts.laws.law_division.Goals as goal

pub returns-clause-splits : goal.returns-clause-splits
returns-clause-splits c a b symbols v = ap Number (quot-rem a b)

pub returns-clause-smaller : goal.returns-clause-smaller
returns-clause-smaller c a b symbols v above = rem_below a b above

pub returns-clause-positive : goal.returns-clause-positive
returns-clause-positive c m b symbols v = ap Number (of_positive m b)

pub returns-clause-negative : goal.returns-clause-negative
returns-clause-negative c m b symbols v = ap Number (of_negative m b)
