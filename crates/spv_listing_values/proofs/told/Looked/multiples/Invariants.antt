use Rattle.std.proofs.Common.{◌-◌, length}
use Rattle.spv_listing_values.specs.Told.{term_in}
use Rattle.spv_listing_values.proofs.Telling.{MultiplesSoFar}
use Rattle.spv_listing_values.proofs.told.Looked.multiples.Given as goal

abbrev pub invariant-loop-at : goal.invariant-loop-at
invariant-loop-at l = MultiplesSoFar (term_in l.self) l.items l.at l.multiples.items

abbrev pub decreases-loop-at : goal.decreases-loop-at
decreases-loop-at l = length l.items - l.at
