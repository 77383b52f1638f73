use Rattle.spv_listing_values.specs.Told.{term_in}
use Rattle.spv_listing_values.proofs.Telling.{FactsSoFar}
use Rattle.spv_listing_values.proofs.told.Looked.facts.Given as goal

abbrev pub invariant-loop-item : goal.invariant-loop-item
invariant-loop-item l = FactsSoFar (term_in l.self) l.items l.item-index l.facts.items
