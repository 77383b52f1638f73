use Rattle.spv_listing_values.specs.Told.{term_in}
use Rattle.spv_listing_values.proofs.Telling.{NoneSoFar}
use Rattle.spv_listing_values.proofs.told.Looked.before_stroke.Given as goal

abbrev pub invariant-loop-place : goal.invariant-loop-place
invariant-loop-place l = NoneSoFar (term_in l.self) l.items l.place
