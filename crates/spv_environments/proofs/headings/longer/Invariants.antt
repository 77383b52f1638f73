use Rattle.spv_environments.specs.IndexedHeadings.{IsLonger}
use Rattle.spv_environments.proofs.headings.longer.Given as goal

abbrev pub invariant-loop-place : goal.invariant-loop-place
invariant-loop-place g l = IsLonger g.old l.places.items l.place
