use Rattle.spv_environments.specs.Indexed.{IndexedTo}
use Rattle.spv_environments.proofs.indexed.index.Given as goal

abbrev pub invariant-loop-place : goal.invariant-loop-place
invariant-loop-place l = IndexedTo l.place l.forms l.pointers.items
