use Rattle.spv_rechecking.proofs.PartsLemmas.{ArePlacing}
use Rattle.spv_rechecking.proofs.parts.parts_of.Given as goal

abbrev pub invariant-loop-place : goal.invariant-loop-place
invariant-loop-place l = ArePlacing l.nodes l.roots.items l.parts.items l.place

abbrev pub decreases-loop-place : goal.decreases-loop-place
decreases-loop-place l = l.place
