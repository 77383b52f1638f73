use Rattle.std.proofs.Common.{take}
use Rattle.spv_rechecking.proofs.AllNodes.{AreMade}
use Rattle.spv_rechecking.proofs.converting.nodes_of.Given as goal

abbrev pub invariant-loop-place : goal.invariant-loop-place
invariant-loop-place l = AreMade l.names l.terms l.images (take l.place l.nodes) (take l.place l.parts) l.list.items
