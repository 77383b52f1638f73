use Rattle.std.proofs.Common.{◌≡◌, ◌++◌, drop}
use Rattle.spv_assign.specs.pending.Staying.{marked}
use Rattle.spv_assign.proofs.pending.substituting.marked.Given as goal

abbrev pub invariant-loop-place : goal.invariant-loop-place
invariant-loop-place l = l.all.items ++ marked (drop l.place l.marks) (drop l.place l.list) ≡ marked l.marks l.list
