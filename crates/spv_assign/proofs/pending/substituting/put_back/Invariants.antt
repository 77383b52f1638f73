use Rattle.spv_assign.proofs.pending.Unchanged.{Back}
use Rattle.spv_assign.proofs.pending.substituting.put_back.Given as goal

abbrev pub invariant-loop-place : goal.invariant-loop-place
invariant-loop-place l = Back l.marks l.list l.others l.all.items l.place l.next
