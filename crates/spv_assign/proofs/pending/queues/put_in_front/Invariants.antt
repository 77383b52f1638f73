use Rattle.std.proofs.Common.{◌≡◌, ◌++◌}
use Rattle.spv_assign.proofs.pending.queues.put_in_front.Given as goal

abbrev pub invariant-loop-step : goal.invariant-loop-step
invariant-loop-step l = l.left.items ++ l.all.items ≡ l.initial.left.items ++ l.initial.all.items

abbrev pub decreases-loop-step : goal.decreases-loop-step
decreases-loop-step l = l.left.len
