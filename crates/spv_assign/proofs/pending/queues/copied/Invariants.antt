use Rattle.std.proofs.Common.{◌≡◌, take}
use Rattle.spv_assign.proofs.pending.queues.copied.Given as goal

abbrev pub invariant-loop-place : goal.invariant-loop-place
invariant-loop-place l = l.all.items ≡ take l.place l.steps.items
