use Rattle.std.proofs.Common.{◌≡◌, map, take}
use Rattle.spv_assign.specs.pending.Steps.{id_of}
use Rattle.spv_assign.proofs.pending.queues.ids.Given as goal

abbrev pub invariant-loop-place : goal.invariant-loop-place
invariant-loop-place l = l.ids.items ≡ map id_of (take l.place l.steps.items)
