use Rattle.std.proofs.Common.{◌≡◌, ◌++◌, drop}
use Rattle.spv_assign.specs.pending.Steps.{all_with_id}
use Rattle.spv_assign.proofs.pending.queues.with_ids.Given as goal

abbrev pub invariant-loop-place : goal.invariant-loop-place
invariant-loop-place l = l.all.items ++ all_with_id (drop l.place l.steps.items) (drop l.place l.ids) ≡ all_with_id l.steps.items l.ids
