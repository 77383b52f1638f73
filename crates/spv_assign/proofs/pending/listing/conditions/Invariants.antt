use Rattle.std.proofs.Common.{drop}
use Rattle.spv_assign.proofs.pending.WrittenOut.{Listed}
use Rattle.spv_assign.proofs.pending.listing.conditions.Given as goal

abbrev pub invariant-loop-place : goal.invariant-loop-place
invariant-loop-place l = Listed l.steps.items (drop l.place l.steps.items) l.known.items l.all.items
