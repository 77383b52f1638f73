use Rattle.std.proofs.Common.{length}
use Rattle.spv_derivations.proofs.branches.Turning.{Putting}
use Rattle.spv_derivations.proofs.branches.closing.derive_all.Given as goal

abbrev pub invariant-loop-step : goal.invariant-loop-step
invariant-loop-step l = Putting l.fn.path l.path l.left.items l.fn.steps.items

abbrev pub decreases-loop-step : goal.decreases-loop-step
decreases-loop-step l = length l.left.items
