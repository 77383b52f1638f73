use Rattle.std.proofs.Common.{length, ◌+◌}
use Rattle.spv_atoms.proofs.Sums.{Summing}
use Rattle.spv_atoms.proofs.parts.sum.Given as goal

abbrev pub invariant-loop-t : goal.invariant-loop-t
invariant-loop-t l = Summing l.left l.right l.parts.items l.left_rest l.right_rest

abbrev pub decreases-loop-t : goal.decreases-loop-t
decreases-loop-t l = length l.left_rest + length l.right_rest
