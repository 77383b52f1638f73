use Rattle.std.proofs.Common.{length, ◌+◌}
use Rattle.spv_atoms.proofs.Sums.{Summing}
use Rattle.spv_proof.specs.sums.Differences.{negated_parts}
use Rattle.spv_proof.proofs.sums.difference.part_differences.Given as goal

abbrev pub invariant-loop-t : goal.invariant-loop-t
invariant-loop-t l = Summing l.left (negated_parts l.right) l.parts.items l.left_rest (negated_parts l.right_rest)

abbrev pub decreases-loop-t : goal.decreases-loop-t
decreases-loop-t l = length l.left_rest + length l.right_rest
