use Rattle.std.proofs.Common.{length}
use Rattle.spv_verdicts.proofs.answers.GrownTrees.{PlacingAll}
use Rattle.spv_verdicts.proofs.answers.growing.place_all.Given as goal

abbrev pub invariant-loop-node : goal.invariant-loop-node
invariant-loop-node l = PlacingAll l.fn.nodes.items l.left.items l.roots.items l.other.items

abbrev pub decreases-loop-node : goal.decreases-loop-node
decreases-loop-node l = length l.left.items
