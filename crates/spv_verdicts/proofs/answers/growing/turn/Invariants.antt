use Rattle.std.proofs.Common.{length}
use Rattle.spv_verdicts.proofs.answers.GrownTrees.{Turning}
use Rattle.spv_verdicts.proofs.answers.growing.turn.Given as goal

abbrev pub invariant-loop-node : goal.invariant-loop-node
invariant-loop-node l = Turning l.other.items l.left.items l.fn.nodes.items

abbrev pub decreases-loop-node : goal.decreases-loop-node
decreases-loop-node l = length l.left.items
