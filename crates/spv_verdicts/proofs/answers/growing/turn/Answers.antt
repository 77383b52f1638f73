use Rattle.spv_verdicts.proofs.answers.GrownTrees.{turning_on}
use Rattle.spv_verdicts.proofs.answers.growing.turn.Goals as goal

pub loop-node-preserved : goal.loop-node-preserved
loop-node-preserved c =
    turning_on c.loop-node.other.items c.push.new.self.items c.loop-node.left.items c.pop.new.self.items c.args.nodes.items c.in-Some.node c.loop-node.invariant c.in-Some.ensures.items c.in_ok-push.ensures.items
