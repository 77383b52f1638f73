use Rattle.std.proofs.Common.{length, ap, ◌∙◌}
use Rattle.spv_verdicts.proofs.answers.GrownTrees.{parts_there, placing_on}
use Rattle.spv_verdicts.proofs.answers.growing.place_all.Goals as goal

pub place_node-requires : goal.place_node-requires
place_node-requires c =
    parts_there c.args.nodes.items c.loop-node.left.items c.pop.new.self.items c.in-Some.node c.loop-node.roots.items c.loop-node.other.items c.requires c.loop-node.invariant c.in-Some.ensures.items

pub loop-node-preserved : goal.loop-node-preserved
loop-node-preserved c =
    placing_on c.args.nodes.items c.loop-node.left.items c.pop.new.self.items c.in-Some.node c.loop-node.roots.items c.place_node.new.roots.items c.loop-node.other.items c.push.new.self.items c.in_ok-node.node c.in_ok-place.place
    c.loop-node.invariant c.in-Some.ensures.items (c.in_ok-place.ensures ∙ ap length c.as_slice.ensures.value) c.in_ok-node.ensures c.in_ok-push.ensures.items
