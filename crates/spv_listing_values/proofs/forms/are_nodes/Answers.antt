use Rattle.std.proofs.Common.{sym, ◌∙◌}
use Rattle.spv_listing_values.specs.Forms.{is_node}
use Rattle.spv_listing_values.specs.Mapped.{node_at}
use Rattle.spv_listing_values.specs.Places.{tree}
use Rattle.spv_listing_values.proofs.Judging.{one_fails}
use Rattle.spv_listing_values.proofs.forms.are_nodes.Goals as goal

pub returns-then-not-is_node : goal.returns-then-not-is_node
returns-then-not-is_node c =
    sym (one_fails is_node (node_at (tree c.args.texts.now)) c.args.nodes.now c.loop-node.node-index c.node-item.result c.loop-node-test.true c.node-item.is (sym c.is_node.ensures ∙ c.if-not-is_node.true))
