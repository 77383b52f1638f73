use Rattle.std.proofs.Common.{[], ◌∷◌, length, sym, subst, arith}
use Rattle.spv_listing_values.specs.Mapped.{split_terms}
use Rattle.spv_listing_values.specs.Places.{AreBefore}
use Rattle.spv_rechecking.specs.Converted.{StepsPlaced}
use Rattle.spv_rechecking.proofs.NodeLemmas.{placed_length}
use Rattle.spv_rechecking.proofs.AllNodes.{steps_placed, split_placed, no_nodes, node_fails, more_nodes, all_nodes, all_tree}
use Rattle.spv_rechecking.proofs.converting.nodes_of.Goals as goal

pub bounds-parts-place : goal.bounds-parts-place
bounds-parts-place c = omega (arith, c.loop-place-test.true, placed_length 0 (0 ∷ []) c.args.nodes.now c.args.parts.now c.requires.parts)

pub loop-place-init : goal.loop-place-init
loop-place-init c = no_nodes c.args.names.now c.args.terms.now c.args.images.now c.args.nodes.now c.args.parts.now c.new-list.result.items c.new-list.ensures.items

pub node_of-requires-clause-steps : goal.node_of-requires-clause-steps
node_of-requires-clause-steps c =
    subst (λ n. StepsPlaced (length c.args.images.now) n.steps) (sym c.index-nodes-place.is)
    (steps_placed (length c.args.images.now) c.args.nodes.now c.loop-place.place c.index-nodes-place.result c.loop-place-test.true c.requires.placed)

pub node_of-requires-clause-split : goal.node_of-requires-clause-split
node_of-requires-clause-split c =
    subst (λ n. AreBefore (length c.args.images.now) (split_terms n.split)) (sym c.index-nodes-place.is)
    (split_placed (length c.args.images.now) c.args.nodes.now c.loop-place.place c.index-nodes-place.result c.loop-place-test.true c.requires.placed)

pub returns-in_default-clause-nodes : goal.returns-in_default-clause-nodes
returns-in_default-clause-nodes c =
    node_fails c.args.names.now c.args.terms.now c.args.images.now c.args.nodes.now c.args.parts.now c.loop-place.place c.index-nodes-place.result c.index-nodes-place.result c.index-nodes-place.is c.loop-place-test.true c.index-parts-place.result
    c.index-parts-place.result c.in_ok-made.made c.in_ok-made.ensures c.in_default.is

pub loop-place-preserved : goal.loop-place-preserved
loop-place-preserved c =
    more_nodes c.args.names.now c.args.terms.now c.args.images.now c.args.nodes.now c.args.parts.now c.loop-place.place c.index-nodes-place.result c.index-nodes-place.result c.index-nodes-place.is c.loop-place-test.true c.index-parts-place.result
    c.index-parts-place.result c.in_ok-made.made c.in_ok-made.ensures c.index-parts-place.is
    (omega (arith, c.loop-place-test.true, placed_length 0 (0 ∷ []) c.args.nodes.now c.args.parts.now c.requires.parts)) c.loop-place.list.items c.loop-place.invariant c.in-Some.one c.in-Some.is c.push_node.new.list.items
    c.in_ok-push_node.ensures

pub returns-clause-nodes : goal.returns-clause-nodes
returns-clause-nodes c =
    all_nodes c.args.names.now c.args.terms.now c.args.images.now c.requires.images c.args.nodes.now c.args.parts.now c.requires.parts c.loop-place.place (omega (arith, c.loop-place-test.false))
    (omega (arith, c.loop-place-test.false, placed_length 0 (0 ∷ []) c.args.nodes.now c.args.parts.now c.requires.parts)) c.loop-place.list.items c.loop-place.invariant c.requires.placed

pub returns-clause-tree : goal.returns-clause-tree
returns-clause-tree c =
    all_tree c.args.names.now c.args.terms.now c.args.images.now c.requires.images c.args.nodes.now c.args.parts.now c.requires.parts c.loop-place.place (omega (arith, c.loop-place-test.false))
    (omega (arith, c.loop-place-test.false, placed_length 0 (0 ∷ []) c.args.nodes.now c.args.parts.now c.requires.parts)) c.loop-place.list.items c.loop-place.invariant c.requires.cases
