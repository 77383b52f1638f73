use Rattle.std.proofs.Common.{◌++◌, ap, ◌∙◌}
use Rattle.std.proofs.lemmas.List.{drop_more, drop_all}
use Rattle.spv_listing_values.specs.Blanks.{numbers_down}
use Rattle.spv_listing_values.specs.Places.{tree}
use Rattle.spv_listing_values.proofs.Pieces.{nothing_popped}
use Rattle.spv_listing_values.proofs.Cases.{going_on, none_waits, none_left}
use Rattle.spv_listing_values.proofs.nodes.push_cases.Goals as goal

pub loop-node-preserved : goal.loop-node-preserved
loop-node-preserved c =
    going_on (tree c.args.texts.now) _ c.loop-node.out.items c.push_numbered.new.out.items c.loop-node.waiting.items c.pop.new.self.items c.put_cases.new.waiting.items _ c.node-item.result _ _ _
    c.loop-node.invariant c.in-Some.ensures.items c.node-item.is (drop_more c.args.nodes.now c.loop-node.node-index c.node-item.result c.loop-node-test.true) c.in_ok-push_numbered-in-Some.ensures
    (c.in_ok-put_cases-in-Some.ensures ∙ ap (λ k. c.pop.new.self.items ++ numbers_down k) c.count_cases.ensures)

pub returns-in-None : goal.returns-in-None
returns-in-None c =
    none_waits (tree c.args.texts.now) _ c.loop-node.out.items c.loop-node.waiting.items _ c.loop-node.invariant
    (nothing_popped c.loop-node.waiting.items c.pop.new.self.items _ c.in-None.ensures.items c.in-None.ensures.rest c.in-None.ensures.cases.0)

pub returns : goal.returns
returns c =
    none_left (tree c.args.texts.now) _ c.loop-node.out.items c.loop-node.waiting.items _ c.loop-node.invariant (drop_all c.loop-node.node-index c.args.nodes.now c.loop-node-test.false)
