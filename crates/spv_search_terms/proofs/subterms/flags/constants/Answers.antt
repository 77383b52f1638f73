use Rattle.std.proofs.Common.{length, ◌∙◌, arith}
use Rattle.spv_search_terms.proofs.subterms.FlagLemmas.{constant_id, constant-at}
use Rattle.spv_search_terms.proofs.subterms.PlaceLemmas.{item_in, item_at, item_next, low}
use Rattle.spv_search_terms.proofs.subterms.flags.constants.Goals as goal

pub node-node-requires : goal.node-node-requires
node-node-requires c =
    item_in (length c.args.terms.now.nodes) c.args.order.now c.as_slice-t-items.result.now c.loop-t.t-index (record { 0 = 0 }) c.as_slice-t-items.ensures c.requires.in_range (omega (arith, c.loop-t-test.true))

pub loop-t-preserved : goal.loop-t-preserved
loop-t-preserved c =
    item_next (constant_id c.args.terms.now c.law_arena.ensures) c.args.order.now c.as_slice-t-items.result.now c.loop-t.t-index (record { 0 = 0 }) c.loop-t.flags.items c.push.new.self.items c.constant-flag.result c.as_slice-t-items.ensures
    (omega (arith, c.loop-t-test.true)) c.loop-t.invariant
    (constant-at c.args.terms.now c.law_arena.ensures c.args.order.now c.requires.behind c.as_slice.result.now c.loop-t.t-index (c.as_slice.ensures.value ∙ c.loop-t.invariant) _ c.node-node.result.now c.node-node.ensures
    c.as_slice-in-loop-t.result.now c.as_slice-in-loop-t.ensures c.constant-flag.result
    (item_at c.args.order.now c.as_slice-t-items.result.now c.loop-t.t-index (record { 0 = 0 }) c.as_slice-t-items.ensures (omega (arith, c.loop-t-test.true)))
    (low c.args.order.now c.as_slice-t-items.result.now c.loop-t.t-index c.as_slice-t-items.ensures (omega (arith, c.loop-t-test.true))) c.constant-flag.ensures)
    c.in_ok-push.ensures.items
