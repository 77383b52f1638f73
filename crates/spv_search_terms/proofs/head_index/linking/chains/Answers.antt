use Rattle.std.proofs.Common.{◌-◌, length, unwrap_or, refl, sym, ◌∙◌, arith}
use Rattle.std.proofs.lemmas.Option.{slice_get-get_or}
use Rattle.spv_search_terms.specs.head_index.Chains.{heads}
use Rattle.spv_search_terms.proofs.head_index.LinkLemmas.{head-at, chain_next, length-heads, item_in}
use Rattle.spv_search_terms.proofs.head_index.linking.chains.Goals as goal

pub node-requires : goal.node-requires
node-requires c =
    item_in (length c.args.terms.now.nodes) c.args.found.now (c.loop-left.left - 1) (record { 0 = 0 }) c.requires
    (omega (arith, c.loop-left.invariant.within, length-heads c.args.terms.now c.args.found.now, c.loop-left-test.true))

pub loop-left-preserved : goal.loop-left-preserved
loop-left-preserved c =
    chain_next (heads c.args.terms.now c.args.found.now) c.loop-left.left (c.loop-left.left - 1) c.loop-left.next.items c.loop-left.places c.loop-left.invariant (omega (arith, c.loop-left-test.true)) c.node.result.now.head
    (head-at c.args.terms.now c.law_arena.ensures c.args.found.now (c.loop-left.left - 1) _ c.node.result.now
    (slice_get-get_or c.args.found.now (c.loop-left.left - 1) (record { 0 = 0 })
    (omega (arith, c.loop-left.invariant.within, length-heads c.args.terms.now c.args.found.now, c.loop-left-test.true)))
    c.node.ensures)
    _ c.put.new.self c.unwrap_or.result
    (c.unwrap_or.ensures ∙ (λ i. unwrap_or (c.get.ensures i) (sym (length-heads c.args.terms.now c.args.found.now) i))) refl c.in_ok-put.ensures
