use Rattle.std.proofs.Common.{length, not, ◌∙◌, arith}
use Rattle.spv_logic.specs.declared.conditions.TermId.{TermId}
use Rattle.spv_term.specs.Arena.{tree}
use Rattle.spv_models.specs.leaf_models.Subterms.{is_listed}
use Rattle.spv_search_terms.proofs.subterms.FlagLemmas.{listed-at}
use Rattle.spv_search_terms.proofs.subterms.PlaceLemmas.{item_in, item_at, item_next}
use Rattle.spv_search_terms.proofs.subterms.flags.listed.Goals as goal

pub node-node-requires : goal.node-node-requires
node-node-requires c =
    item_in (length c.args.terms.now.nodes) c.args.order.now c.as_slice-t-items.result.now c.loop-t.t-index (record { 0 = 0 }) c.as_slice-t-items.ensures c.requires.in_range (omega (arith, c.loop-t-test.true))

pub loop-t-preserved : goal.loop-t-preserved
loop-t-preserved c =
    item_next (λ (t : TermId). is_listed (tree c.args.terms.now t)) c.args.order.now c.as_slice-t-items.result.now c.loop-t.t-index (record { 0 = 0 }) c.loop-t.flags.items c.push.new.self.items (not c.means-flag.result) c.as_slice-t-items.ensures
    (omega (arith, c.loop-t-test.true)) c.loop-t.invariant
    (listed-at c.args.terms.now c.law_arena.ensures c.args.order.now c.requires.behind c.as_slice.result.now (c.as_slice.ensures.value ∙ c.in_ok-constants.ensures) _ c.node-node.result.now c.node-node.ensures
    c.as_slice-in-loop-t.result.now c.as_slice-in-loop-t.ensures c.loop-t.t-index
    (item_at c.args.order.now c.as_slice-t-items.result.now c.loop-t.t-index (record { 0 = 0 }) c.as_slice-t-items.ensures (omega (arith, c.loop-t-test.true))) c.means-flag.result c.means-flag.ensures)
    c.in_ok-push.ensures.items
