use Rattle.std.proofs.Common.{arith}
use Rattle.spv_table.specs.Kept.{listed_over}
use Rattle.spv_table.proofs.Keeping.{item_in, item_behind, one_more_item, one_more_length}
use Rattle.spv_table.proofs.kept.all_kept.Goals as goal

pub kept_at-one-requires-clause-t : goal.kept_at-one-requires-clause-t
kept_at-one-requires-clause-t c =
    item_in c.args.terms.now (listed_over c.args.terms.now c.args.values.now) c.args.order.now c.as_slice-t-items.result.now c.loop-t.t-index (record { 0 = 0 }) c.as_slice-t-items.ensures c.requires.order
    (omega (arith, c.loop-t-test.true))

pub kept_at-one-requires-clause-arguments : goal.kept_at-one-requires-clause-arguments
kept_at-one-requires-clause-arguments c =
    item_behind c.args.terms.now (listed_over c.args.terms.now c.args.values.now) c.args.order.now c.as_slice-t-items.result.now c.loop-t.t-index (record { 0 = 0 }) c.as_slice-t-items.ensures
    (omega (arith, c.loop-t-test.true)) c.requires.behind c.loop-t.kept.items c.as_slice.result.now c.as_slice.ensures.value c.loop-t.invariant.count

pub loop-t-preserved : goal.loop-t-preserved
loop-t-preserved c = record {
  count = one_more_length c.loop-t.kept.items c.push.new.self.items c.loop-t.t-index c.kept_at-one.result c.loop-t.invariant.count c.in_ok-push.ensures.items;
  kept = one_more_item c.args.terms.now (listed_over c.args.terms.now c.args.values.now) c.args.order.now c.as_slice-t-items.result.now c.loop-t.t-index (record { 0 = 0 }) c.as_slice-t-items.ensures
      (omega (arith, c.loop-t-test.true)) c.loop-t.kept.items c.push.new.self.items c.kept_at-one.result c.loop-t.invariant.count c.loop-t.invariant.kept c.kept_at-one.ensures c.in_ok-push.ensures.items;
}
