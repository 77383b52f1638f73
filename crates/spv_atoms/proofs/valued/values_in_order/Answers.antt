use Rattle.std.proofs.Common.{Bool, List, Option, None, length, ap, sym, subst, ◌∙◌, arith}
use Rattle.spv_atoms.specs.Valued.{AreValued}
use Rattle.spv_atoms.proofs.Values.{item_in, item_inside, item_valued, one_more_value, own_at}
use Rattle.spv_atoms.proofs.valued.values_in_order.Goals as goal

pub value-value-requires-clause-t : goal.value-value-requires-clause-t
value-value-requires-clause-t c =
    item_in c.args.terms.now c.law_arena.ensures c.args.order.now c.as_slice-t-items.result.now c.loop-t.t-index (record { 0 = 0 }) c.as_slice-t-items.ensures c.requires.order (omega (arith, c.loop-t-test.true))

pub value-value-requires-clause-inside : goal.value-value-requires-clause-inside
value-value-requires-clause-inside c =
    item_inside c.args.terms.now c.law_arena.ensures c.args.order.now c.as_slice-t-items.result.now c.loop-t.found.items c.as_slice.result.now c.loop-t.t-index (record { 0 = 0 }) c.as_slice-t-items.ensures c.as_slice.ensures.value
    c.loop-t.invariant.count (omega (arith, c.loop-t-test.true)) c.requires.layered

pub loop-t-preserved : goal.loop-t-preserved
loop-t-preserved c = record {
  count = one_more_value c.args.terms.now c.law_arena.ensures c.loop-t.found.items c.push.new.self.items c.loop-t.t-index c.value-value.result c.loop-t.invariant.count c.in_ok-push.ensures.items;
  valued = λ given own_given. item_valued c.args.terms.now c.law_arena.ensures given c.args.order.now c.as_slice-t-items.result.now c.loop-t.found.items c.push.new.self.items c.loop-t.t-index (record { 0 = 0 }) c.value-value.result (c.loop-t.invariant.valued given own_given)
      c.loop-t.invariant.count c.as_slice-t-items.ensures (omega (arith, c.loop-t-test.true)) c.in_ok-push.ensures.items (
      c.value-value.ensures given (subst (λ (vs : List (Option Bool)). AreValued c.args.terms.now given c.args.order.now vs) (sym c.as_slice.ensures.value) (c.loop-t.invariant.valued given own_given))
      (own_at c.args.terms.now given c.args.order.now c.as_slice-t-items.result.now c.args.own.now c.loop-t.t-index (record { 0 = 0 }) None (length c.as_slice-place.result.now) (ap length c.as_slice-place.ensures.value ∙ c.loop-t.invariant.count) c.as_slice-t-items.ensures own_given (omega (arith, c.loop-t-test.true))));
}
