use Rattle.std.proofs.Common.{arith}
use Rattle.spv_decisions.specs.literal_lookup.Orders as spec
use Rattle.spv_decisions.proofs.literal_lookup.Turns.{all_of_them}
use Rattle.spv_decisions.proofs.literal_lookup.Among.{there_at, none_passes}
use Rattle.spv_decisions.proofs.literal_lookup.Ordered.{NoOrder, no_order_more, order_found}
use Rattle.spv_decisions.proofs.literal_lookup.ordering.find_order.Goals as goal

pub orders-requires-clause-k : goal.orders-requires-clause-k
orders-requires-clause-k c = there_at c.args.terms.now c.args.known.now c.loop-k.k-index _ c.requires.known c.loop-k-test.true

pub returns-then-orders-clause-found : goal.returns-then-orders-clause-found
returns-then-orders-clause-found c = order_found c.args.terms.now c.args.t c.args.known.now c.loop-k.k-index _ c.orders.result c.loop-k-test.true c.orders.ensures.value c.if-orders.true

pub loop-k-preserved : goal.loop-k-preserved
loop-k-preserved c = no_order_more c.args.terms.now c.args.t c.args.known.now c.loop-k.k-index _ c.orders.result c.loop-k.invariant c.loop-k-test.true c.orders.ensures.value c.if-orders.false

pub returns-clause-none : goal.returns-clause-none
returns-clause-none c =
    none_passes (spec.orders c.args.terms.now c.args.t) c.args.known.now
    (all_of_them (NoOrder c.args.terms.now c.args.t) c.args.known.now c.loop-k.k-index c.loop-k.invariant (omega (arith, c.loop-k-test.false)))
