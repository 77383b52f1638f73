use Rattle.spv_derivations.proofs.derivation.Bridges.{on_ok}
use Rattle.spv_trail.proofs.propagation.Values.{order_compares}
use Rattle.spv_trail.proofs.propagation.RowConstraint.{goes_by, ordered_told}
use Rattle.spv_trail.proofs.propagation.telling.tell_value.Goals as goal

pub find_order-requires-clause-known : goal.find_order-requires-clause-known
find_order-requires-clause-known c = record { each = λ i k at. (c.requires.known.cores.each i k at).in_range }

pub tell_order-requires-clause-order : goal.tell_order-requires-clause-order
tell_order-requires-clause-order c = let f = c.in-Some.ensures.found.0 in (c.requires.known.cores.each f.place c.in-Some.order f.is).in_range

pub tell_order-requires-clause-comparison : goal.tell_order-requires-clause-comparison
tell_order-requires-clause-comparison c =
    order_compares c.args.terms.now c.args.known.now c.requires.known.knowledge c.requires.known.uncrossed c.args.t c.in-Some.order c.in-Some.ensures.found.0 c.in-Some.ensures.found.1

pub returns-in-Some-clause-goes : goal.returns-in-Some-clause-goes
returns-in-Some-clause-goes c = on_ok c.tell_order.result c.tell_order.ensures.tells (λ f. goes_by c.args.terms.now c.args.both.now c.tell_order.new.both _ f.literal_told)

pub returns-in-Some-clause-tells : goal.returns-in-Some-clause-tells
returns-in-Some-clause-tells c =
    on_ok c.tell_order.result c.tell_order.ensures.tells
    (λ f cases telling. ordered_told c.args.terms.now c.args.condition.now cases c.args.derivation.now c.args.known.now c.args.both.now c.tell_order.new.both c.args.t c.args.truth c.in-Some.order c.requires.known c.requires.t c.requires.value c.in-Some.ensures.found f telling)
