use Rattle.spv_derivations.proofs.derivation.Bridges.{if_ok}
use Rattle.spv_trail.proofs.propagation.Values.{core_denied, denied_core, no_order_false}
use Rattle.spv_decisions.specs.literal_lookup.Orders.{has_order}
use Rattle.spv_trail.proofs.propagation.valuing.denied_fact.Goals as goal

pub find_order-requires-clause-known : goal.find_order-requires-clause-known
find_order-requires-clause-known c = record { each = λ i k at. (c.requires.known.each i k at).in_range }

pub returns : goal.returns
returns c =
    if_ok c.deny.result c.deny.ensures
    (λ n denied cases may formula. denied_core c.args.terms.now c.args.condition.now c.args.falsity cases c.args.derivation.now c.deny.new.derivation c.args.known.now c.args.core c.args.truth c.in-Some.order n
    (core_denied c.args.terms.now c.args.known.now c.args.core c.args.truth c.requires.bare c.requires.value c.requires.other).0 c.in-Some.ensures.found
    (λ path false_is is crosses number. denied cases path false_is is crosses number) may formula)

pub unreachable-requires : goal.unreachable-requires
unreachable-requires c =
    no_order_false (has_order c.args.terms.now c.args.known.now c.args.core) (core_denied c.args.terms.now c.args.known.now c.args.core c.args.truth c.requires.bare c.requires.value c.requires.other).1 c.in-None.ensures.none
