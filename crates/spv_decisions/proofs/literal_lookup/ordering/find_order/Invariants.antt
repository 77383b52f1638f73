use Rattle.spv_decisions.proofs.literal_lookup.Turns.{AreBefore}
use Rattle.spv_decisions.proofs.literal_lookup.Ordered.{NoOrder}
use Rattle.spv_decisions.proofs.literal_lookup.ordering.find_order.Given as goal

abbrev pub invariant-loop-k : goal.invariant-loop-k
invariant-loop-k l = AreBefore (NoOrder l.terms l.t) l.known l.k-index
