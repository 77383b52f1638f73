use Rattle.std.proofs.Common.{length, drop}
use Rattle.spv_term.specs.Arena.{AllBelow}
use Rattle.spv_proof_steps.proofs.GivenLemmas.{OrdersSoFar}
use Rattle.spv_proof_steps.proofs.known.given_orders.Given as goal

abbrev pub invariant-loop-fact : goal.invariant-loop-fact
invariant-loop-fact l = record {
  in_range : AllBelow (length l.terms.nodes) (drop l.fact-index l.cited);
  orders : OrdersSoFar l.terms l.cited (drop l.fact-index l.cited) l.orders;
}
