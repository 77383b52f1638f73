use Rattle.std.proofs.Common.{◌≡◌, length, drop}
use Rattle.spv_term.specs.Arena.{AllBelow}
use Rattle.spv_proof_steps.proofs.ValuedLemmas.{facts_give}
use Rattle.spv_proof_steps.proofs.valued.given_by_facts.Given as goal

abbrev pub invariant-loop-fact : goal.invariant-loop-fact
invariant-loop-fact l = record {
  in_range : AllBelow (length l.terms.nodes) (drop l.fact-index l.cited);
  same : facts_give l.terms l.t (drop l.fact-index l.cited) ≡ facts_give l.terms l.t l.cited;
}
