use Rattle.std.proofs.Common.{◌≡◌, ◌++◌, length, map, take, drop}
use Rattle.spv_term.specs.Arena.{AllBelow, tree}
use Rattle.spv_proof_steps.proofs.ValuedLemmas.{bare_terms}
use Rattle.spv_proof_steps.proofs.valued.push_bare.Given as goal

abbrev pub invariant-loop-fact : goal.invariant-loop-fact
invariant-loop-fact l = record {
  facts_in : AllBelow (length l.terms.nodes) (drop l.fact-index l.facts);
  out_in : AllBelow (length l.terms.nodes) l.out.items;
  same : map (tree l.terms) l.out.items ≡ map (tree l.terms) l.fn.out.items ++ bare_terms l.terms (take l.fact-index l.facts);
}
