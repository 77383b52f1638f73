use Rattle.std.proofs.Common.{◌≡◌, length, drop}
use Rattle.spv_term.specs.Arena.{AllBelow}
use Rattle.spv_atoms.proofs.Walks.{are_truths}
use Rattle.spv_search_terms.proofs.head_index.tests.all_truths.Given as goal

abbrev pub invariant-loop-t : goal.invariant-loop-t
invariant-loop-t l = record {
  in_range : AllBelow (length l.terms.nodes) (drop l.t-index l.args);
  same : are_truths l.terms (drop l.t-index l.args) ≡ are_truths l.terms l.args;
}
