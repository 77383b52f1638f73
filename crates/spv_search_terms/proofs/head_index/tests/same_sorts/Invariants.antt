use Rattle.std.proofs.Common.{◌≡◌, length, drop}
use Rattle.spv_logic.specs.Sorts.{sorts_eq}
use Rattle.spv_term.specs.Arena.{AllBelow, sorts_at}
use Rattle.spv_search_terms.proofs.head_index.tests.same_sorts.Given as goal

abbrev pub invariant-loop-i : goal.invariant-loop-i
invariant-loop-i l = record {
  left_in : AllBelow (length l.terms.nodes) (drop l.i l.left);
  right_in : AllBelow (length l.terms.nodes) (drop l.i l.right);
  same : sorts_eq (sorts_at l.terms (drop l.i l.left)) (sorts_at l.terms (drop l.i l.right)) ≡ sorts_eq (sorts_at l.terms l.left) (sorts_at l.terms l.right);
}
