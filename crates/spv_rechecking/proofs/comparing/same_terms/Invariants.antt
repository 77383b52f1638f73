use Rattle.std.proofs.Common.{◌≡◌, length, drop, map}
use Rattle.spv_term.specs.Arena.{AllBelow, tree}
use Rattle.spv_rechecking.specs.Rechecked.{terms_eq}
use Rattle.spv_rechecking.proofs.comparing.same_terms.Given as goal

abbrev pub invariant-loop-i : goal.invariant-loop-i
invariant-loop-i l = record {
  left_in : AllBelow (length l.terms.nodes) (drop l.i l.left);
  right_in : AllBelow (length l.terms.nodes) (drop l.i l.right);
  same : terms_eq (map (tree l.terms) (drop l.i l.left)) (map (tree l.terms) (drop l.i l.right)) ≡ terms_eq (map (tree l.terms) l.left) (map (tree l.terms) l.right);
}
