-- An equality of the graph for the tableau.
use Rattle.std.proofs.Common.{◌≡◌, ℕ, ◌<◌, true, List, length, sym, ap, ◌∙◌, subst, Some, get_or}
use Rattle.std.proofs.lemmas.Option.{slice_get-get_or}
use Rattle.std.specs.Prelude.{slice_get}
use Rattle.spv_tableau_rules.proofs.pivots.Sums.{eq_is}
use Rattle.spv_tableau_rules.proofs.pivots.Tests.{and_left, and_right}
use Rattle.spv_term.specs.Arena.{Arena}
use Rattle.spv_congruence.specs.Graph.{are_same, label_of}
use Rattle.spv_congruence.specs.Keep.{IsNode}
use Rattle.spv_explanations.specs.equalities.Reasons.{AreSame}
use Rattle.spv_share.specs.declared.relations.Related.{Related}
use Rattle.spv_share.specs.declared.both.Both.{Both}
use Rattle.spv_share.specs.Both.{IsSound}
use Rattle.spv_share.specs.States.{is_equality, is_joined}
use Rattle.spv_share.proofs.Rowed.{row_inside}

-- an item that is read at a place
pub at_place : {A : Type 0} (xs : List A) (place : ℕ) (x : A) → place < length xs → x ≡ get_or xs place x → slice_get xs place ≡ Some x
at_place xs place x inside is = slice_get-get_or xs place x inside ∙ ap (λ y. Some y) (sym is)

module _ (a : Arena) (b : Both) (h : IsSound a b) (place : ℕ) (r : Related) (at : slice_get b.relations.items place ≡ Some r) where
  -- a relation stands at its row
  pub there : slice_get b.relations.items r.row ≡ Some r
  there = ap (slice_get b.relations.items) (h.related.are.placed place r at) ∙ at

  pub left_node : IsNode b.trail.graph.nodes r.left
  left_node = (h.related.are.each place r at).left

  pub right_node : IsNode b.trail.graph.nodes r.right
  right_node = (h.related.are.each place r at).right

  pub row_there : r.row < length b.standing.tableau.forms
  row_there = subst (λ (n : ℕ). n < length b.standing.tableau.forms) (sym (h.related.are.placed place r at)) (row_inside a b.trail.graph.nodes b.relations.items b.standing.tableau.forms h.related place r at)

  pub joined_same : is_joined b r ≡ true → AreSame b.trail.graph r.left r.right
  joined_same e = record {
    left = left_node;
    right = right_node;
    same = eq_is (label_of b.trail.graph.joins r.left) (label_of b.trail.graph.joins r.right) (and_right (is_equality r.head) (are_same b.trail.graph r.left r.right) e);
  }

  pub joined_equality : is_joined b r ≡ true → is_equality r.head ≡ true
  joined_equality e = and_left (is_equality r.head) (are_same b.trail.graph r.left r.right) e
