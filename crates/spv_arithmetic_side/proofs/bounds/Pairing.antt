-- The sides of a relation, over ids.
use Rattle.std.proofs.Common.{◌≡◌, ◌≢◌, Bool, List, [], ◌∷◌, length, slice_get, refl, sym, ap, ◌∙◌, subst, Option, Some, None, MatchOption, inl, inr}
use mathlib.Core.Logic.{◌⊎◌}
use Rattle.spv_logic.specs.declared.conditions.TermId.{TermId}
use Rattle.spv_logic.specs.declared.operators.Head.{Head}
use Rattle.spv_logic.specs.declared.operators.Head.TheVariants.{Eq, Lt, Le}
use Rattle.spv_logic.specs.Terms.{Term, Terms, term}
use Rattle.spv_term.specs.declared.nodes.Node.{Node}
use Rattle.spv_term.specs.Arena.{Arena, IsArena, tree, trees}
use Rattle.spv_term.proofs.ArenaLemmas.{tree-node}
use Rattle.spv_proof_rules.specs.Sums.{pair}
use Rattle.spv_proof.specs.sums.Readings.{number_in}
use Rattle.spv_tableau_rules.specs.constraints.Relations.{if_numbers, number_sides}
use Rattle.spv_arithmetic_side.specs.bounds.Pairs.{IsPair}

pub not_two : (a : Arena) (is_number : Term → Bool) (ts : List TermId) → length ts ≢ 2 → if_numbers is_number (pair (trees a ts)) ≡ None
not_two a is_number [] h = refl
not_two a is_number (t ∷ []) h = refl
not_two a is_number (t ∷ u ∷ []) h = absurd (h refl)
not_two a is_number (t ∷ u ∷ v ∷ ts) h = refl

-- a relation of these terms
abbrev IsRelation : Head → Type 0
IsRelation h = (h ≡ Eq) ⊎ ((h ≡ Lt) ⊎ (h ≡ Le))

sides_of : (is_number : Term → Bool) (h : Head) (ts : Terms) → IsRelation h → if_numbers is_number (pair ts) ≡ number_sides is_number (term h ts)
sides_of is_number h ts (inl e) = ap (λ k. number_sides is_number (term k ts)) (sym e)
sides_of is_number h ts (inr (inl e)) = ap (λ k. number_sides is_number (term k ts)) (sym e)
sides_of is_number h ts (inr (inr e)) = ap (λ k. number_sides is_number (term k ts)) (sym e)

no_sides : (is_number : Term → Bool) (h : Head) (ts : Terms) → h ≢ Eq → h ≢ Lt → h ≢ Le → number_sides is_number (term h ts) ≡ None
no_sides is_number Eq ts e l m = absurd (e refl)
no_sides is_number Lt ts e l m = absurd (l refl)
no_sides is_number Le ts e l m = absurd (m refl)
no_sides is_number _ ts e l m = refl

module _ (a : Arena) (ok : IsArena a) (t : TermId) (n : Node) (at : slice_get a.nodes t.0 ≡ Some n) where
  pub with_sides : (args : List TermId) → args ≡ n.args → IsRelation n.head → (result : Option (TermId × TermId))
      → MatchOption result (if_numbers (number_in a) (pair (trees a args)) ≡ None) (λ p. IsPair a (if_numbers (number_in a) (pair (trees a args))) p)
      → MatchOption result (number_sides (number_in a) (tree a t) ≡ None) (λ p. IsPair a (number_sides (number_in a) (tree a t)) p)
  with_sides args e relation result h =
      subst (λ (o : Option (Term × Term)). MatchOption result (o ≡ None) (λ p. IsPair a o p))
      (ap (λ ts. if_numbers (number_in a) (pair (trees a ts))) e ∙ (sides_of (number_in a) n.head (trees a n.args) relation ∙ ap (number_sides (number_in a)) (sym (tree-node a ok t n at)))) h

  pub without_sides : n.head ≢ Eq → n.head ≢ Lt → n.head ≢ Le → number_sides (number_in a) (tree a t) ≡ None
  without_sides e l m = ap (number_sides (number_in a)) (tree-node a ok t n at) ∙ no_sides (number_in a) n.head (trees a n.args) e l m
