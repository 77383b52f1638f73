-- Terms that are the same have one sort.
use Rattle.std.proofs.Common.{◌≡◌, ◌<◌, true, false, ◌&&◌, List, length, nat_eq, refl, sym, ap, ◌∙◌, ◌⊎◌, inl, inr, Option, Some, not}
use mathlib.Core.Path.{ap₂}
use Rattle.std.specs.Option.{option_map}
use Rattle.std.proofs.lemmas.Bool.{false≢true}
use Rattle.std.proofs.lemmas.Option.{slice_get-map, slice_get_within}
use Rattle.spv_logic.specs.declared.conditions.TermId.{TermId}
use Rattle.spv_logic.specs.declared.types.Sort.{Sort}
use Rattle.spv_logic.specs.declared.types.Sort.TheVariants as sort
use Rattle.spv_logic.specs.declared.types.Shape.{Shape}
use Rattle.spv_logic.specs.declared.types.Decl.{Decl}
use Rattle.spv_logic.specs.Sorts.{term_sort}
use Rattle.spv_logic.specs.Terms.{Term}
use Rattle.spv_term.specs.Arena.{Arena, IsArena, sort_at, tree}
use Rattle.spv_term.proofs.ArenaLemmas.{IsWellSorted-arena}
use Rattle.spv_tableau_rules.proofs.pivots.Tests.{and_left, and_right}
use Rattle.spv_tableau_rules.specs.constraints.Relations.{number_sides}
use Rattle.spv_term.specs.closure.Joined.{IsAmong}
use Rattle.spv_term.specs.closure.Joined as joined
use Rattle.spv_congruence.specs.Graph.{are_same, AreTerms, IsFact}
use Rattle.spv_congruence.specs.Told.{IsAdded, IsExact, IsTold}
use Rattle.spv_derivations.specs.derivation.Derived.{is_number, is_truth}
use Rattle.spv_derivations.specs.derivation.Sides.{Pair}
use Rattle.spv_explanations.specs.congruence_side.Telling.{equation_sides, Tie, tie_of}
use Rattle.spv_explanations.proofs.congruence_side.Ties.{has-sides, sides-node, sides-tree}
use Rattle.spv_models.specs.leaf_models.Subterms.{is_listed}
use Rattle.spv_models.proofs.leaf_models.TermKinds.{Both, Either, Implied, IsAtMost, IsEqual, IsLess, Kind, kind, Multiple, Negated, Numeral, Own, Remains, Total, Truthful, Untruthful}
use Rattle.spv_models.proofs.leaf_models.Values.{sort_known}
use Rattle.spv_share.specs.declared.both.Both as share
use Rattle.spv_share.specs.Both.{IsBoth, IsReason, of_literal, of_relation, of_truths, told}
use Rattle.spv_share.proofs.Seeking.{numbers_are}
use Rattle.spv_share.proofs.combination_laws.Exact.{node_listed, same_derived}
use Rattle.spv_share.proofs.combination_laws.OneValue.{sides_sorts, sorts_same}
use Rattle.spv_tableau_rules.specs.tableaux.Numbers.{nothing}
use Rattle.spv_branch_theory.specs.consistency.States.{same_in}
use Rattle.spv_branch_theory.proofs.consistency.Sameness.{same_is, tree_label, IsSame, one, labelled}

-- ---- what a table does not list

-- a term that a table does not list is of sort Int or Bool
pub unlisted_sort : (shapes : List Shape) (decls : List Decl) (t : Term) (s : Sort) → Kind shapes decls t s → is_listed t ≡ false → (s ≡ sort.Int) ⊎ (s ≡ sort.Bool)
unlisted_sort shapes decls t s (Own h ts r e) k = absurd (false≢true (sym k ∙ ap not e))
unlisted_sort shapes decls t s (Numeral z) k = inl refl
unlisted_sort shapes decls t s (Total a b ha hb) k = inl refl
unlisted_sort shapes decls t s (Remains a b ha hb) k = inl refl
unlisted_sort shapes decls t s (Multiple a b ha hb e) k = inl refl
unlisted_sort shapes decls t s (IsLess a b ha hb) k = inr refl
unlisted_sort shapes decls t s (IsAtMost a b ha hb) k = inr refl
unlisted_sort shapes decls t s (IsEqual a b r ha hb) k = inr refl
unlisted_sort shapes decls t s (Negated a ha) k = inr refl
unlisted_sort shapes decls t s (Both a b ha hb) k = inr refl
unlisted_sort shapes decls t s (Either a b ha hb) k = inr refl
unlisted_sort shapes decls t s (Implied a b ha hb) k = inr refl
unlisted_sort shapes decls t s Truthful k = inr refl
unlisted_sort shapes decls t s Untruthful k = inr refl

-- ---- derivations

module _ (a : Arena) (ok : IsArena a) (b : share.Both) (h : IsBoth a b) (exact : IsExact b.trail.graph) (terms_are : AreTerms b.trail.graph.nodes b.trail.graph.added) where
  abbrev sort_of : Term → Option Sort
  sort_of t = term_sort a.shapes a.decls t

  number_sort : (t : Term) → is_number a t ≡ true → term_sort a.shapes a.decls t ≡ Some sort.Int
  number_sort t e = sort_known sort.Int (term_sort a.shapes a.decls t) e

  truth_sort : (t : Term) → is_truth a t ≡ true → term_sort a.shapes a.decls t ≡ Some sort.Bool
  truth_sort t e = sort_known sort.Bool (term_sort a.shapes a.decls t) e

  in_nodes : (l : TermId) (st : Pair) → equation_sides a l ≡ Some st → l.0 < length a.nodes
  in_nodes l st e = let sides = has-sides a l st (sides-node a l st e) in slice_get_within a.nodes l.0 sides.node sides.at

  -- the sides of what the graph was told have one sort
  reason_sorts : (x : Tie) → IsReason a b.relations.items (told b) x → term_sort a.shapes a.decls (tree a x.left) ≡ term_sort a.shapes a.decls (tree a x.right)
  reason_sorts x (of_truths l r) = truth_sort (tree a x.left) l ∙ sym (truth_sort (tree a x.right) r)
  reason_sorts x (of_literal place l st at part sides left right) =
      let tree_is = sides-tree a ok l.atom st (sides-node a l.atom st sides) in
      let sorted : term_sort a.shapes a.decls (tree a l.atom) ≡ Some (sort_at a l.atom) = IsWellSorted-arena a ok l.atom (in_nodes l.atom st sides) in
      ap (λ u. term_sort a.shapes a.decls (tree a u)) (sym left)
      ∙ (sides_sorts a.shapes a.decls (tree a l.atom) (sort_at a l.atom) (kind a.shapes a.decls (tree a l.atom) (sort_at a l.atom) sorted) (tree a st.0) (tree a st.1) tree_is
      ∙ ap (λ u. term_sort a.shapes a.decls (tree a u)) right)
  reason_sorts x (of_relation row r at head left right) =
      let rel = h.sound.related.are.each row r at in
      let both_numbers : (is_number a (tree a r.left) && is_number a (tree a r.right)) ≡ true =
      numbers_are (is_number a) r.head (tree a r.left) (tree a r.right) _ (ap (λ t. number_sides (is_number a) t) (sym rel.is) ∙ rel.sides) in
      ap (λ u. term_sort a.shapes a.decls (tree a u)) (sym left)
      ∙ (number_sort (tree a r.left) (and_left (is_number a (tree a r.left)) (is_number a (tree a r.right)) both_numbers)
      ∙ (sym (number_sort (tree a r.right) (and_right (is_number a (tree a r.left)) (is_number a (tree a r.right)) both_numbers)) ∙ ap (λ u. term_sort a.shapes a.decls (tree a u)) right))

  keeps : (s t : Term) → joined.IsTold a (IsTold b.trail.graph) s t → term_sort a.shapes a.decls s ≡ term_sort a.shapes a.decls t
  keeps s t k =
      let f : IsFact b.trail.graph.told k.told.0 k.left k.right = k.told.1 in
      let reason : IsReason a b.relations.items (told b) (tie_of f.fact) =
      h.reasons.each k.told.0 (tie_of f.fact) (slice_get-map tie_of b.trail.graph.told k.told.0 ∙ ap (option_map tie_of) f.there) f.equal in
      ap (term_sort a.shapes a.decls) (sym k.left_is) ∙ (ap (λ u. term_sort a.shapes a.decls (tree a u)) (sym f.left)
      ∙ (reason_sorts (tie_of f.fact) reason ∙ (ap (λ u. term_sort a.shapes a.decls (tree a u)) f.right ∙ ap (term_sort a.shapes a.decls) k.right_is)))

  -- terms that are the same have one sort
  pub one_sort : (s t : Term) → same_in a b s t ≡ true → term_sort a.shapes a.decls s ≡ term_sort a.shapes a.decls t
  one_sort s t e = by_same (same_is a ok b h exact terms_are s t e)
    where
      by_same : IsSame a ok b h exact terms_are s t → term_sort a.shapes a.decls s ≡ term_sort a.shapes a.decls t
      by_same (one f) = ap (term_sort a.shapes a.decls) f
      by_same (labelled p q f) =
          let same : are_same b.trail.graph p.id q.id ≡ true = ap₂ nat_eq (sym (tree_label a ok b h exact terms_are s p)) (sym (tree_label a ok b h exact terms_are t q)) ∙ f in
          let derived = same_derived a ok b.trail.graph h.sound.trail.of exact terms_are p.id q.id
          (node_listed a ok b.trail.graph h.sound.trail.of exact terms_are p.id p.listed) (node_listed a ok b.trail.graph h.sound.trail.of exact terms_are q.id q.listed) same in
          ap (term_sort a.shapes a.decls) (sym p.is)
          ∙ (sorts_same a.shapes a.decls (λ u. nothing) (IsAmong a (IsAdded b.trail.graph)) (joined.IsTold a (IsTold b.trail.graph)) keeps (tree a p.id) (tree a q.id) derived ∙ ap (term_sort a.shapes a.decls) q.is)
