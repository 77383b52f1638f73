-- Terms that are one tree or have equal labels are the same ones.
use Rattle.std.proofs.Common.{◌≡◌, ℕ, zero, suc, true, ◌&&◌, List, [], ◌∷◌, nat_eq, refl, sym, ap, ◌∙◌, subst, Some}
use mathlib.Core.Path.{ap₂}
use Rattle.std.specs.Prelude.{slice_get}
use Rattle.std.specs.Cmp.Derive.{both_true}
use Rattle.std.proofs.lemmas.Bool.{false≢true, eqb-true, eq-eqb}
use Rattle.spv_logic.proofs.list.Tests.{left_true, right_true}
use Rattle.spv_logic.specs.declared.conditions.TermId.{TermId}
use Rattle.spv_logic.specs.Terms.{Term, Terms, term, no_terms, terms, term_eq}
use Rattle.spv_logic.proofs.Equality.{term_eq-true, term_eq-refl}
use Rattle.spv_term.specs.Arena.{Arena, IsArena, tree}
use Rattle.spv_atoms.proofs.Members.{has, or_left, or_right, or_cases}
use Rattle.spv_congruence.specs.Graph.{AreTerms, are_same, label_of}
use Rattle.spv_congruence.specs.Keep.{IsNode}
use Rattle.spv_congruence.specs.Told.{IsExact}
use Rattle.spv_models.specs.leaf_models.Labels.{label_in, same_labels, HasId, AreExact}
use Rattle.spv_models.specs.leaf_models.Leaves.{IsSameness, all_same}
use Rattle.spv_models.proofs.leaf_models.Labels.{label-tree, labels-same}
use Rattle.spv_share.specs.declared.both.Both.{Both}
use Rattle.spv_share.specs.Both.{IsBoth}
use Rattle.spv_share.specs.combination_laws.Pairs.{told_by}
use Rattle.spv_share.proofs.combination_laws.Exact.{labels_exact, listed_node}
use Rattle.spv_branch_theory.specs.consistency.States.{has_id, same_in}

-- ---- ids and trees

pub id_found : (a : Arena) (ids : List TermId) (t : Term) → has_id a ids t ≡ true → HasId a ids t
id_found a [] t h = absurd (false≢true h)
id_found a (u ∷ ids) t h = or_cases (term_eq t (tree a u)) (has_id a ids t) h here (λ k. behind (id_found a ids t k))
  where
    here : term_eq t (tree a u) ≡ true → HasId a (u ∷ ids) t
    here e = record { id = u; listed = (0, refl); is = sym (term_eq-true t (tree a u) e) }

    behind : HasId a ids t → HasId a (u ∷ ids) t
    behind k = record { id = k.id; listed = (suc k.listed.0, k.listed.1); is = k.is }

id_there : (a : Arena) (ids : List TermId) (i : ℕ) (u : TermId) → slice_get ids i ≡ Some u → has_id a ids (tree a u) ≡ true
id_there a [] i u at = absurd (cc)
id_there a (v ∷ ids) zero u at =
    or_left (term_eq (tree a u) (tree a v)) (has_id a ids (tree a u)) (ap (λ x. term_eq (tree a u) (tree a x)) (first at) ∙ term_eq-refl (tree a u))
  where
    first : Some v ≡ Some u → v ≡ u
    first e = cc
id_there a (v ∷ ids) (suc i) u at = or_right (term_eq (tree a u) (tree a v)) (has_id a ids (tree a u)) (id_there a ids i u at)

pub found_id : (a : Arena) (ids : List TermId) (t : Term) → HasId a ids t → has_id a ids t ≡ true
found_id a ids t h = ap (has_id a ids) (sym h.is) ∙ id_there a ids h.listed.0 h.id h.listed.1

module _ (a : Arena) (ok : IsArena a) (b : Both) (h : IsBoth a b) (exact : IsExact b.trail.graph) (terms_are : AreTerms b.trail.graph.nodes b.trail.graph.added) where
  abbrev added : List TermId
  added = b.trail.graph.added

  abbrev label : TermId → ℕ
  label = label_of b.trail.graph.joins

  exact_here : AreExact a b.trail.graph.added (λ s t. told_by b.trail.graph.told s t ≡ true) (label_of b.trail.graph.joins)
  exact_here = labels_exact a ok b.trail.graph h.sound.trail.of exact terms_are

  -- the label of an added tree
  pub tree_label : (t : Term) (p : HasId a b.trail.graph.added t) → label_in a (label_of b.trail.graph.joins) b.trail.graph.added t ≡ label_of b.trail.graph.joins p.id
  tree_label t p = ap (label_in a (label_of b.trail.graph.joins) b.trail.graph.added) (sym p.is) ∙ label-tree a ok (label_of b.trail.graph.joins) b.trail.graph.added (λ s t. told_by b.trail.graph.told s t ≡ true) exact_here p.id p.listed

  -- ---- what it is to be the same

  pub data IsSame (s t : Term) : Type 0 where
    one : s ≡ t → IsSame s t
    labelled : HasId a b.trail.graph.added s → HasId a b.trail.graph.added t → same_labels a (label_of b.trail.graph.joins) b.trail.graph.added s t ≡ true → IsSame s t

  pub same_is : (s t : Term) → same_in a b s t ≡ true → IsSame s t
  same_is s t e =
      or_cases (term_eq s t) (has_id a b.trail.graph.added s && (has_id a b.trail.graph.added t && same_labels a (label_of b.trail.graph.joins) b.trail.graph.added s t)) e
      (λ k. one (term_eq-true s t k))
      (λ k.
      let second = right_true (has_id a b.trail.graph.added s) (has_id a b.trail.graph.added t && same_labels a (label_of b.trail.graph.joins) b.trail.graph.added s t) k in
      labelled (id_found a b.trail.graph.added s (left_true (has_id a b.trail.graph.added s) (has_id a b.trail.graph.added t && same_labels a (label_of b.trail.graph.joins) b.trail.graph.added s t) k))
      (id_found a b.trail.graph.added t (left_true (has_id a b.trail.graph.added t) (same_labels a (label_of b.trail.graph.joins) b.trail.graph.added s t) second))
      (right_true (has_id a b.trail.graph.added t) (same_labels a (label_of b.trail.graph.joins) b.trail.graph.added s t) second))

  pub is_same : (s t : Term) → IsSame s t → same_in a b s t ≡ true
  is_same s t (one e) = or_left (term_eq s t) _ (ap (term_eq s) (sym e) ∙ term_eq-refl s)
  is_same s t (labelled p q e) = or_right (term_eq s t) _ (both_true (found_id a b.trail.graph.added s p) (both_true (found_id a b.trail.graph.added t q) e))

  -- ids that the graph joins stand for terms that are the same
  pub joined_same : (s t : TermId) → IsNode b.trail.graph.nodes s → IsNode b.trail.graph.nodes t → are_same b.trail.graph s t ≡ true → same_in a b (tree a s) (tree a t) ≡ true
  joined_same s t ms mt e =
      let p : HasId a b.trail.graph.added (tree a s) = record { id = s; listed = listed_node a ok b.trail.graph h.sound.trail.of exact terms_are s ms; is = refl } in
      let q : HasId a b.trail.graph.added (tree a t) = record { id = t; listed = listed_node a ok b.trail.graph h.sound.trail.of exact terms_are t mt; is = refl } in
      is_same (tree a s) (tree a t) (labelled p q (ap₂ nat_eq (tree_label (tree a s) p) (tree_label (tree a t) q) ∙ e))

  -- and terms that are the same have ids that it joins
  pub same_joined : (s t : TermId) → IsNode b.trail.graph.nodes s → IsNode b.trail.graph.nodes t → same_in a b (tree a s) (tree a t) ≡ true → are_same b.trail.graph s t ≡ true
  same_joined s t ms mt e =
      let p : HasId a b.trail.graph.added (tree a s) = record { id = s; listed = listed_node a ok b.trail.graph h.sound.trail.of exact terms_are s ms; is = refl } in
      let q : HasId a b.trail.graph.added (tree a t) = record { id = t; listed = listed_node a ok b.trail.graph h.sound.trail.of exact terms_are t mt; is = refl } in
      ap₂ nat_eq (sym (tree_label (tree a s) p)) (sym (tree_label (tree a t) q)) ∙ labels_of (tree a s) (tree a t) (same_is (tree a s) (tree a t) e)
    where
      labels_of : (x y : Term) → IsSame x y → same_labels a (label_of b.trail.graph.joins) b.trail.graph.added x y ≡ true
      labels_of x y (one f) = eq-eqb (label_in a (label_of b.trail.graph.joins) b.trail.graph.added x) (label_in a (label_of b.trail.graph.joins) b.trail.graph.added y) (ap (label_in a (label_of b.trail.graph.joins) b.trail.graph.added) f)
      labels_of x y (labelled p q f) = f

  -- ---- an equivalence with congruence

  pub same_labelled : (s t : Term) → same_in a b s t ≡ true → same_labels a (label_of b.trail.graph.joins) b.trail.graph.added s t ≡ true
  same_labelled s t e = by_same (same_is s t e)
    where
      by_same : IsSame s t → same_labels a (label_of b.trail.graph.joins) b.trail.graph.added s t ≡ true
      by_same (one f) = eq-eqb (label_in a (label_of b.trail.graph.joins) b.trail.graph.added s) (label_in a (label_of b.trail.graph.joins) b.trail.graph.added t) (ap (label_in a (label_of b.trail.graph.joins) b.trail.graph.added) f)
      by_same (labelled p q f) = f

  all_labelled : (ss us : Terms) → all_same (same_in a b) ss us ≡ true → all_same (same_labels a (label_of b.trail.graph.joins) b.trail.graph.added) ss us ≡ true
  all_labelled no_terms no_terms e = refl
  all_labelled no_terms (terms u us) e = absurd (false≢true e)
  all_labelled (terms s ss) no_terms e = absurd (false≢true e)
  all_labelled (terms s ss) (terms u us) e = both_true (same_labelled s u (left_true (same_in a b s u) _ e)) (all_labelled ss us (right_true (same_in a b s u) _ e))

  turned_labels : (s t : Term) → same_labels a (label_of b.trail.graph.joins) b.trail.graph.added s t ≡ true → same_labels a (label_of b.trail.graph.joins) b.trail.graph.added t s ≡ true
  turned_labels s t e = eq-eqb (label_in a (label_of b.trail.graph.joins) b.trail.graph.added t) (label_in a (label_of b.trail.graph.joins) b.trail.graph.added s)
      (sym (eqb-true (label_in a (label_of b.trail.graph.joins) b.trail.graph.added s) (label_in a (label_of b.trail.graph.joins) b.trail.graph.added t) e))

  turned : (s t : Term) → IsSame s t → IsSame t s
  turned s t (one e) = one (sym e)
  turned s t (labelled p q e) = labelled q p (turned_labels s t e)

  through : (s t u : Term) → IsSame s t → IsSame t u → IsSame s u
  through s t u (one e) k = subst (λ (x : Term). IsSame x u) (sym e) k
  through s t u (labelled p q e) (one f) = subst (λ (x : Term). IsSame s x) f (labelled p q e)
  through s t u (labelled p q e) (labelled m n f) = labelled p n
      (eq-eqb (label_in a (label_of b.trail.graph.joins) b.trail.graph.added s) (label_in a (label_of b.trail.graph.joins) b.trail.graph.added u)
      (eqb-true (label_in a (label_of b.trail.graph.joins) b.trail.graph.added s) (label_in a (label_of b.trail.graph.joins) b.trail.graph.added t) e
      ∙ eqb-true (label_in a (label_of b.trail.graph.joins) b.trail.graph.added t) (label_in a (label_of b.trail.graph.joins) b.trail.graph.added u) f))

  pub sameness : (ts : List Term) → ((t : Term) → has ts t ≡ true → HasId a b.trail.graph.added t) → IsSameness ts (same_in a b)
  sameness ts have =
      let by_labels = labels-same a ok (label_of b.trail.graph.joins) b.trail.graph.added (λ s t. told_by b.trail.graph.told s t ≡ true) exact_here ts have in
      record {
        itself = λ s. is_same s s (one refl);
        turned = λ s t e. is_same t s (turned s t (same_is s t e));
        through = λ s t u e f. is_same s u (through s t u (same_is s t e) (same_is t u f));
        congruent = λ q ss us m n e. is_same (term q ss) (term q us) (labelled (have (term q ss) m) (have (term q us) n) (by_labels.congruent q ss us m n (all_labelled ss us e)));
      }
