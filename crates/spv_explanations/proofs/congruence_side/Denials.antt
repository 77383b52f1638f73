-- Why two terms that are the same may not be.
use Rattle.std.proofs.Common.{◌≡◌, ℕ, zero, suc, Bool, true, false, cond, ◌&&◌, not, List, [], ◌∷◌, nat_eq, refl, sym, ap, ◌∙◌, subst, Option, Some, None, inl, inr}
use Rattle.std.specs.Prelude.{slice_get, IfSome}
use Rattle.std.proofs.lemmas.Option.{same_Some}
use Rattle.std.proofs.lemmas.Bool.{eqb-true, eq-eqb}
use Rattle.spv_logic.proofs.list.Tests.{left_true, right_true}
use Rattle.spv_logic.specs.declared.conditions.TermId.{TermId}
use Rattle.spv_logic.specs.Formulas.{negation, equation}
use Rattle.spv_term.specs.Arena.{Arena, tree}
use Rattle.spv_term.proofs.NodeLemmas.{id_from}
use Rattle.spv_congruence.specs.declared.facts.Fact.{Fact}
use Rattle.spv_congruence.specs.Clashes.{Clashes, AreSeparate, AreOpposed}
use Rattle.spv_congruence.specs.Graph.{Graph, label_of}
use Rattle.spv_congruence.specs.Keep.{IsNode}
use Rattle.spv_derivations.specs.derivation.Derivation.{fact_at}
use Rattle.spv_explanations.specs.equalities.Reasons.{AreSame, MayNotBeSame}
use Rattle.spv_explanations.specs.declared.congruence_side.trail.Trail.{Trail}
use Rattle.spv_explanations.specs.congruence_side.Holding.{HasFacts, Holds, denies, denial}

-- a fact that separates two terms
record IsDenied (told : List Fact) (s t : TermId) (k : ℕ) : Type 0 where
  place : ℕ
  fact : Fact
  at : slice_get told place ≡ Some fact
  separate : fact.equal ≡ false
  left : fact.left ≡ s
  right : fact.right ≡ t
  why : fact.why ≡ k

not_true : (b : Bool) → not b ≡ true → b ≡ false
not_true true h = sym h
not_true false h = refl

denied-first : (s t : TermId) (x : Fact) (xs : List Fact) (k : ℕ) → denies s t x ≡ true → x.why ≡ k → IsDenied (x ∷ xs) s t k
denied-first s t x xs k h e =
    let ids = right_true (not x.equal) _ h in
    record {
      place = 0;
      fact = x;
      at = refl;
      separate = not_true x.equal (left_true (not x.equal) _ h);
      left = id_from x.left s (eqb-true x.left.0 s.0 (left_true (nat_eq x.left.0 s.0) _ ids));
      right = id_from x.right t (eqb-true x.right.0 t.0 (right_true (nat_eq x.left.0 s.0) _ ids));
      why = e;
    }

denied : (told : List Fact) (s t : TermId) (k : ℕ) → denial told s t ≡ Some k → IsDenied told s t k
denied [] s t k e = absurd (cc)
denied (x ∷ xs) s t k e = by_case (λ f. denied xs s t k f) (denies s t x) refl e
  where
    by_case : (denial xs s t ≡ Some k → IsDenied xs s t k) → (b : Bool) → denies s t x ≡ b → cond b (Some x.why) (denial xs s t) ≡ Some k → IsDenied (x ∷ xs) s t k
    by_case later true h f = let same : x.why ≡ k = cc in denied-first s t x xs k h same
    by_case later false h f = let d = later f in record { place = suc d.place; fact = d.fact; at = d.at; separate = d.separate; left = d.left; right = d.right; why = d.why }

denies-same : (s t : TermId) (x : Fact) → x.equal ≡ false → x.left ≡ s → x.right ≡ t → denies s t x ≡ true
denies-same s t x e f g =
    ap (λ b. not b && (nat_eq x.left.0 s.0 && nat_eq x.right.0 t.0)) e ∙ (ap (λ b. b && nat_eq x.right.0 t.0) (eq-eqb x.left.0 s.0 (ap (λ (i : TermId). i.0) f)) ∙ eq-eqb x.right.0 t.0 (ap (λ (i : TermId). i.0) g))

none_denied : (told : List Fact) (s t : TermId) → denial told s t ≡ None → (place : ℕ) (x : Fact) → slice_get told place ≡ Some x → x.equal ≡ false → x.left ≡ s → x.right ≡ t → ⊥
none_denied [] s t e place x at sep l r = absurd (cc)
none_denied (y ∷ ys) s t e place x at sep l r = by_case (λ i there n. none_denied ys s t n i x there sep l r) (denies s t y) refl e
  where
    false_true : false ≡ true → ⊥
    false_true q = cc

    here : ((i : ℕ) → slice_get ys i ≡ Some x → denial ys s t ≡ None → ⊥) → denies s t y ≡ false → (place : ℕ) → slice_get (y ∷ ys) place ≡ Some x → denial ys s t ≡ None → ⊥
    here later h zero at n =
        let same : y ≡ x = cc in
        let both : denies s t x ≡ true = denies-same s t x sep l r in
        false_true (sym h ∙ (ap (denies s t) same ∙ both))
    here later h (suc i) at n = later i at n

    by_case : ((i : ℕ) → slice_get ys i ≡ Some x → denial ys s t ≡ None → ⊥) → (b : Bool) → denies s t y ≡ b → cond b (Some y.why) (denial ys s t) ≡ None → ⊥
    by_case later true h f = absurd (cc)
    by_case later false h f = here later h place at f

module _ (a : Arena) (tr : Trail) (h : Holds a tr) where
  pub may_not : (s t : TermId) → Clashes tr.graph s t → MayNotBeSame a tr.graph tr.derivation s t (denial tr.facts.items s t)
  may_not s t c = by_option (denial tr.facts.items s t) refl
    where
      opposed : (AreSeparate tr.graph s t → ⊥) → AreOpposed tr.graph s t
      opposed n = elim c.why [ inl q ↦ absurd (n q) | inr q ↦ q ]

      by_option : (o : Option ℕ) → denial tr.facts.items s t ≡ o → MayNotBeSame a tr.graph tr.derivation s t o
      by_option None e = opposed (λ q. none_denied tr.graph.told s t (ap (λ xs. denial xs s t) (sym h.kept) ∙ e) q.place q.fact q.there q.separate q.left q.right)
      by_option (Some k) e =
          let d = denied tr.graph.told s t k (ap (λ xs. denial xs s t) (sym h.kept) ∙ e) in
          let fact = (h.backs.each d.place d.fact d.at).apart d.separate in
          ap (fact_at a tr.derivation) (sym d.why) ∙ (fact ∙ (ap (λ x. Some (negation (equation (tree a x) (tree a d.fact.right)))) d.left ∙ ap (λ x. Some (negation (equation (tree a s) (tree a x)))) d.right))

-- ---- the terms of a clash

pub same_ids : (g : Graph) (s t : TermId) → HasFacts g.nodes g.told → Clashes g s t → AreSame g s t
same_ids g s t f c = record {
  left = elim c.why [ inl q ↦ subst (IsNode g.nodes) q.left ((f.each q.place q.fact q.there).0) | inr q ↦ (q.left, q.left_is) ];
  right = elim c.why [ inl q ↦ subst (IsNode g.nodes) q.right ((f.each q.place q.fact q.there).1) | inr q ↦ (q.right, q.right_is) ];
  same = eqb-true (label_of g.joins s) (label_of g.joins t) c.same;
}

-- the pair that was found clashes
pub clashing : (g : Graph) (o : Option (TermId × TermId)) (p : TermId × TermId) → IfSome o (λ q. Clashes g q.0 q.1) → o ≡ Some p → Clashes g p.0 p.1
clashing g None p h e = absurd (cc)
clashing g (Some q) p h e = let same : q ≡ p = same_Some q p e in subst (λ (r : TermId × TermId). Clashes g r.0 r.1) same h
