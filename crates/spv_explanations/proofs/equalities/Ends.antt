-- Facts that end a path.
use Rattle.std.proofs.Common.{◌≡◌, ℕ, true, not, List, [], ◌∷◌, Option, Some, None, ℤ, slice_get, refl, sym, ap, ◌∙◌, inl, inr}
use Rattle.std.specs.Ordering.{int_eq}
use Rattle.spv_logic.specs.declared.conditions.TermId.{TermId}
use Rattle.spv_logic.specs.declared.types.Sort.{Sort}
use Rattle.spv_logic.specs.declared.types.Sort.TheVariants as sort
use Rattle.spv_logic.specs.declared.operators.Head.{Head}
use Rattle.spv_logic.specs.declared.operators.Head.TheVariants.{Num, True, False}
use Rattle.spv_logic.specs.Terms.{Term, Terms, term, no_terms}
use Rattle.spv_logic.specs.Sorts.{result_sort, takes}
use Rattle.spv_logic.specs.Formulas.{negation, equation}
use Rattle.spv_logic.proofs.Equality.{term_eq-refl}
use Rattle.spv_term.specs.declared.nodes.Node.{Node}
use Rattle.spv_term.specs.Arena.{Arena, IsArena, tree, trees, sorts_at}
use Rattle.spv_term.proofs.ArenaLemmas.{tree-node, sort-node}
use Rattle.std.proofs.lemmas.Option.{slice_get_within}
use Rattle.spv_proof_rules.specs.Effects.{end_of_one, end_of_two, ends_if}
use Rattle.spv_congruence.specs.Clashes.{AreOpposed, opposed}
use Rattle.spv_congruence.specs.Graph.{Graph}
use Rattle.spv_congruence.specs.Told.{IsOf}
use Rattle.spv_derivations.specs.declared.derivation.entries.Entry.{Entry}
use Rattle.spv_derivations.specs.derivation.Derivation.{Gains, IsDerivation, fact_at}
use Rattle.spv_derivations.specs.derivation.Derived.{IsFalseTerm, IsTruthClash}
use Rattle.spv_derivations.specs.derivation.Steps.{IsEnd}
use Rattle.spv_explanations.specs.equalities.Reasons.{AreOpposites, Closes, Equates, GoesOn}
use Rattle.spv_explanations.proofs.equalities.Ways.{goes_on-gains, goes_on-same, goes_on-then}
use Rattle.spv_derivations.proofs.derivation.Growth.{gains-keeps}

-- ---- a fact and its negation

module _ (a : Arena) (es : List Entry) where
  pub denial-ends : (n k : ℕ) (s t : TermId) → Equates a es n s t → fact_at a es k ≡ Some (negation (equation (tree a s) (tree a t))) → IsEnd a es n (Some k)
  denial-ends n k s t e d = (λ i. end_of_two (e i) (d i)) ∙ ap ends_if (term_eq-refl (equation (tree a s) (tree a t)))

  -- ---- a fact that is never true

  falsity-ends : (n : ℕ) → fact_at a es n ≡ Some (term False no_terms) → IsEnd a es n None
  falsity-ends n e = ap end_of_one e

  numerals-end : (n : ℕ) (s t : Term) (x y : ℤ) (ss ts : Terms) → fact_at a es n ≡ Some (equation s t) → s ≡ term (Num x) ss → t ≡ term (Num y) ts → not (int_eq x y) ≡ true → IsEnd a es n None
  numerals-end n s t x y ss ts e f g h = ap end_of_one (e ∙ (λ i. Some (equation (f i) (g i)))) ∙ ap ends_if h

-- ---- terms without arguments

module _ (a : Arena) (ok : IsArena a) where
  no_arguments : (r : Sort) (ts : List TermId) (s : Sort) → takes [] (sorts_at a ts) r ≡ Some s → ts ≡ []
  no_arguments r [] s e = refl
  no_arguments r (t ∷ ts) s e = absurd (cc)

  pub false-tree : (t : TermId) (n : Node) → slice_get a.nodes t.0 ≡ Some n → n.head ≡ False → tree a t ≡ term False no_terms
  false-tree t n at e =
      let none = no_arguments sort.Bool n.args _ (ap (λ h. result_sort a.shapes a.decls h (sorts_at a n.args)) (sym e) ∙ sort-node a ok t n at) in
      tree-node a ok t n at ∙ (λ i. term (e i) (trees a (none i)))

  pub true-tree : (t : TermId) (n : Node) → slice_get a.nodes t.0 ≡ Some n → n.head ≡ True → tree a t ≡ term True no_terms
  true-tree t n at e =
      let none = no_arguments sort.Bool n.args _ (ap (λ h. result_sort a.shapes a.decls h (sorts_at a n.args)) (sym e) ∙ sort-node a ok t n at) in
      tree-node a ok t n at ∙ (λ i. term (e i) (trees a (none i)))

  pub false-term : (t : TermId) (n : Node) → slice_get a.nodes t.0 ≡ Some n → n.head ≡ False → IsFalseTerm a t
  false-term t n at e = record { within = slice_get_within a.nodes t.0 n at; is = false-tree t n at e }

-- ---- opposed heads

opposed-false : (h : Head) → opposed False h ≡ true → h ≡ True
opposed-false True e = refl
opposed-false _ e = absurd (cc)

opposed-true : (h : Head) → opposed True h ≡ true → h ≡ False
opposed-true False e = refl
opposed-true _ e = absurd (cc)

record AreNumerals (h k : Head) : Type 0 where
  left : ℤ
  right : ℤ
  left_is : h ≡ Num left
  right_is : k ≡ Num right
  apart : not (int_eq left right) ≡ true

opposed-right : (x : ℤ) (k : Head) → opposed (Num x) k ≡ true → AreNumerals (Num x) k
opposed-right x (Num y) e = record { left = x; right = y; left_is = refl; right_is = refl; apart = e }
opposed-right x _ e = absurd (cc)

opposed-others : (h k : Head) → opposed h k ≡ true → (h ≡ False → ⊥) → (h ≡ True → ⊥) → AreNumerals h k
opposed-others (Num x) k e f g = opposed-right x k e
opposed-others False k e f g = absurd (f refl)
opposed-others True k e f g = absurd (g refl)
opposed-others _ k e f g = absurd (cc)

-- ---- ends

module _ (a : Arena) (ok : IsArena a) (es : List Entry) (n : ℕ) (s t : TermId) where
  heads-of : (m : Node) → AreOpposites a s t → slice_get a.nodes s.0 ≡ Some m → (o : Node) × (slice_get a.nodes t.0 ≡ Some o) × (opposed m.head o.head ≡ true)
  heads-of m h at =
      let same : h.left ≡ m = same_node (sym h.left_is ∙ at) in
      (h.right, h.right_is, ap (λ x. opposed x.head h.right.head) (sym same) ∙ h.opposed_are)
    where
      same_node : {x y : Node} → Some x ≡ Some y → x ≡ y
      same_node e = cc

  -- the left one is FALSE
  pub false-clash : (m : Node) → slice_get a.nodes s.0 ≡ Some m → m.head ≡ False → AreOpposites a s t → Equates a es n s t → IsTruthClash a es n
  false-clash m at e h q =
      let o = heads-of m h at in
      let other : o.0.head ≡ True = opposed-false o.0.head (ap (λ x. opposed x o.0.head) (sym e) ∙ o.2) in
      let left = false-tree a ok s m at e in
      let right = true-tree a ok t o.0 o.1 other in
      record { is = inr (q ∙ (λ i. Some (equation (left i) (right i)))) }

  -- the left one is TRUE, and so the right one FALSE
  pub true-other : (m : Node) → slice_get a.nodes s.0 ≡ Some m → m.head ≡ True → AreOpposites a s t → IsFalseTerm a t
  true-other m at e h =
      let o = heads-of m h at in
      false-term a ok t o.0 o.1 (opposed-true o.0.head (ap (λ x. opposed x o.0.head) (sym e) ∙ o.2))

  pub true-clash : (m : Node) → slice_get a.nodes s.0 ≡ Some m → m.head ≡ True → AreOpposites a s t → Equates a es n s t → IsTruthClash a es n
  true-clash m at e h q =
      let left = true-tree a ok s m at e in
      let right = (true-other m at e h).is in
      record { is = inl (q ∙ (λ i. Some (equation (left i) (right i)))) }

  pub clash-closes : (new : List Entry) (k : ℕ) → Gains a es new k (term False no_terms) → Closes a es new k None
  clash-closes new k g = record { goes_on = goes_on-gains a es new k (term False no_terms) g; derivation = g.derivation; ends = falsity-ends a new k g.fact }

  -- both are numerals
  pub numerals-close : (m : Node) → slice_get a.nodes s.0 ≡ Some m → (m.head ≡ False → ⊥) → (m.head ≡ True → ⊥) → IsDerivation a es → AreOpposites a s t → Equates a es n s t → Closes a es es n None
  numerals-close m at f g derivation h q =
      let o = heads-of m h at in
      let both = opposed-others m.head o.0.head o.2 f g in
      record {
        goes_on = goes_on-same es;
        derivation = derivation;
        ends = numerals-end a es n (tree a s) (tree a t) both.left both.right (trees a m.args) (trees a o.0.args) q
            (tree-node a ok s m at ∙ ap (λ x. term x (trees a m.args)) both.left_is) (tree-node a ok t o.0 o.1 ∙ ap (λ x. term x (trees a o.0.args)) both.right_is) both.apart;
      }

pub opposites-of : (a : Arena) (g : Graph) (s t : TermId) → IsOf a g → AreOpposed g s t → AreOpposites a s t
opposites-of a g s t of h = record {
  left = h.left;
  right = h.right;
  left_is = of.node s h.left h.left_is;
  right_is = of.node t h.right h.right_is;
  opposed_are = h.opposed_are;
}

-- ---- both ends

pub closes-after : (a : Arena) (old mid new : List Entry) (n : ℕ) (o : Option ℕ) → GoesOn old mid → Closes a mid new n o → Closes a old new n o
closes-after a old mid new n o g h = record { goes_on = goes_on-then old mid new g h.goes_on; derivation = h.derivation; ends = h.ends }

pub denial-closes : (a : Arena) (old new : List Entry) (n k : ℕ) (s t : TermId) → Gains a old new n (equation (tree a s) (tree a t)) → fact_at a old k ≡ Some (negation (equation (tree a s) (tree a t))) → Closes a old new n (Some k)
denial-closes a old new n k s t g d = record {
  goes_on = goes_on-gains a old new n (equation (tree a s) (tree a t)) g;
  derivation = g.derivation;
  ends = denial-ends a new n k s t g.fact (gains-keeps a old new n k (equation (tree a s) (tree a t)) (negation (equation (tree a s) (tree a t))) g d);
}
