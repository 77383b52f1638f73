-- How what is told on a path grows: by facts, by known facts, and by literals.
use Rattle.std.proofs.Common.{◌≡◌, ◌⊎◌, ℕ, zero, suc, Bool, true, false, cond, ◌||◌, List, [], ◌∷◌, ◌++◌, refl, sym, ap, ◌∙◌, subst, Option, Some, None, inl, inr}
use mathlib.Core.List.{map-append}
use Rattle.std.specs.Prelude.{⊤, slice_get, is_some}
use Rattle.std.proofs.lemmas.Bool.{false≢true}
use Rattle.std.proofs.lemmas.Option.{same_Some}
use Rattle.spv_logic.proofs.list.Tests.{left_true}
use Rattle.spv_logic.specs.declared.conditions.TermId.{TermId}
use Rattle.spv_logic.specs.declared.types.Sort.{Sort}
use Rattle.spv_logic.specs.declared.types.Sort.TheVariants as sort
use Rattle.spv_logic.specs.declared.types.Shape.{Shape}
use Rattle.spv_logic.specs.declared.types.Decl.{Decl}
use Rattle.spv_logic.specs.declared.operators.Head.TheVariants.{Lt}
use Rattle.spv_logic.specs.Terms.{Term, term_eq}
use Rattle.spv_logic.specs.Formulas.{negation, equation, below}
use Rattle.spv_logic.specs.Sorts.{term_sort, with_sorts, sort_before, result_sort}
use Rattle.spv_logic.proofs.Equality.{term_eq-refl}
use Rattle.spv_logic.proofs.Sorting.{taken}
use Rattle.spv_term.specs.declared.nodes.Condition.{Condition}
use Rattle.spv_term.specs.Arena.{Arena, tree}
use Rattle.spv_atoms.specs.Tables.{numeral_relation}
use Rattle.spv_atoms.specs.Atoms.{has_sort, is_number}
use Rattle.spv_atoms.specs.Atoms as atoms_of
use Rattle.spv_atoms.proofs.Members.{has, has-left, has-last, or_left, or_right}
use Rattle.spv_proof_rules.specs.Sums.{negated}
use Rattle.spv_proof_rules.specs.Evaluation.{cites, bare}
use Rattle.spv_proof_rules.specs.Effects.{Question, numbered, is_negation_of, contrary, is_truth}
use Rattle.spv_proof_rules.specs.Stand.{question}
use Rattle.spv_derivations.specs.declared.derivation.entries.Part.{Part}
use Rattle.spv_derivations.specs.declared.derivation.entries.Part.TheVariants.{True, False, Below, Above}
use Rattle.spv_derivations.specs.declared.derivation.entries.Entry.{Entry}
use Rattle.spv_derivations.specs.derivation.Derivation.{literal, PartFits}
use Rattle.spv_derivations.specs.derivation.Literals.{Literal, AreKnown}
use Rattle.spv_derivations.proofs.derivation.Growth.{numbered-more}
use Rattle.spv_models.specs.leaf_models.Laws.{AreFormulas}
use Rattle.spv_models.specs.leaf_models.Tables.{formulas_of}
use Rattle.spv_models.proofs.leaf_models.Covering.{atoms-are}
use Rattle.spv_models.proofs.leaf_models.Values.{sort_known}
use Rattle.spv_derivations.specs.branches.Paths.{facts_in}
use Rattle.spv_tableau_rules.proofs.pivots.Algebra.{false_of}
use Rattle.spv_assignments.specs.declared.partial_assignment.facts.Known.{Known}
use Rattle.spv_assignments.specs.partial_assignment.Facts.{fact_of, facts_of, AreNumbered}
use Rattle.spv_assignments.specs.partial_assignment.Values.{IsIn, IsCase, AreUncrossed}
use Rattle.spv_assignments.specs.partial_assignment.Following.{IsKnowledge}
use Rattle.spv_assignments.proofs.partial_assignment.Told.{facts_are_true}
use Rattle.spv_assignments.proofs.partial_assignment.Clashing.{bare_literal}
use Rattle.spv_decisions.specs.literal_lookup.Orders.{crosses}
use Rattle.spv_decisions.specs.literal_lookup.Clashes.{clash}
use Rattle.spv_assignments.proofs.monotonicity.Growing.{literals_grow, uncrossed_grow, over_grows}
use Rattle.spv_assignments.proofs.monotonicity.Valued.{values_grow}
use Rattle.spv_branch_theory.specs.search_invariant.Facts.{IsFormula, of_atoms, of_parts}
use Rattle.spv_trail.specs.trail_states.Told.{meaning, IsToldIn, IsDeniedIn, by_itself, by_below, by_above, IsToldWith, IsAsked, IsOrderToldIn, IsFounded, values_of, IsStored}
use Rattle.spv_trail.proofs.trail_states.RowConstraint.{compared}

-- ---- places

pub at_push : {A : Type 0} (xs : List A) (x y : A) (i : ℕ) → slice_get (xs ++ x ∷ []) i ≡ Some y → (slice_get xs i ≡ Some y) ⊎ (x ≡ y)
at_push [] x y zero e = inr (same_Some x y e)
at_push [] x y (suc i) e = absurd (cc)
at_push (z ∷ xs) x y zero e = inl e
at_push (z ∷ xs) x y (suc i) e = at_push xs x y i e

pub at_stays : {A : Type 0} (xs more : List A) (y : A) (i : ℕ) → slice_get xs i ≡ Some y → slice_get (xs ++ more) i ≡ Some y
at_stays [] more y i e = absurd (cc)
at_stays (z ∷ xs) more y zero e = e
at_stays (z ∷ xs) more y (suc i) e = at_stays xs more y i e

pub at_last : {A : Type 0} (xs : List A) (x : A) → (i : ℕ) × (slice_get (xs ++ x ∷ []) i ≡ Some x)
at_last [] x = (0, refl)
at_last (z ∷ xs) x = let k = at_last xs x in (suc k.0, k.1)

-- ---- numbers

pub numbered_longer : (a : Arena) (facts more : List Term) (ks : List Known) → AreNumbered a facts ks → AreNumbered a (facts ++ more) ks
numbered_longer a facts more [] h = tt
numbered_longer a facts more (k ∷ ks) h = (numbered-more facts more k.fact (fact_of a k) h.0, numbered_longer a facts more ks h.1)

numbered_push : (a : Arena) (facts : List Term) (ks : List Known) (k : Known) → AreNumbered a facts ks → numbered facts k.fact ≡ Some (fact_of a k) → AreNumbered a facts (ks ++ k ∷ [])
numbered_push a facts [] k h e = (e, tt)
numbered_push a facts (x ∷ ks) k h e = (h.0, numbered_push a facts ks k h.1 e)

pub known_longer : (a : Arena) (facts more : List Term) (ls : List Literal) → AreKnown a facts ls → AreKnown a (facts ++ more) ls
known_longer a facts more ls h = record { each = λ i l at. numbered-more facts more l.why (literal (tree a l.atom) l.part) (h.each i l at) }

known_push : (a : Arena) (facts : List Term) (ls : List Literal) (l : Literal) → AreKnown a facts ls → numbered facts l.why ≡ Some (meaning a l) → AreKnown a facts (ls ++ l ∷ [])
known_push a facts ls l h e = record {
  each = λ i m at. elim (at_push ls l m i at) [ inl k ↦ h.each i m k | inr same ↦ subst (λ (n : Literal). numbered facts n.why ≡ Some (literal (tree a n.atom) n.part)) same e ];
}

-- ---- what was told stays told

module _ (a : Arena) (ls more : List Literal) where
  pub told_longer : (t : Term) (p : Part) → IsToldIn a ls t p → IsToldIn a (ls ++ more) t p
  told_longer t p k = record { place = k.place; told_one = k.told_one; there = at_stays ls more k.told_one k.place k.there; atom = k.atom; part_is = k.part_is }

  denied_longer : (t : Term) → IsDeniedIn a ls t → IsDeniedIn a (ls ++ more) t
  denied_longer t (by_itself k) = by_itself (told_longer t False k)
  denied_longer t (by_below x y e k) = by_below x y e (told_longer t Below k)
  denied_longer t (by_above x y e k) = by_above x y e (told_longer t Above k)

  pub with_longer : (t : Term) (b : Bool) → IsToldWith a ls t b → IsToldWith a (ls ++ more) t b
  with_longer t true k = told_longer t True k
  with_longer t false k = denied_longer t k

  order_longer : (t : TermId) (p : Part) → IsOrderToldIn a ls t p → IsOrderToldIn a (ls ++ more) t p
  order_longer t True k = k
  order_longer t False k = k
  order_longer t Below k = told_longer (tree a t) Below k
  order_longer t Above k = told_longer (tree a t) Above k

  pub founded_longer : (q : Question) (k : Known) → IsFounded a q ls k → IsFounded a q (ls ++ more) k
  founded_longer q k f = record { within = f.within; bare = f.bare; formula = f.formula; fits = f.fits; order = order_longer k.term k.part f.order }

-- ---- sorts

-- a formula of a search is of sort Bool
pub formula_truth : (q : Question) → AreFormulas q.shapes q.decls (formulas_of q.sequent) → (t : Term) → IsFormula q t → is_truth q t ≡ true
formula_truth q are t (of_atoms m) = left_true _ _ (atoms-are q.shapes q.decls (formulas_of q.sequent) are t m)
formula_truth q are t (of_parts m k) = k

-- the sides of an order that is of sort Bool are numbers
order_sorts : (shapes : List Shape) (decls : List Decl) (o p : Option Sort) → with_sorts (sort_before o (sort_before p (Some []))) (result_sort shapes decls Lt) ≡ Some sort.Bool → (o ≡ Some sort.Int) × (p ≡ Some sort.Int)
order_sorts shapes decls None p e = absurd (cc)
order_sorts shapes decls (Some x) None e = absurd (cc)
order_sorts shapes decls (Some x) (Some y) e = by_wanted (taken (sort.Int ∷ sort.Int ∷ []) (x ∷ y ∷ []) sort.Bool sort.Bool e).wanted_is
  where
    by_wanted : (sort.Int ∷ sort.Int ∷ []) ≡ (x ∷ y ∷ []) → (Some x ≡ Some sort.Int) × (Some y ≡ Some sort.Int)
    by_wanted w = (cc, cc)

pub order_numbers : (shapes : List Shape) (decls : List Decl) (s t : Term) → atoms_of.is_truth shapes decls (below s t) ≡ true → (is_number shapes decls s ≡ true) × (is_number shapes decls t ≡ true)
order_numbers shapes decls s t e =
    let both = order_sorts shapes decls (term_sort shapes decls s) (term_sort shapes decls t) (sort_known sort.Bool (term_sort shapes decls (below s t)) e) in
    (ap (has_sort sort.Int) both.0, ap (has_sort sort.Int) both.1)

-- ---- a path with more facts, or one literal more

module _ (a : Arena) (c : Condition) where
  pub stored_longer : (es es2 : List Entry) (ks : List Known) (ls : List Literal) (more : List Term) → facts_in (question a c) es2 ≡ facts_in (question a c) es ++ more → IsStored a c es ks ls → IsStored a c es2 ks ls
  stored_longer es es2 ks ls more e s = record {
    numbered = subst (λ (fs : List Term). AreNumbered a fs ks) (sym e) (numbered_longer a (facts_in (question a c) es) more ks s.numbered);
    literals = subst (λ (fs : List Term). AreKnown a fs ls) (sym e) (known_longer a (facts_in (question a c) es) more ls s.literals);
    knowledge = s.knowledge;
    uncrossed = s.uncrossed;
    founded = s.founded;
    asked = s.asked;
    true_ones = s.true_ones;
  }

  pub stored_told : (es : List Entry) (ks : List Known) (ls : List Literal) (l : Literal) → IsStored a c es ks ls → numbered (facts_in (question a c) es) l.why ≡ Some (meaning a l) → IsAsked a (question a c) l
      → values_of a ks (meaning a l) ≡ Some true → IsStored a c es ks (ls ++ l ∷ [])
  stored_told es ks ls l s e asked value = record {
    numbered = s.numbered;
    literals = known_push a (facts_in (question a c) es) ls l s.literals e;
    knowledge = s.knowledge;
    uncrossed = s.uncrossed;
    founded = λ i k at. founded_longer a ls (l ∷ []) (question a c) k (s.founded i k at);
    asked = λ i m at. elim (at_push ls l m i at) [ inl k ↦ s.asked i m k | inr same ↦ subst (IsAsked a (question a c)) same asked ];
    true_ones = λ i m at. elim (at_push ls l m i at) [ inl k ↦ s.true_ones i m k | inr same ↦ subst (λ (n : Literal). values_of a ks (meaning a n) ≡ Some true) same value ];
  }

-- ---- one known fact more

facts_push : (a : Arena) (ks : List Known) (k : Known) → facts_of a (ks ++ k ∷ []) ≡ facts_of a ks ++ fact_of a k ∷ []
facts_push a ks k = map-append (fact_of a) ks (k ∷ [])

-- a new fact that does not clash
abbrev IsQuiet : List Term → Term → Type 0
IsQuiet facts f = (t : Term) → cites facts t ≡ true → clash f t ≡ false

module _ (facts : List Term) (f : Term) (quiet : IsQuiet facts f) where
  not_cited : (t : Term) → clash f t ≡ true → cites facts t ≡ false
  not_cited t e = false_of (cites facts t) (λ m. false≢true (sym (quiet t m) ∙ e))

  no_negation : cites facts (negation f) ≡ false
  no_negation = not_cited (negation f) (or_left (contrary f (negation f)) _ (or_right (is_negation_of (negated f) (negation f)) (term_eq f f) (term_eq-refl f)))

  no_negated : (g : Term) → f ≡ negation g → cites facts g ≡ false
  no_negated g e = not_cited g (or_left (contrary f g) _ (ap (λ (x : Term). contrary x g) e ∙ or_left (term_eq g g) (is_negation_of (negated g) (negation g)) (term_eq-refl g)))

  -- an order of the sides of an equation is neither known nor new beside it
  no_order : (s t x y : Term) → f ≡ equation s t → ((term_eq (below s t) (below x y) || false) || (term_eq (below t s) (below x y) || false)) ≡ true → cites facts (below x y) ≡ false
  no_order s t x y e m =
      not_cited (below x y)
      (or_right (contrary f (below x y)) _ (or_left (crosses f (below x y)) (crosses (below x y) f)
      (ap (λ (u : Term). crosses u (below x y)) e ∙ ap (λ (b : Bool). is_some (cond b (Some false) None)) m)))

  no_equation : (s t x y : Term) → f ≡ below s t → ((term_eq (below x y) (below s t) || false) || (term_eq (below y x) (below s t) || false)) ≡ true → cites facts (equation x y) ≡ false
  no_equation s t x y e m =
      not_cited (equation x y)
      (or_right (contrary f (equation x y)) _ (or_right (crosses f (equation x y)) (crosses (equation x y) f)
      (ap (λ (u : Term). crosses (equation x y) u) e ∙ ap (λ (b : Bool). is_some (cond b (Some false) None)) m)))

  same_first : (s t : Term) → ((term_eq (below s t) (below s t) || false) || (term_eq (below t s) (below s t) || false)) ≡ true
  same_first s t = or_left (term_eq (below s t) (below s t) || false) (term_eq (below t s) (below s t) || false) (or_left (term_eq (below s t) (below s t)) false (term_eq-refl (below s t)))

  same_second : (s t : Term) → ((term_eq (below s t) (below t s) || false) || (term_eq (below t s) (below t s) || false)) ≡ true
  same_second s t = or_right (term_eq (below s t) (below t s) || false) (term_eq (below t s) (below t s) || false) (or_left (term_eq (below t s) (below t s)) false (term_eq-refl (below t s)))

  uncrossed_more : AreUncrossed facts → AreUncrossed (facts ++ f ∷ [])
  uncrossed_more u =
      uncrossed_grow facts u f (λ s t e. (no_order s t s t e (same_first s t), no_order s t t s e (same_second s t)))
      (λ s t e. (no_equation s t s t e (same_first s t), no_equation s t t s e (same_second t s)))

-- where a known fact comes from: of a term of the arena, or an order that is a case
abbrev IsPlaced : Arena → Term → Type 0
IsPlaced a f = IsIn a (bare f) ⊎ IsCase f

abbrev Numbers : Arena → Term → Type 0
Numbers a f = (s t : Term) → f ≡ below s t → (is_number a.shapes a.decls s ≡ true) × (is_number a.shapes a.decls t ≡ true)

no_negation_below : (u s t : Term) → negation u ≡ below s t → ⊥
no_negation_below u s t e = cc

-- an order that is told of an equation is not one of numerals that is false
abbrev pub IsUnrefuted : Arena → TermId → Part → Type 0
IsUnrefuted a t True = ⊤
IsUnrefuted a t False = ⊤
IsUnrefuted a t Below = numeral_relation (literal (tree a t) Below) ≡ Some false → ⊥
IsUnrefuted a t Above = numeral_relation (literal (tree a t) Above) ≡ Some false → ⊥

module _ (a : Arena) (c : Condition) (are : AreFormulas a.shapes a.decls (formulas_of (question a c).sequent)) (ls : List Literal) (k : Known) (founded : IsFounded a (question a c) ls k) where
  bare_fact : (p : Part) → PartFits a k.term p → negated (bare (literal (tree a k.term) p)) ≡ None
  bare_fact True h = ap negated (bare_literal true (tree a k.term) founded.bare) ∙ founded.bare
  bare_fact False h = ap negated (bare_literal false (tree a k.term) founded.bare) ∙ founded.bare
  bare_fact Below h = let m = compared a (tree a k.term) h in ap (λ (u : Term). negated (bare (literal u Below))) m.is
  bare_fact Above h = let m = compared a (tree a k.term) h in ap (λ (u : Term). negated (bare (literal u Above))) m.is

  placed : (p : Part) → PartFits a k.term p → IsUnrefuted a k.term p → IsPlaced a (literal (tree a k.term) p)
  placed True h u = inl (record { id = k.term; in_range = founded.within; is = sym (bare_literal true (tree a k.term) founded.bare) })
  placed False h u = inl (record { id = k.term; in_range = founded.within; is = sym (bare_literal false (tree a k.term) founded.bare) })
  placed Below h u = let m = compared a (tree a k.term) h in inr (record { left = m.left; right = m.right; is = ap (λ (x : Term). literal x Below) m.is; holds = u })
  placed Above h u = let m = compared a (tree a k.term) h in inr (record { left = m.right; right = m.left; is = ap (λ (x : Term). literal x Above) m.is; holds = u })

  numbers : (p : Part) → PartFits a k.term p → Numbers a (literal (tree a k.term) p)
  numbers True h s t e = order_numbers a.shapes a.decls s t (ap (atoms_of.is_truth a.shapes a.decls) (sym e) ∙ formula_truth (question a c) are (tree a k.term) founded.formula)
  numbers False h s t e = absurd (no_negation_below (tree a k.term) s t e)
  numbers Below h s t e =
      let m = compared a (tree a k.term) h in
      let f : below m.left m.right ≡ below s t = sym (ap (λ (x : Term). literal x Below) m.is) ∙ e in
      (ap (is_number a.shapes a.decls) (sym (first m.left m.right s t f)) ∙ m.left_number, ap (is_number a.shapes a.decls) (sym (second m.left m.right s t f)) ∙ m.right_number)
    where
      first : (x y u v : Term) → below x y ≡ below u v → x ≡ u
      first x y u v e = cc

      second : (x y u v : Term) → below x y ≡ below u v → y ≡ v
      second x y u v e = cc
  numbers Above h s t e =
      let m = compared a (tree a k.term) h in
      let f : below m.right m.left ≡ below s t = sym (ap (λ (x : Term). literal x Above) m.is) ∙ e in
      (ap (is_number a.shapes a.decls) (sym (first m.right m.left s t f)) ∙ m.right_number, ap (is_number a.shapes a.decls) (sym (second m.right m.left s t f)) ∙ m.left_number)
    where
      first : (x y u v : Term) → below x y ≡ below u v → x ≡ u
      first x y u v e = cc

      second : (x y u v : Term) → below x y ≡ below u v → y ≡ v
      second x y u v e = cc

  module _ (ks : List Known) (knowledge : IsKnowledge a (facts_of a ks)) (uncrossed : AreUncrossed (facts_of a ks)) (quiet : IsQuiet (facts_of a ks) (fact_of a k)) (unrefuted : IsUnrefuted a k.term k.part) where
    pub knowledge_more : IsKnowledge a (facts_of a (ks ++ k ∷ []))
    knowledge_more = subst (λ (fs : List Term). IsKnowledge a fs) (sym (facts_push a ks k)) (record {
      literals =
          literals_grow (facts_of a ks) knowledge.literals (fact_of a k) (bare_fact k.part founded.fits) (no_negation (facts_of a ks) (fact_of a k) quiet)
          (no_negated (facts_of a ks) (fact_of a k) quiet);
      over = over_grows a (facts_of a ks) knowledge.over (fact_of a k) (placed k.part founded.fits unrefuted) (numbers k.part founded.fits);
    })

    pub uncrossed_now : AreUncrossed (facts_of a (ks ++ k ∷ []))
    uncrossed_now = subst (λ (fs : List Term). AreUncrossed fs) (sym (facts_push a ks k)) (uncrossed_more (facts_of a ks) (fact_of a k) quiet uncrossed)

    -- what has a value keeps it
    pub values_keep : (t : Term) (b : Bool) → values_of a ks t ≡ Some b → values_of a (ks ++ k ∷ []) t ≡ Some b
    values_keep =
        values_grow (facts_of a ks) (facts_of a (ks ++ k ∷ [])) (λ t m. ap (λ fs. has fs t) (facts_push a ks k) ∙ has-left (facts_of a ks) (fact_of a k ∷ []) t m) knowledge_more.literals uncrossed_now

    -- and the new fact is among those that are known
    pub cited_now : cites (facts_of a (ks ++ k ∷ [])) (fact_of a k) ≡ true
    cited_now = ap (λ fs. has fs (fact_of a k)) (facts_push a ks k) ∙ has-last (facts_of a ks) (fact_of a k)

  pub stored_known : (es : List Entry) (ks : List Known) → IsStored a c es ks ls → numbered (facts_in (question a c) es) k.fact ≡ Some (fact_of a k) → IsQuiet (facts_of a ks) (fact_of a k) → IsUnrefuted a k.term k.part
      → IsStored a c es (ks ++ k ∷ []) ls
  stored_known es ks s number quiet unrefuted = record {
    numbered = numbered_push a (facts_in (question a c) es) ks k s.numbered number;
    literals = s.literals;
    knowledge = knowledge_more ks s.knowledge s.uncrossed quiet unrefuted;
    uncrossed = uncrossed_now ks s.knowledge s.uncrossed quiet unrefuted;
    founded = λ i x at. elim (at_push ks k x i at) [ inl h ↦ s.founded i x h | inr same ↦ subst (IsFounded a (question a c) ls) same founded ];
    asked = s.asked;
    true_ones = λ i l at. values_keep ks s.knowledge s.uncrossed quiet unrefuted (meaning a l) true (s.true_ones i l at);
  }

-- ---- a case: a known fact and a literal at once

abbrev pub literal_of : Known → Literal
literal_of k = record { atom = k.term; part = k.part; why = k.fact }

pub stored_case : (a : Arena) (c : Condition) (es es2 : List Entry) (ks : List Known) (ls : List Literal) (k : Known) (more : List Term) → AreFormulas a.shapes a.decls (formulas_of (question a c).sequent) → IsStored a c es ks ls
    → facts_in (question a c) es2 ≡ facts_in (question a c) es ++ more → numbered (facts_in (question a c) es2) k.fact ≡ Some (fact_of a k) → IsFounded a (question a c) (ls ++ literal_of k ∷ []) k
    → IsAsked a (question a c) (literal_of k) → IsQuiet (facts_of a ks) (fact_of a k) → IsUnrefuted a k.term k.part → IsStored a c es2 (ks ++ k ∷ []) (ls ++ literal_of k ∷ [])
stored_case a c es es2 ks ls k more are s e number founded asked quiet unrefuted =
    let l = stored_longer a c es es2 ks ls more e s in
    let knowledge = knowledge_more a c are (ls ++ literal_of k ∷ []) k founded ks s.knowledge s.uncrossed quiet unrefuted in
    record {
      numbered = numbered_push a (facts_in (question a c) es2) ks k l.numbered number;
      literals = known_push a (facts_in (question a c) es2) ls (literal_of k) l.literals number;
      knowledge = knowledge;
      uncrossed = uncrossed_now a c are (ls ++ literal_of k ∷ []) k founded ks s.knowledge s.uncrossed quiet unrefuted;
      founded = λ i x at. elim (at_push ks k x i at) [ inl h ↦ founded_longer a ls (literal_of k ∷ []) (question a c) x (s.founded i x h) | inr same ↦ subst (IsFounded a (question a c) (ls ++ literal_of k ∷ [])) same founded ];
      asked = λ i m at. elim (at_push ls (literal_of k) m i at) [ inl h ↦ s.asked i m h | inr same ↦ subst (IsAsked a (question a c)) same asked ];
      true_ones = λ i m at. elim (at_push ls (literal_of k) m i at) [
        | inl h ↦ values_keep a c are (ls ++ literal_of k ∷ []) k founded ks s.knowledge s.uncrossed quiet unrefuted (meaning a m) true (s.true_ones i m h)
        | inr same ↦ subst (λ (n : Literal). values_of a (ks ++ k ∷ []) (meaning a n) ≡ Some true) same
            (facts_are_true (facts_of a (ks ++ k ∷ [])) knowledge.literals (fact_of a k) (cited_now a c are (ls ++ literal_of k ∷ []) k founded ks s.knowledge s.uncrossed quiet unrefuted))
      ];
    }
