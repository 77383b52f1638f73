-- The facts from which terms have their values.
use Rattle.std.proofs.Common.{◌≡◌, ℕ, Bool, true, false, cond, ◌||◌, List, [], ◌∷◌, refl, sym, ap, ◌∙◌, subst, Option, Some, None, inl, inr, ◌⊎◌}
use Rattle.std.specs.Prelude.{is_some}
use Rattle.std.specs.Cmp.Derive.{both_true}
use Rattle.std.proofs.lemmas.Bool.{false≢true}
use Rattle.std.proofs.lemmas.Option.{same_Some}
use Rattle.spv_logic.specs.declared.conditions.TermId.{TermId}
use Rattle.spv_logic.specs.Terms.{Term, term_eq}
use Rattle.spv_logic.specs.Formulas.{negation, equation, below}
use Rattle.spv_logic.proofs.Equality.{term_eq-refl}
use Rattle.spv_term.specs.declared.nodes.Condition.{Condition}
use Rattle.spv_term.specs.Arena.{Arena, tree}
use Rattle.spv_atoms.specs.Atoms.{is_number}
use Rattle.spv_atoms.proofs.Members.{or_cases, or_left, or_right}
use Rattle.spv_proof_rules.specs.Sums.{negated}
use Rattle.spv_proof_rules.specs.Evaluation.{sides, cites, apart, evaluates}
use Rattle.spv_proof_rules.specs.Effects.{is_truth, numbered}
use Rattle.spv_proof_rules.specs.Stand.{question}
use Rattle.spv_tableau_rules.specs.constraints.Sayings.{literal}
use Rattle.spv_derivations.specs.declared.derivation.entries.Entry.{Entry}
use Rattle.spv_derivations.specs.derivation.Derivation.{IsComparison, are_numbers}
use Rattle.spv_derivations.specs.derivation.Derived.{IsFalseTerm}
use Rattle.spv_derivations.specs.branches.Paths.{facts_in, IsPath}
use Rattle.spv_assignments.specs.declared.polarity.saying.Standing.{Standing}
use Rattle.spv_assignments.specs.polarity.Standings.{IsStanding}
use Rattle.spv_assignments.specs.declared.partial_assignment.facts.Known.{Known}
use Rattle.spv_assignments.specs.partial_assignment.Facts.{fact_of, facts_of}
use Rattle.spv_assignments.specs.partial_assignment.Values.{AreUncrossed}
use Rattle.spv_assignments.specs.partial_assignment.Following.{IsKnowledge}
use Rattle.spv_assignments.proofs.monotonicity.Valued.{values_have_reasons, orders_make_false}
use Rattle.spv_decisions.specs.literal_lookup.Facts.{IsAmong}
use Rattle.spv_decisions.specs.literal_lookup.Orders.{orders, has_order}
use Rattle.spv_decisions.proofs.literal_lookup.Among.{one_passes}
use Rattle.spv_decisions.proofs.literal_lookup.Ordered.{crosses_some, crosses_none, order_is}
use Rattle.spv_trail.specs.trail_states.Told.{values_of}
use Rattle.spv_trail.proofs.trail_states.RowConstraint.{compared, found_from, from_found}
use Rattle.spv_trail.specs.asserted_steps.Steps.{HasNumber, IsDerived}
use Rattle.spv_trail.proofs.asserted_steps.Numbers.{derived_number, then_derived}
use Rattle.spv_trail.specs.propagation.Learning.{MayCite}
use Rattle.spv_trail.proofs.propagation.Citing.{same_number}

-- ---- orders among known facts

some_of : (b : Bool) → is_some (cond b (Some false) None) ≡ true → b ≡ true
some_of true e = refl
some_of false e = absurd (false≢true e)

-- where known facts tell the sides of a term apart, one of them is an order of its sides
pub apart_order : (a : Arena) (t : TermId) (ks : List Known) → is_some (apart (facts_of a ks) (sides (tree a t))) ≡ true → has_order a ks t ≡ true
apart_order a t ks e = by_sides (sides (tree a t)) refl e
  where
    by_fact : (l r f : Term) → Some (l, r) ≡ sides (tree a t) → (term_eq (below l r) f || term_eq (below r l) f) ≡ true → cites (facts_of a ks) f ≡ true → has_order a ks t ≡ true
    by_fact l r f s h m =
        let found = from_found (fact_of a) ks f m in
        one_passes (orders a t) ks found.place found.item found.there
        (sym (crosses_some (tree a t) (fact_of a found.item) l r (term_eq (below l r) (fact_of a found.item) || term_eq (below r l) (fact_of a found.item)) s refl)
        ∙ (ap (λ (g : Term). term_eq (below l r) g || term_eq (below r l) g) found.is ∙ h))

    by_sides : (o : Option (Term × Term)) → sides (tree a t) ≡ o → is_some (apart (facts_of a ks) o) ≡ true → has_order a ks t ≡ true
    by_sides None s h = absurd (false≢true h)
    by_sides (Some st) s h =
        or_cases (cites (facts_of a ks) (below st.0 st.1)) (cites (facts_of a ks) (below st.1 st.0)) (some_of (cites (facts_of a ks) (below st.0 st.1) || cites (facts_of a ks) (below st.1 st.0)) h)
        (λ m. by_fact st.0 st.1 (below st.0 st.1) (sym s) (or_left (term_eq (below st.0 st.1) (below st.0 st.1)) (term_eq (below st.1 st.0) (below st.0 st.1)) (term_eq-refl (below st.0 st.1))) m)
        (λ m. by_fact st.0 st.1 (below st.1 st.0) (sym s) (or_right (term_eq (below st.0 st.1) (below st.1 st.0)) (term_eq (below st.1 st.0) (below st.1 st.0)) (term_eq-refl (below st.1 st.0))) m)

-- a core whose value no fact says is false, and an order of its sides is known
pub core_denied : (a : Arena) (ks : List Known) (core : TermId) (truth : Bool) → negated (tree a core) ≡ None → values_of a ks (tree a core) ≡ Some truth → cites (facts_of a ks) (literal truth (tree a core)) ≡ false
    → (truth ≡ false) × (has_order a ks core ≡ true)
core_denied a ks core truth bare value other = by_reason (values_have_reasons (facts_of a ks) (tree a core) bare truth value)
  where
    by_reason : (cites (facts_of a ks) (literal truth (tree a core)) ≡ true) ⊎ ((truth ≡ false) × (is_some (apart (facts_of a ks) (sides (tree a core))) ≡ true)) → (truth ≡ false) × (has_order a ks core ≡ true)
    by_reason (inl m) = absurd (false≢true (sym other ∙ m))
    by_reason (inr h) = (h.0, apart_order a core ks h.1)

pub no_order_false : (b : Bool) → b ≡ true → b ≡ false → ⊥
no_order_false b e f = false≢true (sym f ∙ e)

-- ---- a known order of the sides of a term

module _ (a : Arena) (ks : List Known) (knowledge : IsKnowledge a (facts_of a ks)) (uncrossed : AreUncrossed (facts_of a ks)) (t : TermId) (order : Known) (among : IsAmong ks order) (crosses_it : orders a t order ≡ true) where
  cited_order : cites (facts_of a ks) (fact_of a order) ≡ true
  cited_order = found_from (fact_of a) ks among.place order among.is

  cited_as : (f : Term) → fact_of a order ≡ f → cites (facts_of a ks) f ≡ true
  cited_as f e = subst (λ (g : Term). cites (facts_of a ks) g ≡ true) e cited_order

  -- the sides are numbers
  pub order_compares : IsComparison a t
  order_compares = by_option (sides (tree a t)) refl
    where
      by_order : (l r : Term) → (fact_of a order ≡ below l r) ⊎ (fact_of a order ≡ below r l) → are_numbers (is_number a.shapes a.decls) (Some (l, r)) ≡ true
      by_order l r (inl e) = let both = knowledge.over.numbers l r (cited_as (below l r) e) in both_true both.0 both.1
      by_order l r (inr e) = let both = knowledge.over.numbers r l (cited_as (below r l) e) in both_true both.1 both.0

      by_option : (o : Option (Term × Term)) → sides (tree a t) ≡ o → are_numbers (is_number a.shapes a.decls) (sides (tree a t)) ≡ true
      by_option None e = absurd (false≢true (crosses_none (tree a t) (fact_of a order) (sym e) ∙ crosses_it))
      by_option (Some st) e = ap (are_numbers (is_number a.shapes a.decls)) e ∙ by_order st.0 st.1 (order_is (tree a t) (fact_of a order) st.0 st.1 (sym e) crosses_it)

  -- and the term is false
  pub ordered_false : values_of a ks (tree a t) ≡ Some false
  ordered_false =
      let m = compared a (tree a t) order_compares in
      ap (values_of a ks) m.is ∙ by_order m.left m.right (order_is (tree a t) (fact_of a order) m.left m.right (sym (ap sides m.is)) crosses_it)
    where
      by_order : (l r : Term) → (fact_of a order ≡ below l r) ⊎ (fact_of a order ≡ below r l) → values_of a ks (equation l r) ≡ Some false
      by_order l r (inl e) = (orders_make_false (facts_of a ks) uncrossed l r (cited_as (below l r) e)).0
      by_order l r (inr e) = (orders_make_false (facts_of a ks) uncrossed r l (cited_as (below r l) e)).1

  pub ordered_truth : (truth : Bool) → values_of a ks (tree a t) ≡ Some truth → truth ≡ false
  ordered_truth truth e = same_Some truth false (sym e ∙ ordered_false)

-- ---- numbers of facts

-- an equation is denied by an order of its sides
pub denied_core : (a : Arena) (c : Condition) (falsity : TermId) (cases : List Term) (es es2 : List Entry) (ks : List Known) (core : TermId) (truth : Bool) (order : Known) (n : ℕ) → truth ≡ false → IsAmong ks order × (orders a core order ≡ true)
    → (IsPath (question a c) cases es → IsFalseTerm a falsity → is_truth (question a c) (tree a core) ≡ true → orders a core order ≡ true → numbered (facts_in (question a c) es) order.fact ≡ Some (fact_of a order) → HasNumber (question a c) cases es es2 n (negation (tree a core)))
    → MayCite a c falsity cases es ks → is_truth (question a c) (tree a core) ≡ true → HasNumber (question a c) cases es es2 n (literal truth (tree a core))
denied_core a c falsity cases es es2 ks core truth order n is found denied may formula =
    subst (λ (b : Bool). HasNumber (question a c) cases es es2 n (literal b (tree a core))) (sym is)
    (denied may.path may.falsity_is formula found.1 (may.citable.each found.0.place order found.0.is).number)

-- the fact says of the term itself what it says of the core
pub same_term_number : (a : Arena) (c : Condition) (cases : List Term) (old es : List Entry) (n : ℕ) (t : TermId) (truth : Bool) (s : Standing) → IsStanding a t truth s → s.is_same ≡ true → HasNumber (question a c) cases old es n (literal s.truth (tree a s.core))
    → HasNumber (question a c) cases old es n (literal truth (tree a t))
same_term_number a c cases old es n t truth s st same h = subst (λ (f : Term). HasNumber (question a c) cases old es n f) (sym (st.same same)) h

pub same_core_number : (a : Arena) (c : Condition) (cases : List Term) (es : List Entry) (n : ℕ) (t : TermId) (truth : Bool) (s : Standing) → IsPath (question a c) cases es → IsStanding a t truth s → s.is_same ≡ true → numbered (facts_in (question a c) es) n ≡ Some (literal truth (tree a t))
    → HasNumber (question a c) cases es es n (literal s.truth (tree a s.core))
same_core_number a c cases es n t truth s path st same number =
    same_number (question a c) cases es n (literal s.truth (tree a s.core)) path (number ∙ ap (λ (f : Term). Some f) (st.same same))

-- it evaluates from what the fact says of the core
pub evaluated_number : (a : Arena) (c : Condition) (cases : List Term) (old es es2 : List Entry) (m n : ℕ) (t : TermId) (truth : Bool) (s : Standing) → IsStanding a t truth s → s.is_same ≡ false
    → (IsPath (question a c) cases es → numbered (facts_in (question a c) es) m ≡ Some (literal s.truth (tree a s.core)) → is_truth (question a c) (tree a t) ≡ true
    → evaluates (is_truth (question a c)) (literal s.truth (tree a s.core) ∷ []) (literal truth (tree a t)) ≡ true → IsDerived (question a c) cases es es2 n (literal truth (tree a t)))
    → HasNumber (question a c) cases old es m (literal s.truth (tree a s.core)) → is_truth (question a c) (tree a t) ≡ true → HasNumber (question a c) cases old es2 n (literal truth (tree a t))
evaluated_number a c cases old es es2 m n t truth s st other derives h formula =
    then_derived (question a c) cases old es es2 m n (literal s.truth (tree a s.core)) (literal truth (tree a t)) h (derives h.path h.number formula (st.back other (is_truth (question a c))))

-- and what it says of the core from what it says of the term
pub evaluated_core_number : (a : Arena) (c : Condition) (cases : List Term) (es es2 : List Entry) (m n : ℕ) (t : TermId) (truth : Bool) (s : Standing) → IsStanding a t truth s → s.is_same ≡ false
    → (numbered (facts_in (question a c) es) m ≡ Some (literal truth (tree a t)) → is_truth (question a c) (tree a s.core) ≡ true
    → evaluates (is_truth (question a c)) (literal truth (tree a t) ∷ []) (literal s.truth (tree a s.core)) ≡ true → IsDerived (question a c) cases es es2 n (literal s.truth (tree a s.core)))
    → is_truth (question a c) (tree a s.core) ≡ true → numbered (facts_in (question a c) es) m ≡ Some (literal truth (tree a t)) → HasNumber (question a c) cases es es2 n (literal s.truth (tree a s.core))
evaluated_core_number a c cases es es2 m n t truth s st other derives formula number =
    derived_number (question a c) cases es es2 n (literal s.truth (tree a s.core)) (derives number formula (st.follows other (is_truth (question a c))))
