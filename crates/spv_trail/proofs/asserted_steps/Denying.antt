-- An equation of which a fact puts the sides in order: it equals FALSE, and so its negation follows.
use Rattle.std.proofs.Common.{◌≡◌, ℕ, Bool, true, false, cond, ◌||◌, List, [], ◌∷◌, refl, sym, ap, ◌∙◌, subst, Option, Some, None}
use Rattle.std.specs.Prelude.{is_some}
use Rattle.std.proofs.lemmas.Bool.{false≢true}
use Rattle.spv_logic.specs.declared.conditions.TermId.{TermId}
use Rattle.spv_logic.specs.declared.operators.Head.TheVariants as head
use Rattle.spv_logic.specs.Terms.{Term, term, no_terms, terms, term_eq}
use Rattle.spv_logic.specs.Formulas.{negation, equation, below}
use Rattle.spv_logic.proofs.Equality.{term_eq-true}
use Rattle.spv_term.specs.declared.nodes.Condition.{Condition}
use Rattle.spv_term.specs.Arena.{Arena, tree}
use Rattle.spv_atoms.proofs.Members.{or_cases}
use Rattle.spv_atoms.specs.declared.proofs.Step.TheVariants.{Eval}
use Rattle.spv_atoms.specs.declared.proofs.Stated.TheVariants.{Is, Same}
use Rattle.spv_proof_rules.specs.Evaluation.{sides, apart, evaluates}
use Rattle.spv_proof_rules.specs.Effects.{Adds, effect, is_truth, numbered}
use Rattle.spv_proof_rules.specs.Stand.{question}
use Rattle.spv_derivations.specs.declared.derivation.entries.Entry.{Entry}
use Rattle.spv_derivations.specs.derivation.Derived.{IsFalseTerm}
use Rattle.spv_derivations.proofs.derivation.Values.{lower_is_false, upper_is_false, denial_follows}
use Rattle.spv_derivations.specs.branches.Paths.{facts_in, IsPath}
use Rattle.spv_trail.specs.asserted_steps.Steps.{IsDerived, HasNumber}
use Rattle.spv_trail.proofs.asserted_steps.Numbers.{stated_is, stated_same, evaluation_adds, one_cited, derived_number, then_derived}

abbrev falsity_term : Term
falsity_term = term head.False no_terms

equation_is : (t : Term) (st : Term × Term) → sides t ≡ Some st → t ≡ equation st.0 st.1
equation_is (term head.Eq (terms s (terms u no_terms))) st e = let same : (s, u) ≡ st = cc in ap (λ (r : Term × Term). equation r.0 r.1) same
equation_is _ st e = absurd (cc)

-- an equation whose sides a fact puts in order, the one way round or the other, equals FALSE
pub equals_falsity : (truth : Term → Bool) (t f : Term) → truth t ≡ true → truth falsity_term ≡ true → is_some (apart (f ∷ []) (sides t)) ≡ true → evaluates truth (f ∷ []) (equation t falsity_term) ≡ true
equals_falsity truth t f is false_is ordered = by_sides (sides t) refl ordered
  where
    by_order : (x y : Term) → t ≡ equation x y → (c : Bool) → (term_eq (below x y) f || false) ≡ c → (d : Bool) → (term_eq (below y x) f || false) ≡ d → is_some (cond (c || d) (Some false) None) ≡ true → evaluates truth (f ∷ []) (equation t falsity_term) ≡ true
    by_order x y e true m d n h =
        let same : below x y ≡ f = or_cases (term_eq (below x y) f) false m (λ k. term_eq-true (below x y) f k) (λ k. absurd (false≢true k)) in
        subst (λ (g : Term). evaluates truth (g ∷ []) (equation t falsity_term) ≡ true) same
        (subst (λ (u : Term). evaluates truth (below x y ∷ []) (equation u falsity_term) ≡ true) (sym e) (lower_is_false truth x y (ap truth (sym e) ∙ is) false_is))
    by_order x y e false m true n h =
        let same : below y x ≡ f = or_cases (term_eq (below y x) f) false n (λ k. term_eq-true (below y x) f k) (λ k. absurd (false≢true k)) in
        subst (λ (g : Term). evaluates truth (g ∷ []) (equation t falsity_term) ≡ true) same
        (subst (λ (u : Term). evaluates truth (below y x ∷ []) (equation u falsity_term) ≡ true) (sym e) (upper_is_false truth x y (ap truth (sym e) ∙ is) false_is))
    by_order x y e false m false n h = absurd (false≢true h)

    by_sides : (o : Option (Term × Term)) → sides t ≡ o → is_some (apart (f ∷ []) o) ≡ true → evaluates truth (f ∷ []) (equation t falsity_term) ≡ true
    by_sides None s h = absurd (false≢true h)
    by_sides (Some st) s h = by_order st.0 st.1 (equation_is t st s) (term_eq (below st.0 st.1) f || false) refl (term_eq (below st.1 st.0) f || false) refl h

-- FALSE is of sort Bool
falsity_truth : (a : Arena) (c : Condition) (fal : TermId) → IsFalseTerm a fal → is_truth (question a c) (tree a fal) ≡ true
falsity_truth a c fal k = ap (is_truth (question a c)) k.is

-- two steps: that the equation equals FALSE, and its negation
pub denied_number : (a : Arena) (c : Condition) (es mid new : List Entry) (t fal : TermId) (f : Term) (k m n : ℕ)
    → ((cases : List Term) (g : Term) → IsPath (question a c) cases es → effect (question a c) (facts_in (question a c) es) (Eval (Same t fal) (k ∷ [])) ≡ Adds g → IsDerived (question a c) cases es mid m g)
    → ((cases : List Term) (g : Term) → IsPath (question a c) cases mid → effect (question a c) (facts_in (question a c) mid) (Eval (Is t false) (m ∷ [])) ≡ Adds g → IsDerived (question a c) cases mid new n g)
    → (cases : List Term) → IsPath (question a c) cases es → IsFalseTerm a fal → is_truth (question a c) (tree a t) ≡ true → is_some (apart (f ∷ []) (sides (tree a t))) ≡ true → numbered (facts_in (question a c) es) k ≡ Some f
    → HasNumber (question a c) cases es new n (negation (tree a t))
denied_number a c es mid new t fal f k m n first second cases path false_is is ordered number =
    let fal_truth = falsity_truth a c fal false_is in
    let one = first cases (equation (tree a t) falsity_term) path
    (evaluation_adds (question a c) (facts_in (question a c) es) (Same t fal) (k ∷ []) (f ∷ []) (equation (tree a t) falsity_term)
    (stated_same (question a c) t fal is fal_truth ∙ ap (λ (u : Term). Some (equation (tree a t) u)) false_is.is) (one_cited (facts_in (question a c) es) k f number)
    (equals_falsity (is_truth (question a c)) (tree a t) f is refl ordered)) in
    let two = second cases (negation (tree a t)) one.path
    (evaluation_adds (question a c) (facts_in (question a c) mid) (Is t false) (m ∷ []) (equation (tree a t) falsity_term ∷ []) (negation (tree a t))
    (stated_is (question a c) t false is) (one_cited (facts_in (question a c) mid) m (equation (tree a t) falsity_term) one.number)
    (denial_follows (is_truth (question a c)) (tree a t) is refl)) in
    then_derived (question a c) cases es mid new m n (equation (tree a t) falsity_term) (negation (tree a t)) (derived_number (question a c) cases es mid m (equation (tree a t) falsity_term) one) two
