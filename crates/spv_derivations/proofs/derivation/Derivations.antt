-- What each derived entry adds.
use Rattle.std.proofs.Common.{◌≡◌, ℕ, true, false, ◌&&◌, List, [], ◌∷◌, ◌++◌, length, Some, None, if◌then◌else◌, refl, sym, ap, ◌∙◌, inl, inr, ◌⊎◌}
use Rattle.spv_whole.specs.Fraction.{Fraction}
use Rattle.spv_logic.specs.declared.conditions.TermId.{TermId}
use Rattle.spv_logic.specs.declared.operators.Head.TheVariants as head
use Rattle.spv_logic.specs.Terms.{Term, term, no_terms}
use Rattle.spv_logic.specs.Formulas.{negation, equation, below}
use Rattle.spv_logic.specs.Conditions.{Sequent}
use Rattle.spv_logic.proofs.Equality.{term_eq-refl}
use Rattle.spv_term.specs.Arena.{Arena, tree}
use Rattle.spv_atoms.specs.declared.proofs.Relation.{Relation}
use Rattle.spv_atoms.specs.declared.proofs.Relation.TheVariants.{AtMost, Equal}
use Rattle.spv_atoms.specs.declared.proofs.Stated.{Stated}
use Rattle.spv_atoms.specs.declared.proofs.Stated.TheVariants.{Is, Same}
use Rattle.spv_atoms.specs.declared.proofs.Step.TheVariants as step
use Rattle.spv_proof_rules.specs.Evaluation.{evaluates}
use Rattle.spv_proof_rules.specs.Effects.{adds_if, at_most, cited, evaluated, exchanged, fact_before, is_empty, joined, numbered, sides_of, stated}
use Rattle.spv_proof_rules.specs.Effects as spec
use Rattle.spv_proof_rules.specs.Stand.{In}
use Rattle.spv_derivations.specs.declared.derivation.entries.Part.{Part}
use Rattle.spv_derivations.specs.declared.derivation.entries.Entry.{Entry}
use Rattle.spv_derivations.specs.declared.derivation.entries.Entry.TheVariants.{Told}
use Rattle.spv_derivations.specs.derivation.Derivation.{Adding, Gains, IsDerivation, PartFits, any_sequent, asked, fact_at, facts, literal}
use Rattle.spv_derivations.specs.derivation.Derived.{AreNumbers, IsApart, IsCongruence, IsEvaluation, IsFalseTerm, IsFormula, IsSum, IsTrueTerm, IsTruthClash, Shows, is_truth, relation_of}
use Rattle.spv_derivations.proofs.derivation.Growth.{gains-push}
use Rattle.spv_derivations.proofs.derivation.Values.{equals_true, equals_false, lower_is_false, upper_is_false, denial_follows, clash_follows, turned_clash_follows}

module _ (a : Arena) where
  module _ (before : List Term) where
    pub adding-reflexive : (t : TermId) → In a t → Adding a before (step.Refl t) (equation (tree a t) (tree a t))
    adding-reflexive t h = record { terms = h; adds = λ c. refl }

    pub adding-symmetric : (k : ℕ) (s t : Term) → numbered before k ≡ Some (equation s t) → Adding a before (step.Symm k) (equation t s)
    adding-symmetric k s t e = record { terms = tt; adds = λ c. ap (λ o. exchanged (sides_of o)) e }

    pub adding-transitive : (j k : ℕ) (s t u : Term) → numbered before j ≡ Some (equation s t) → numbered before k ≡ Some (equation t u) → Adding a before (step.Trans j k) (equation s u)
    adding-transitive j k s t u e f = record {
      terms = tt;
      adds = λ c. (λ i. joined (sides_of (e i)) (sides_of (f i))) ∙ ap (λ b. adds_if b (equation s u)) (term_eq-refl t);
    }

  module _ (es : List Entry) where
    pub adding-congruent : (t u : TermId) (ks : List ℕ) → IsCongruence a es t u ks → Adding a (facts a es) (step.Cong t u ks) (equation (tree a t) (tree a u))
    adding-congruent t u ks h = record { terms = (h.left, h.right); adds = λ c. ap (λ b. adds_if b (equation (tree a t) (tree a u))) h.shown }

    sum-adds : (c : Sequent) (r : Relation) (first second : List (Fraction × ℕ)) → AreNumbers a r → Shows a es r first second
        → spec.linear (asked a c) (facts a es) r first second ≡ spec.Adds (relation_of a r)
    sum-adds c (AtMost s t) first second n h =
        let e : is_empty second ≡ true = ap is_empty h.0 in
        λ i. adds_if (n.0 i && (n.1 i && (e i && h.1 i))) (at_most (tree a s) (tree a t))
    sum-adds c (Equal s t) first second n h = λ i. adds_if (n.0 i && (n.1 i && (h.0 i && h.1 i))) (equation (tree a s) (tree a t))

    pub adding-linear : (r : Relation) (first second : List (Fraction × ℕ)) → IsSum a es r first second → Adding a (facts a es) (step.Linear r first second) (relation_of a r)
    adding-linear r first second h = record { terms = h.terms; adds = λ c. sum-adds c r first second h.numbers h.shown }

    stated-any : (c : Sequent) (claim : Stated) → stated (asked a c) claim ≡ stated (asked a any_sequent) claim
    stated-any c (Is t true) = refl
    stated-any c (Is t false) = refl
    stated-any c (Same s t) = refl

    pub adding-evaluated : (claim : Stated) (ks : List ℕ) (t : Term) → IsEvaluation a es claim ks t → Adding a (facts a es) (step.Eval claim ks) t
    adding-evaluated claim ks t h = record {
      terms = h.terms;
      adds = λ c. (λ i. evaluated (is_truth a) ((stated-any c claim ∙ h.formula) i) (h.are i)) ∙ ap (λ b. adds_if b t) h.shown;
    }

  -- ---- evaluations by one fact

  is_truth-true : is_truth a (term head.True no_terms) ≡ true
  is_truth-true = refl

  is_truth-false : is_truth a (term head.False no_terms) ≡ true
  is_truth-false = refl

  cited-one : (es : List Entry) (k : ℕ) (t : Term) → fact_at a es k ≡ Some t → cited (facts a es) (k ∷ []) ≡ Some (t ∷ [])
  cited-one es k t e = ap (λ o. fact_before o (Some [])) e

  stated-same : (p t : TermId) (y : Term) → is_truth a (tree a p) ≡ true → tree a t ≡ y → is_truth a y ≡ true → stated (asked a any_sequent) (Same p t) ≡ Some (equation (tree a p) y)
  stated-same p t y h is k =
      (λ i. if is_truth a (tree a p) && is_truth a (is i) then Some (equation (tree a p) (is i)) else None)
      ∙ (λ i. if h i && k i then Some (equation (tree a p) y) else None)

  module _ (es : List Entry) where
    pub evaluation-true : (p t : TermId) (k : ℕ) → IsFormula a p → IsTrueTerm a t → fact_at a es k ≡ Some (tree a p)
        → IsEvaluation a es (Same p t) (k ∷ []) (equation (tree a p) (term head.True no_terms))
    evaluation-true p t k f h e = record {
      terms = (f.within, h.within);
      formula = stated-same p t (term head.True no_terms) f.truth h.is is_truth-true;
      given = tree a p ∷ [];
      are = cited-one es k (tree a p) e;
      shown = equals_true (is_truth a) (tree a p) f.truth is_truth-true;
    }

    pub evaluation-false : (p t : TermId) (k : ℕ) → IsFormula a p → IsFalseTerm a t → fact_at a es k ≡ Some (negation (tree a p))
        → IsEvaluation a es (Same p t) (k ∷ []) (equation (tree a p) (term head.False no_terms))
    evaluation-false p t k f h e = record {
      terms = (f.within, h.within);
      formula = stated-same p t (term head.False no_terms) f.truth h.is is_truth-false;
      given = negation (tree a p) ∷ [];
      are = cited-one es k (negation (tree a p)) e;
      shown = equals_false (is_truth a) (tree a p) f.truth is_truth-false;
    }

    evaluation-order : (p t : TermId) (k : ℕ) (x : Term) → IsFormula a p → IsFalseTerm a t → fact_at a es k ≡ Some x → evaluates (is_truth a) (x ∷ []) (equation (tree a p) (term head.False no_terms)) ≡ true
        → IsEvaluation a es (Same p t) (k ∷ []) (equation (tree a p) (term head.False no_terms))
    evaluation-order p t k x f h e shown = record {
      terms = (f.within, h.within);
      formula = stated-same p t (term head.False no_terms) f.truth h.is is_truth-false;
      given = x ∷ [];
      are = cited-one es k x e;
      shown = shown;
    }

    pub evaluation-apart : (p t : TermId) (k : ℕ) → IsApart a es p k → IsFalseTerm a t
        → IsEvaluation a es (Same p t) (k ∷ []) (equation (tree a p) (term head.False no_terms))
    evaluation-apart p t k h f = by h.order
      where
        truth : is_truth a (equation h.left h.right) ≡ true
        truth = ap (is_truth a) (sym h.is) ∙ h.formula.truth

        carried : (x : Term) → evaluates (is_truth a) (x ∷ []) (equation (equation h.left h.right) (term head.False no_terms)) ≡ true
            → evaluates (is_truth a) (x ∷ []) (equation (tree a p) (term head.False no_terms)) ≡ true
        carried x e = ap (λ y. evaluates (is_truth a) (x ∷ []) (equation y (term head.False no_terms))) h.is ∙ e

        by : (fact_at a es k ≡ Some (below h.left h.right)) ⊎ (fact_at a es k ≡ Some (below h.right h.left))
            → IsEvaluation a es (Same p t) (k ∷ []) (equation (tree a p) (term head.False no_terms))
        by (inl e) = evaluation-order p t k (below h.left h.right) h.formula f e (carried (below h.left h.right) (lower_is_false (is_truth a) h.left h.right truth is_truth-false))
        by (inr e) = evaluation-order p t k (below h.right h.left) h.formula f e (carried (below h.right h.left) (upper_is_false (is_truth a) h.left h.right truth is_truth-false))

    pub evaluation-denied : (p : TermId) (k : ℕ) → IsFormula a p → fact_at a es k ≡ Some (equation (tree a p) (term head.False no_terms))
        → IsEvaluation a es (Is p false) (k ∷ []) (negation (tree a p))
    evaluation-denied p k f e = record {
      terms = f.within;
      formula = ap (λ b. if b then Some (negation (tree a p)) else None) f.truth;
      given = equation (tree a p) (term head.False no_terms) ∷ [];
      are = cited-one es k (equation (tree a p) (term head.False no_terms)) e;
      shown = denial_follows (is_truth a) (tree a p) f.truth is_truth-false;
    }

    evaluation-clash : (t : TermId) (k : ℕ) (x : Term) → IsFalseTerm a t → fact_at a es k ≡ Some x → evaluates (is_truth a) (x ∷ []) (term head.False no_terms) ≡ true
        → IsEvaluation a es (Is t true) (k ∷ []) (term head.False no_terms)
    evaluation-clash t k x f e shown = record {
      terms = f.within;
      formula = λ i. if is_truth a (f.is i) then Some (f.is i) else None;
      given = x ∷ [];
      are = cited-one es k x e;
      shown = shown;
    }

    pub evaluation-falsity : (t : TermId) (k : ℕ) → IsFalseTerm a t → IsTruthClash a es k → IsEvaluation a es (Is t true) (k ∷ []) (term head.False no_terms)
    evaluation-falsity t k f h = by h.is
      where
        by : (fact_at a es k ≡ Some (equation (term head.True no_terms) (term head.False no_terms))) ⊎ (fact_at a es k ≡ Some (equation (term head.False no_terms) (term head.True no_terms)))
            → IsEvaluation a es (Is t true) (k ∷ []) (term head.False no_terms)
        by (inl e) = evaluation-clash t k (equation (term head.True no_terms) (term head.False no_terms)) f e (clash_follows (is_truth a) is_truth-true is_truth-false)
        by (inr e) = evaluation-clash t k (equation (term head.False no_terms) (term head.True no_terms)) f e (turned_clash_follows (is_truth a) is_truth-true is_truth-false)

  -- ---- entries

  pub gains-told : (old new : List Entry) (t : TermId) (part : Part) (why n : ℕ) → new ≡ old ++ Told t part why ∷ [] → n ≡ length new → IsDerivation a old → In a t → PartFits a t part
      → Gains a old new n (literal (tree a t) part)
  gains-told old new t part why n is at f h p = gains-push a old new (Told t part why) n (literal (tree a t) part) is at f (h, p) refl
