-- What the code gives to terms, where a formula is supposed to be false, agrees with what a step gives that evaluates, and with the values of all terms.
use Rattle.std.proofs.Common.{◌≡◌, Bool, true, false, cond, not, List, refl, sym, ap, subst, ◌∙◌, Option, Some, None, inl, inr, ◌⊎◌}
use mathlib.Core.Path.{ap₂}
use Rattle.spv_logic.specs.Terms.{Term, term_eq}
use Rattle.spv_logic.specs.Formulas.{negation}
use Rattle.spv_logic.proofs.Equality.{term_eq-true}
use Rattle.spv_atoms.specs.Tables.{or_else, not_of, computed}
use Rattle.spv_proof_rules.specs.Sums.{negated}
use Rattle.spv_proof_rules.specs.Evaluation.{sides, apart, given_to, bare}
use Rattle.spv_models.specs.split_trees.Shown.{supposing_false}
use Rattle.spv_assignments.specs.kleene.Given.{IsComputed, AgreeAt, same, computed_by_both, Agree}
use Rattle.spv_assignments.specs.partial_assignment.Values.{told, told_or_apart, value_by, core_value, unless_negation, supposed, AreLiterals, supposed_value}
use Rattle.spv_assignments.proofs.partial_assignment.Told.{negated_is, core_of, core_value_of, by_formula, formula_bare, formula_other, formula_negation, given_is, told_negation, value_none}

-- a way that gives nothing gives what is computed
nothing_given : (is_truth : Term → Bool) (given : Term → Option Bool) (t : Term) → given t ≡ None → IsComputed is_truth given t
nothing_given is_truth given t e = ap (λ o. or_else o (computed is_truth given t)) e

-- a negation that has the opposite of what it negates has what is computed
negation_given : (is_truth : Term → Bool) (given : Term → Option Bool) (w : Term) (b : Bool) → given w ≡ Some b → given (negation w) ≡ Some (not b) → IsComputed is_truth given (negation w)
negation_given is_truth given w b e f =
    ap (λ o. or_else o (computed is_truth given (negation w))) f ∙ sym (ap (λ o. not_of (or_else o (computed is_truth given w))) e)

or_none : (o : Option Bool) → or_else o None ≡ o
or_none None = refl
or_none (Some b) = refl

-- ---- a supposition that may be made: its term has no value, or it is a fact that it has this one
pub data MaySuppose (facts : List Term) (f : Term) : Type 0 where
  open_one : value_by facts (bare f) ≡ None → MaySuppose facts f
  told_one : told facts (bare f) ≡ Some (supposed_value f) → MaySuppose facts f

module _ (facts : List Term) (are : AreLiterals facts) (f : Term) where
  abbrev listed : Term → Option Bool
  listed = supposed facts (bare f) (supposed_value f)

  pub listed_here : (t : Term) → term_eq t (bare f) ≡ true → listed t ≡ Some (supposed_value f)
  listed_here t e = ap (λ b. cond b (Some (supposed_value f)) (core_value facts t)) e

  pub listed_there : (t : Term) → term_eq t (bare f) ≡ false → listed t ≡ core_value facts t
  listed_there t e = ap (λ b. cond b (Some (supposed_value f)) (core_value facts t)) e

  -- ---- a step that evaluates

  pub given_bare : MaySuppose facts f → given_to facts f (bare f) ≡ Some (supposed_value f)
  given_bare (open_one e) =
      given_is facts are f (bare f) ∙ ap₂ (λ x y. or_else (or_else x y) (apart facts (sides (bare f)))) (value_none facts are (bare f) e) (formula_bare f)
  given_bare (told_one e) = given_is facts are f (bare f) ∙ ap (λ x. or_else (or_else x (by_formula f (bare f))) (apart facts (sides (bare f)))) e

  pub given_core : (t : Term) → term_eq t (bare f) ≡ false → negated t ≡ None → given_to facts f t ≡ told_or_apart facts t
  given_core t e n =
      given_is facts are f t ∙ ap (λ x. or_else x (apart facts (sides t))) (ap (or_else (told facts t)) (formula_other f t e n) ∙ or_none (told facts t))

  -- what a step gives to a negation that is not supposed is what it computes
  given_negation : (is_truth : Term → Bool) → MaySuppose facts f → (w : Term) → term_eq (negation w) (bare f) ≡ false → IsComputed is_truth (given_to facts f) (negation w)
  given_negation is_truth may w e = by_told (told_negation facts are w)
    where
      first_of_all : (x y z : Option Bool) (b : Bool) → x ≡ Some b → or_else (or_else x y) z ≡ Some b
      first_of_all x y z b h = ap (λ o. or_else (or_else o y) z) h

      by_given : told facts (negation w) ≡ None → (by_formula f (negation w) ≡ None) ⊎ ((f ≡ negation w) × (by_formula f (negation w) ≡ Some false)) → IsComputed is_truth (given_to facts f) (negation w)
      by_given h (inl k) =
          nothing_given is_truth (given_to facts f) (negation w) (given_is facts are f (negation w) ∙ ap₂ (λ x y. or_else (or_else x y) None) h k)
      by_given h (inr k) =
          negation_given is_truth (given_to facts f) w true
          (sym (ap (given_to facts f) (ap bare k.0)) ∙ (given_bare may ∙ ap (λ x. Some (supposed_value x)) k.0))
          (given_is facts are f (negation w) ∙ ap₂ (λ x y. or_else (or_else x y) None) h k.1)

      by_told : (told facts (negation w) ≡ None) ⊎ ((told facts (negation w) ≡ Some true) × (told facts w ≡ Some false)) → IsComputed is_truth (given_to facts f) (negation w)
      by_told (inl h) = by_given h (formula_negation f w e)
      by_told (inr h) =
          negation_given is_truth (given_to facts f) w false
          (given_is facts are f w ∙ first_of_all (told facts w) (by_formula f w) (apart facts (sides w)) false h.1)
          (given_is facts are f (negation w) ∙ first_of_all (told facts (negation w)) (by_formula f (negation w)) None true h.0)

  listed_negation : (is_truth : Term → Bool) (t w : Term) → negated t ≡ Some w → term_eq t (bare f) ≡ false → IsComputed is_truth listed t
  listed_negation is_truth t w n e = nothing_given is_truth listed t (listed_there t e ∙ ap (λ o. unless_negation o (told_or_apart facts t)) n)

  pub agrees_given : (is_truth : Term → Bool) → MaySuppose facts f → Agree is_truth listed (given_to facts f)
  agrees_given is_truth may t = by_case (term_eq t (bare f)) refl (negated t) refl
    where
      by_case : (b : Bool) → term_eq t (bare f) ≡ b → (o : Option Term) → negated t ≡ o → AgreeAt is_truth listed (given_to facts f) t
      by_case true e o n = same (listed_here t e ∙ sym (ap (given_to facts f) (term_eq-true t (bare f) e) ∙ given_bare may))
      by_case false e None n = same (listed_there t e ∙ (core_value_of facts t n ∙ sym (given_core t e n)))
      by_case false e (Some w) n =
          computed_by_both (listed_negation is_truth t w n e)
          (subst (λ (x : Term). IsComputed is_truth (given_to facts f) x) (sym (negated_is t w n))
          (given_negation is_truth may w (sym (ap (λ x. term_eq x (bare f)) (negated_is t w n)) ∙ e)))

  -- ---- the values of all terms

  abbrev values_with : Term → Option Bool
  values_with = supposing_false (value_by facts) f

  pub with_bare : value_by facts (bare f) ≡ None → values_with (bare f) ≡ Some (supposed_value f)
  with_bare e = ap₂ or_else e (formula_bare f)

  pub with_core : (t : Term) → term_eq t (bare f) ≡ false → negated t ≡ None → values_with t ≡ told_or_apart facts t
  with_core t e n = ap₂ or_else (core_of facts t n) (formula_other f t e n) ∙ or_none (told_or_apart facts t)

  pub with_negation : (is_truth : Term → Bool) → value_by facts (bare f) ≡ None → (w : Term) → term_eq (negation w) (bare f) ≡ false → IsComputed is_truth values_with (negation w)
  with_negation is_truth open_bare w e = by_value (value_by facts w) refl
    where
      by_given : value_by facts w ≡ None → (by_formula f (negation w) ≡ None) ⊎ ((f ≡ negation w) × (by_formula f (negation w) ≡ Some false)) → IsComputed is_truth values_with (negation w)
      by_given h (inl k) = nothing_given is_truth values_with (negation w) (ap₂ or_else (ap not_of h) k)
      by_given h (inr k) =
          negation_given is_truth values_with w true
          (sym (ap values_with (ap bare k.0)) ∙ (with_bare open_bare ∙ ap (λ x. Some (supposed_value x)) k.0))
          (ap₂ or_else (ap not_of h) k.1)

      by_value : (o : Option Bool) → value_by facts w ≡ o → IsComputed is_truth values_with (negation w)
      by_value None h = by_given h (formula_negation f w e)
      by_value (Some b) h =
          negation_given is_truth values_with w b (ap (λ o. or_else o (by_formula f w)) h) (ap (λ o. or_else (not_of o) (by_formula f (negation w))) h)

  pub agrees_with : (is_truth : Term → Bool) → value_by facts (bare f) ≡ None → Agree is_truth listed values_with
  agrees_with is_truth open_bare t = by_case (term_eq t (bare f)) refl (negated t) refl
    where
      by_case : (b : Bool) → term_eq t (bare f) ≡ b → (o : Option Term) → negated t ≡ o → AgreeAt is_truth listed values_with t
      by_case true e o n = same (listed_here t e ∙ sym (ap values_with (term_eq-true t (bare f) e) ∙ with_bare open_bare))
      by_case false e None n = same (listed_there t e ∙ (core_value_of facts t n ∙ sym (with_core t e n)))
      by_case false e (Some w) n =
          computed_by_both (listed_negation is_truth t w n e)
          (subst (λ (x : Term). IsComputed is_truth values_with x) (sym (negated_is t w n))
          (with_negation is_truth open_bare w (sym (ap (λ x. term_eq x (bare f)) (negated_is t w n)) ∙ e)))

-- ---- nothing is supposed

module _ (facts : List Term) where
  pub value_negation : (is_truth : Term → Bool) (w : Term) → IsComputed is_truth (value_by facts) (negation w)
  value_negation is_truth w = by_value (value_by facts w) refl
    where
      by_value : (o : Option Bool) → value_by facts w ≡ o → IsComputed is_truth (value_by facts) (negation w)
      by_value None h = nothing_given is_truth (value_by facts) (negation w) (ap not_of h)
      by_value (Some b) h = negation_given is_truth (value_by facts) w b h (ap not_of h)

  pub agrees_plainly : (is_truth : Term → Bool) → Agree is_truth (core_value facts) (value_by facts)
  agrees_plainly is_truth t = by_case (negated t) refl
    where
      by_case : (o : Option Term) → negated t ≡ o → AgreeAt is_truth (core_value facts) (value_by facts) t
      by_case None n = same (core_value_of facts t n ∙ sym (core_of facts t n))
      by_case (Some w) n =
          computed_by_both (nothing_given is_truth (core_value facts) t (ap (λ o. unless_negation o (told_or_apart facts t)) n))
          (subst (λ (x : Term). IsComputed is_truth (value_by facts) x) (sym (negated_is t w n)) (value_negation is_truth w))
