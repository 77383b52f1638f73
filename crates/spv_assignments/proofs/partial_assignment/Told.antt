-- What facts give to a term, by the list of values of a step that evaluates.
use Rattle.std.proofs.Common.{◌≡◌, ℕ, suc, ◌+◌, Bool, true, false, cond, ◌&&◌, ◌||◌, not, List, [], ◌∷◌, ◌++◌, refl, sym, ap, ◌∙◌, Option, Some, None, inl, inr, ◌⊎◌, arith}
use mathlib.Core.Path.{ap₂}
use Rattle.std.specs.List.{flat_map}
use Rattle.std.proofs.lemmas.Bool.{false≢true}
use Rattle.std.proofs.Math.Bool.{and-true}
use Rattle.spv_logic.specs.declared.operators.Head.TheVariants.{Not}
use Rattle.spv_logic.specs.Terms.{Term, Terms, term, no_terms, terms, term_eq}
use Rattle.spv_logic.specs.Formulas.{negation}
use Rattle.spv_logic.proofs.Equality.{term_eq-true, term_eq-refl}
use Rattle.spv_atoms.specs.Tables.{assigned, or_else, not_of}
use Rattle.spv_proof_rules.specs.Sums.{negated}
use Rattle.spv_proof_rules.specs.Evaluation.{sides, given_by, cites, apart, given_to, bare}
use Rattle.spv_assignments.specs.partial_assignment.Values.{told, told_or_apart, value_by, core_value, unless_negation, AreLiterals, supposed_value}

-- ---- tests of terms

pub term_eq_sym : (s t : Term) → term_eq s t ≡ term_eq t s
term_eq_sym s t = by_case (term_eq s t) refl (term_eq t s) refl
  where
    by_case : (b : Bool) → term_eq s t ≡ b → (c : Bool) → term_eq t s ≡ c → b ≡ c
    by_case true e true f = refl
    by_case false e false f = refl
    by_case true e false f = absurd (false≢true (sym f ∙ (ap (term_eq t) (term_eq-true s t e) ∙ term_eq-refl t)))
    by_case false e true f = absurd (false≢true (sym e ∙ (ap (term_eq s) (term_eq-true t s f) ∙ term_eq-refl s)))

abbrev mutual
  size : Term → ℕ
  size (term h ts) = suc (sizes ts)

  sizes : Terms → ℕ
  sizes no_terms = 0
  sizes (terms t ts) = size t + sizes ts

-- a term is not its negation
pub not_itself : (t : Term) → term_eq (negation t) t ≡ false
not_itself t = by_case (term_eq (negation t) t) refl
  where
    by_case : (b : Bool) → term_eq (negation t) t ≡ b → b ≡ false
    by_case false e = refl
    by_case true e = absurd (omega (arith, ap size (term_eq-true (negation t) t e)))

pub negated_is : (f w : Term) → negated f ≡ Some w → f ≡ negation w
negated_is (term Not (terms t no_terms)) w e = let same : t ≡ w = cc in ap negation same
negated_is _ w e = absurd cc

pub core_of : (facts : List Term) (t : Term) → negated t ≡ None → value_by facts t ≡ told_or_apart facts t
core_of facts (term Not (terms t no_terms)) e = absurd cc
core_of facts t e = refl

pub core_value_of : (facts : List Term) (t : Term) → negated t ≡ None → core_value facts t ≡ told_or_apart facts t
core_value_of facts t e = ap (λ o. unless_negation o (told_or_apart facts t)) e

-- ---- values of a list

pub assigned_append : (xs ys : List (Term × Bool)) (t : Term) → assigned (xs ++ ys) t ≡ or_else (assigned xs t) (assigned ys t)
assigned_append [] ys t = refl
assigned_append (x ∷ xs) ys t = by_case (term_eq x.0 t) (assigned_append xs ys t)
  where
    by_case : (b : Bool) → assigned (xs ++ ys) t ≡ or_else (assigned xs t) (assigned ys t) → cond b (Some x.1) (assigned (xs ++ ys) t) ≡ or_else (cond b (Some x.1) (assigned xs t)) (assigned ys t)
    by_case true e = refl
    by_case false e = e

-- what a fact gives: its own truth, and to what it negates the opposite one
abbrev by_fact : Bool → Bool → Bool → Option Bool → Option Bool
by_fact value same negates others = cond same (Some value) (cond negates (Some (not value)) others)

negates_same : (w t : Term) → term_eq (negation w) (negation t) ≡ term_eq w t
negates_same w t = and-true (term_eq w t)

given_step : (value : Bool) (f t : Term) (others : List (Term × Bool)) → assigned (given_by value f ++ others) t ≡ by_fact value (term_eq f t) (term_eq f (negation t)) (assigned others t)
given_step value (term Not (terms w no_terms)) t others = ap (λ b. by_fact value (term_eq (negation w) t) b (assigned others t)) (sym (negates_same w t))
given_step value (term Not (terms w (terms x xs))) t others = ap (λ b. by_fact value (term_eq (term Not (terms w (terms x xs))) t) b (assigned others t)) (sym (and_false (term_eq w t)))
  where
    and_false : (b : Bool) → (b && false) ≡ false
    and_false true = refl
    and_false false = refl
given_step value f t others = refl

-- one fact more: two ways to choose agree
choose : (b c d e : Bool) (o : Option Bool) → ((b || d) ≡ true → (c || e) ≡ true → ⊥) → ((d ≡ true → e ≡ true → ⊥) → o ≡ cond d (Some true) (cond e (Some false) None))
    → by_fact true b c o ≡ cond (b || d) (Some true) (cond (c || e) (Some false) None)
choose true c d e o apart rest = refl
choose false true false e o apart rest = refl
choose false true true e o apart rest = absurd (apart refl refl)
choose false false d e o apart rest = rest (λ p q. apart p q)

pub assigned_told : (facts : List Term) (t : Term) → (cites facts t ≡ true → cites facts (negation t) ≡ true → ⊥) → assigned (flat_map (given_by true) facts) t ≡ told facts t
assigned_told [] t apart = refl
assigned_told (f ∷ facts) t apart =
    given_step true f t (flat_map (given_by true) facts)
    ∙ (ap₂ (λ b c. by_fact true b c (assigned (flat_map (given_by true) facts) t)) (term_eq_sym f t) (term_eq_sym f (negation t))
    ∙ choose (term_eq t f) (term_eq (negation t) f) (cites facts t) (cites facts (negation t)) (assigned (flat_map (given_by true) facts) t) apart (λ h. assigned_told facts t h))

-- ---- what a formula gives that is supposed to be false

abbrev pub by_formula : Term → Term → Option Bool
by_formula f t = assigned (given_by false f) t

pub formula_bare : (f : Term) → by_formula f (bare f) ≡ Some (supposed_value f)
formula_bare (term Not (terms w no_terms)) =
    ap₂ (λ b c. cond b (Some false) (cond c (Some true) None)) (not_itself w) (term_eq-refl w)
formula_bare f = ap (λ b. cond b (Some false) None) (term_eq-refl f)

-- to other terms it gives nothing, but to itself, where it is a negation
pub formula_other : (f t : Term) → term_eq t (bare f) ≡ false → negated t ≡ None → by_formula f t ≡ None
formula_other (term Not (terms w no_terms)) t e n = by_case (term_eq (negation w) t) refl
  where
    by_case : (b : Bool) → term_eq (negation w) t ≡ b → cond b (Some false) (cond (term_eq w t) (Some true) None) ≡ None
    by_case true h = absurd (none_some (ap negated (term_eq-true (negation w) t h) ∙ n))
      where
        none_some : Some w ≡ None → ⊥
        none_some h = cc
    by_case false h = ap (λ c. cond c (Some true) None) (term_eq_sym w t ∙ e)
formula_other f t e n = ap (λ b. cond b (Some false) None) (term_eq_sym f t ∙ e)

-- to a negation that is not what it supposes: nothing, or it is itself this negation, and false
pub formula_negation : (f w : Term) → term_eq (negation w) (bare f) ≡ false → (by_formula f (negation w) ≡ None) ⊎ ((f ≡ negation w) × (by_formula f (negation w) ≡ Some false))
formula_negation (term Not (terms u no_terms)) w e = by_case (term_eq (negation u) (negation w)) refl
  where
    by_case : (b : Bool) → term_eq (negation u) (negation w) ≡ b
        → (by_formula (negation u) (negation w) ≡ None) ⊎ ((negation u ≡ negation w) × (by_formula (negation u) (negation w) ≡ Some false))
    by_case true h = inr (term_eq-true (negation u) (negation w) h, ap (λ b. cond b (Some false) (cond (term_eq u (negation w)) (Some true) None)) h)
    by_case false h = inl (ap₂ (λ b c. cond b (Some false) (cond c (Some true) None)) h (term_eq_sym u (negation w) ∙ e))
formula_negation f w e = inl (ap (λ b. cond b (Some false) None) (term_eq_sym f (negation w) ∙ e))

-- ---- what literals give

module _ (facts : List Term) (are : AreLiterals facts) where
  pub assigned_is : (t : Term) → assigned (flat_map (given_by true) facts) t ≡ told facts t
  assigned_is t = assigned_told facts t (are.agree t)

  pub given_is : (f t : Term) → given_to facts f t ≡ or_else (or_else (told facts t) (by_formula f t)) (apart facts (sides t))
  given_is f t =
      ap (λ o. or_else o (apart facts (sides t))) (assigned_append (flat_map (given_by true) facts) (given_by false f) t ∙ ap (λ o. or_else o (by_formula f t)) (assigned_is t))

  pub told_true : (t : Term) → cites facts t ≡ true → told facts t ≡ Some true
  told_true t e = ap (λ b. cond b (Some true) (cond (cites facts (negation t)) (Some false) None)) e

  pub told_false : (t : Term) → cites facts (negation t) ≡ true → told facts t ≡ Some false
  told_false t e = by_case (cites facts t) refl
    where
      by_case : (b : Bool) → cites facts t ≡ b → cond b (Some true) (cond (cites facts (negation t)) (Some false) None) ≡ Some false
      by_case true h = absurd (are.agree t h e)
      by_case false h = ap (λ c. cond c (Some false) None) e

  -- a negation that is a fact makes what it negates false; it is no fact that one is false
  pub told_negation : (w : Term) → (told facts (negation w) ≡ None) ⊎ ((told facts (negation w) ≡ Some true) × (told facts w ≡ Some false))
  told_negation w = by_case (cites facts (negation w)) refl (cites facts (negation (negation w))) refl
    where
      none_some : (o : Option Term) → o ≡ None → o ≡ Some w → ⊥
      none_some o e f = cc

      by_case : (b : Bool) → cites facts (negation w) ≡ b → (c : Bool) → cites facts (negation (negation w)) ≡ c → (told facts (negation w) ≡ None) ⊎ ((told facts (negation w) ≡ Some true) × (told facts w ≡ Some false))
      by_case true e c f = inr (told_true (negation w) e, told_false w e)
      by_case false e true f = absurd (none_some (negated (negation w)) (are.bare_terms (negation (negation w)) f) refl)
      by_case false e false f = inl (ap₂ (λ b c. cond b (Some true) (cond c (Some false) None)) e f)

  pub value_none : (t : Term) → value_by facts t ≡ None → told facts t ≡ None
  value_none t e = by_negated (negated t) refl
    where
      first_none : (x y : Option Bool) → or_else x y ≡ None → x ≡ None
      first_none None y h = refl
      first_none (Some b) y h = absurd cc

      some_none : (o : Option Bool) (b : Bool) → o ≡ None → o ≡ Some b → ⊥
      some_none o b h k = cc

      not_none : (o : Option Bool) → not_of o ≡ None → o ≡ None
      not_none None h = refl
      not_none (Some b) h = absurd cc

      value_false : (w : Term) → told facts w ≡ Some false → negated w ≡ None → value_by facts w ≡ Some false
      value_false w h n = core_of facts w n ∙ ap (λ o. or_else o (apart facts (sides w))) h

      at_negation : (w : Term) → t ≡ negation w → (told facts (negation w) ≡ None) ⊎ ((told facts (negation w) ≡ Some true) × (told facts w ≡ Some false)) → told facts t ≡ None
      at_negation w is (inl h) = ap (told facts) is ∙ h
      at_negation w is (inr h) =
          let n : negated w ≡ None = core_below w h.0 in
          absurd (some_none (value_by facts w) false (not_none (value_by facts w) (sym (ap (value_by facts) is) ∙ e)) (value_false w h.1 n))
        where
          from_told : (b c : Bool) → cond b (Some true) (cond c (Some false) None) ≡ Some true → b ≡ true
          from_told true c g = refl
          from_told false true g = absurd (false≢true (some_same g))
            where
              some_same : Some false ≡ Some true → false ≡ true
              some_same k = cc
          from_told false false g = absurd cc

          core_below : (x : Term) → told facts (negation x) ≡ Some true → negated x ≡ None
          core_below x g = are.bare_terms (negation x) (from_told (cites facts (negation x)) (cites facts (negation (negation x))) g)

      by_negated : (o : Option Term) → negated t ≡ o → told facts t ≡ None
      by_negated None n = first_none (told facts t) (apart facts (sides t)) (sym (core_of facts t n) ∙ e)
      by_negated (Some w) n = at_negation w (negated_is t w n) (told_negation w)

-- each fact is true
pub facts_are_true : (facts : List Term) → AreLiterals facts → (t : Term) → cites facts t ≡ true → value_by facts t ≡ Some true
facts_are_true facts are t e = by_negated (negated t) refl
  where
    core_true : (u : Term) (b : Bool) → negated u ≡ None → told facts u ≡ Some b → value_by facts u ≡ Some b
    core_true u b n h = core_of facts u n ∙ ap (λ o. or_else o (apart facts (sides u))) h

    bare_negation : (w : Term) → t ≡ negation w → negated w ≡ None
    bare_negation w is = sym (ap (λ x. negated (bare x)) is) ∙ are.bare_terms t e

    by_negated : (o : Option Term) → negated t ≡ o → value_by facts t ≡ Some true
    by_negated None n = core_true t true n (told_true facts are t e)
    by_negated (Some w) n =
        let is = negated_is t w n in
        ap (value_by facts) is ∙ ap not_of (core_true w false (bare_negation w is) (told_false facts are w (sym (ap (cites facts) is) ∙ e)))
