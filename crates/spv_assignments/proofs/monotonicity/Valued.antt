-- Why terms have the values that facts give.
use Rattle.std.proofs.Common.{◌≡◌, ℕ, zero, suc, Bool, true, false, cond, ◌||◌, not, List, refl, sym, ap, ◌∙◌, Option, Some, None, inl, inr, ◌⊎◌}
use mathlib.Core.Path.{ap₂}
use Rattle.std.specs.Prelude.{is_some}
use Rattle.std.proofs.lemmas.Bool.{false≢true}
use Rattle.std.proofs.lemmas.Option.{same_Some}
use Rattle.spv_logic.specs.declared.operators.Head.TheVariants.{Not, Eq}
use Rattle.spv_logic.specs.Terms.{Term, term, no_terms, terms}
use Rattle.spv_logic.specs.Formulas.{negation, equation, below}
use Rattle.spv_term.specs.Arena.{tree}
use Rattle.spv_atoms.specs.Tables.{or_else, not_of}
use Rattle.spv_proof_rules.specs.Sums.{negated}
use Rattle.spv_proof_rules.specs.Evaluation.{sides, cites, apart}
use Rattle.spv_tableau_rules.specs.constraints.Sayings.{literal}
use Rattle.spv_assignments.specs.polarity.Cores.{denials, is_even}
use Rattle.spv_assignments.proofs.polarity.Parities.{twice_not}
use Rattle.spv_assignments.specs.partial_assignment.Values.{told, told_or_apart, value_by, AreLiterals, AreUncrossed}
use Rattle.spv_assignments.proofs.partial_assignment.Told.{core_of, facts_are_true}
use Rattle.spv_assignments.proofs.partial_assignment.Clashing.{told_cites}
use Rattle.spv_assignments.specs.monotonicity.Laws.{ValuesGrow, ValuesOfCores, LiteralsGiveValues, ValuesGiveLiterals, ValuesHaveReasons, CitedHaveValues, OrdersMakeFalse}
use Rattle.spv_assignments.proofs.monotonicity.Citing.{or_true}

-- ---- negations

not_twice : (o : Option Bool) → not_of (not_of o) ≡ o
not_twice None = refl
not_twice (Some b) = ap Some (twice_not b)

opposite_of : (o : Option Bool) (b : Bool) → not_of o ≡ Some b → o ≡ Some (not b)
opposite_of o b e = sym (not_twice o) ∙ ap not_of e

pub literals_give_values : LiteralsGiveValues
literals_give_values facts t true e = e
literals_give_values facts t false e = opposite_of (value_by facts t) true e

pub values_give_literals : ValuesGiveLiterals
values_give_literals facts t true e = e
values_give_literals facts t false e = ap not_of e

-- the value of a term under so many negations
pub value_under : (facts : List Term) (k : ℕ) (u : Term) → value_by facts (denials k u) ≡ cond (is_even k) (value_by facts u) (not_of (value_by facts u))
value_under facts zero u = refl
value_under facts (suc k) u = ap not_of (value_under facts k u) ∙ turn (is_even k) (value_by facts u)
  where
    turn : (b : Bool) (o : Option Bool) → not_of (cond b o (not_of o)) ≡ cond (not b) o (not_of o)
    turn true o = refl
    turn false o = not_twice o

pub values_of_cores : ValuesOfCores
values_of_cores a t u even core facts =
    ap (value_by facts) core.under
    ∙ (value_under facts core.count (tree a u) ∙ ap (λ b. cond b (value_by facts (tree a u)) (not_of (value_by facts (tree a u)))) (sym core.parity))

-- ---- reasons

none_some : (b : Bool) → None ≡ Some b → ⊥
none_some b e = cc

-- where an order gives a value, it is false
apart_false : (facts : List Term) (o : Option (Term × Term)) (b : Bool) → apart facts o ≡ Some b → b ≡ false
apart_false facts None b e = absurd (none_some b e)
apart_false facts (Some st) b e = by_case (cites facts (below st.0 st.1) || cites facts (below st.1 st.0)) e
  where
    by_case : (c : Bool) → cond c (Some false) None ≡ Some b → b ≡ false
    by_case true h = sym (same_Some false b h)
    by_case false h = absurd (none_some b h)

pub values_have_reasons : ValuesHaveReasons
values_have_reasons facts u core b e = by_told (told facts u) refl (sym (core_of facts u core) ∙ e)
  where
    by_told : (o : Option Bool) → told facts u ≡ o → told_or_apart facts u ≡ Some b → (cites facts (literal b u) ≡ true) ⊎ ((b ≡ false) × (is_some (apart facts (sides u)) ≡ true))
    by_told (Some c) h k = inl (told_cites facts u b (h ∙ (sym (ap (λ o. or_else o (apart facts (sides u))) h) ∙ k)))
    by_told None h k =
        let is : apart facts (sides u) ≡ Some b = sym (ap (λ o. or_else o (apart facts (sides u))) h) ∙ k in
        inr (apart_false facts (sides u) b is, ap is_some is)

pub cited_have_values : CitedHaveValues
cited_have_values facts are t b e = literals_give_values facts t b (facts_are_true facts are (literal b t) e)

-- ---- orders

-- an equation that is no fact is false where facts give an order of its sides
ordered_false : (facts : List Term) (x y : Term) → (cites facts (equation x y) ≡ true → ⊥) → (cites facts (below x y) || cites facts (below y x)) ≡ true → value_by facts (equation x y) ≡ Some false
ordered_false facts x y unsaid ordered = by_case (cites facts (equation x y)) refl (cites facts (negation (equation x y))) refl
  where
    by_case : (c : Bool) → cites facts (equation x y) ≡ c → (d : Bool) → cites facts (negation (equation x y)) ≡ d → value_by facts (equation x y) ≡ Some false
    by_case true h d k = absurd (unsaid h)
    by_case false h true k = ap₂ (λ p q. or_else (cond p (Some true) (cond q (Some false) None)) (apart facts (sides (equation x y)))) h k
    by_case false h false k =
        ap₂ (λ p q. or_else (cond p (Some true) (cond q (Some false) None)) (apart facts (sides (equation x y)))) h k ∙ ap (λ c. cond c (Some false) None) ordered

pub orders_make_false : OrdersMakeFalse
orders_make_false facts uncrossed s t e = (
  ordered_false facts s t (λ h. uncrossed.lower s t h e) (ap (λ b. b || cites facts (below t s)) e),
  ordered_false facts t s (λ h. uncrossed.upper t s h e) (ap (λ b. cites facts (below t s) || b) e ∙ or_true (cites facts (below t s))),
)

abbrev two : Term → Term → Term × Term
two s t = (s, t)

sides_are : (t : Term) (st : Term × Term) → sides t ≡ Some st → t ≡ equation st.0 st.1
sides_are (term Eq (terms s (terms u no_terms))) st e = ap (λ (p : Term × Term). equation p.0 p.1) (same_Some (two s u) st e)
sides_are _ st e = absurd cc

-- facts that give an order give it in one of two directions
ordered : (facts : List Term) (st : Term × Term) → is_some (apart facts (Some st)) ≡ true → (cites facts (below st.0 st.1) ≡ true) ⊎ (cites facts (below st.1 st.0) ≡ true)
ordered facts st e = by_case (cites facts (below st.0 st.1)) refl (cites facts (below st.1 st.0)) refl e
  where
    by_case : (c : Bool) → cites facts (below st.0 st.1) ≡ c → (d : Bool) → cites facts (below st.1 st.0) ≡ d → is_some (cond (c || d) (Some false) None) ≡ true
        → (cites facts (below st.0 st.1) ≡ true) ⊎ (cites facts (below st.1 st.0) ≡ true)
    by_case true h d k g = inl h
    by_case false h true k g = inr k
    by_case false h false k g = absurd (false≢true g)

-- ---- more facts

module _ (few more : List Term) (grown : (t : Term) → cites few t ≡ true → cites more t ≡ true) (are : AreLiterals more) (uncrossed : AreUncrossed more) where
  order_grows : (st : Term × Term) → (cites few (below st.0 st.1) ≡ true) ⊎ (cites few (below st.1 st.0) ≡ true) → value_by more (equation st.0 st.1) ≡ Some false
  order_grows st (inl h) = (orders_make_false more uncrossed st.0 st.1 (grown (below st.0 st.1) h)).0
  order_grows st (inr h) = (orders_make_false more uncrossed st.1 st.0 (grown (below st.1 st.0) h)).1

  apart_grows : (t : Term) (o : Option (Term × Term)) → sides t ≡ o → is_some (apart few o) ≡ true → value_by more t ≡ Some false
  apart_grows t None s h = absurd (false≢true h)
  apart_grows t (Some st) s h = ap (value_by more) (sides_are t st s) ∙ order_grows st (ordered few st h)

  core_grows : (t : Term) → negated t ≡ None → (b : Bool) → value_by few t ≡ Some b → value_by more t ≡ Some b
  core_grows t core b e = by_reason (values_have_reasons few t core b e)
    where
      by_reason : (cites few (literal b t) ≡ true) ⊎ ((b ≡ false) × (is_some (apart few (sides t)) ≡ true)) → value_by more t ≡ Some b
      by_reason (inl h) = cited_have_values more are t b (grown (literal b t) h)
      by_reason (inr h) = apart_grows t (sides t) refl h.1 ∙ ap Some (sym h.0)

  each_grows : (t : Term) (b : Bool) → value_by few t ≡ Some b → value_by more t ≡ Some b
  each_grows (term Not (terms t no_terms)) b e = ap not_of (each_grows t (not b) (opposite_of (value_by few t) b e)) ∙ ap Some (twice_not b)
  each_grows t b e = core_grows t refl b e

pub values_grow : ValuesGrow
values_grow few more grown are uncrossed t b e = each_grows few more grown are uncrossed t b e
