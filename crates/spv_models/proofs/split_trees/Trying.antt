-- The paths of the small searches: those that are live are so in a world, and those that are not have a contradiction.
use Rattle.std.proofs.Common.{◌≡◌, ℕ, Bool, true, false, cond, not, List, [], ◌∷◌, ℤ, pos, neg_ℤ, refl, sym, ap, ◌∙◌, subst, Some, None}
use mathlib.Core.Path.{ap₂}
use Rattle.std.specs.Ordering.{int_eq}
use Rattle.std.specs.List.{list_all}
use Rattle.std.proofs.lemmas.Bool.{false≢true}
use Rattle.spv_frac.specs.rational.Rational.{Rational, whole, plus, opposite, is_positive}
use Rattle.spv_frac.proofs.rational.Field.{plus_comm, plus_middle, plus_opposite, whole_plus}
use Rattle.spv_frac.proofs.rational.Signs.{not_positive_plus, zero_is}
use Rattle.spv_logic.specs.declared.names.names.Symbol.{Symbol}
use Rattle.spv_logic.specs.declared.types.Sort.{Sort}
use Rattle.spv_logic.specs.declared.types.Sort.TheVariants as sort
use Rattle.spv_logic.specs.declared.operators.Head.TheVariants.{Var, App}
use Rattle.spv_logic.specs.Values.{Number, Truth}
use Rattle.spv_logic.specs.Terms.{Term, no_terms, terms, term_eq, first}
use Rattle.spv_logic.proofs.Equality.{term_eq-true}
use Rattle.spv_logic.specs.Fits.{fits, default_of}
use Rattle.spv_logic.specs.Sorts.{variable_sort}
use Rattle.spv_logic.specs.Formulas.{negation, equation, below}
use Rattle.spv_logic.specs.Conditions.{Meaning, Valuation, IsValuation, answers, holds}
use Rattle.spv_logic.proofs.Defaults.{default_fits}
use Rattle.spv_atoms.specs.Tables.{assigned}
use Rattle.spv_atoms.specs.Atoms.{is_truth}
use Rattle.spv_atoms.specs.Forms.{form}
use Rattle.spv_atoms.proofs.Members.{has, has-left}
use Rattle.spv_tableau_rules.specs.tableaux.Numbers.{minus}
use Rattle.spv_proof_rules.specs.Sums.{difference}
use Rattle.spv_proof_rules.specs.Effects.{Question, at_most}
use Rattle.spv_tableau_rules.specs.constraints.Values.{form_value}
use Rattle.spv_tableau_rules.proofs.constraints.Standing.{true_where_equal}
use Rattle.spv_tableau_rules.proofs.constraints.Values.{difference-value}
use Rattle.spv_models.specs.leaf_models.Laws.{AreFormulas}
use Rattle.spv_models.specs.leaf_models.Leaves.{truth_term}
use Rattle.spv_models.specs.leaf_models.Tables.{formulas_of}
use Rattle.spv_models.specs.split_trees.Paths.{facts, Known, Gives, Shared, numeral, IsLive, given, affirmed, lower, member, negated, true_one, false_one, sides, told, shared, turned, through, congruent, none, more, forced}
use Rattle.spv_models.specs.split_trees.Examples as example
use Rattle.spv_models.specs.split_trees.Examples.{x, y, p, q, f_of, g_of, both, either}
use Rattle.spv_models.proofs.split_trees.Worlds.{each_of, true-live}

-- ---- a world for the search of one split

-- F and G give the value of their argument
abbrev world : Meaning
world symbol values = first values

-- variables of sort Int by their numbers; those of sort Bool are true
abbrev of_numbers : (ℕ → ℤ) → Valuation
of_numbers f (Var s sort.Int n) = Number (f s.0)
of_numbers f (Var s sort.Bool n) = Truth true
of_numbers f h = default_of [] (variable_sort h)

of_numbers-fits : (f : ℕ → ℤ) → IsValuation [] (of_numbers f)
of_numbers-fits f = record { variables = variables; classes = λ t n. default_fits [] refl (sort.Class t); starts = λ s r. default_fits [] refl r }
  where
    variables : (s : Symbol) (r : Sort) (n : ℕ) → fits [] (of_numbers f (Var s r n)) r ≡ true
    variables s sort.Int n = refl
    variables s sort.Bool n = refl
    variables s sort.List n = default_fits [] refl sort.List
    variables s (sort.Ptr t) n = default_fits [] refl (sort.Ptr t)
    variables s (sort.Whole t) n = default_fits [] refl (sort.Whole t)
    variables s (sort.Class t) n = default_fits [] refl (sort.Class t)

formulas-are : AreFormulas [] example.decls (formulas_of example.search.sequent)
formulas-are = each_of (is_truth [] example.decls) (formulas_of example.search.sequent) refl

-- a path is live where its facts are true in this world
live_by : (f : ℕ → ℤ) (cases : List Term) → list_all (holds (answers [] example.decls world) (of_numbers f)) (facts example.search cases) ≡ true → IsLive example.search (facts example.search cases)
live_by f cases h = true-live example.search refl formulas-are world (of_numbers f) (of_numbers-fits f) (facts example.search cases) h

pub start-live : IsLive example.search (facts example.search [])
start-live = live_by pos [] refl

pub below-live : IsLive example.search (facts example.search (below x y ∷ []))
below-live = live_by pos (below x y ∷ []) refl

pub above-live : IsLive example.search (facts example.search (below y x ∷ []))
above-live = live_by (λ n. neg_ℤ (pos n)) (below y x ∷ []) refl

-- ---- contradictions

pub equal-not-live : IsLive example.search (facts example.search (equation x y ∷ [])) → ⊥
equal-not-live live =
    live.apart (f_of x) (f_of y) refl (given (negation example.numbers_equal) refl)
    (congruent (App (record { 0 = 10 })) (terms x no_terms) (terms y no_terms) refl refl
    (more x y no_terms no_terms (told x y (sides x y refl (given (equation x y) refl))) none))

-- two differences of opposite sides, and 1
around : (a b : Rational) → plus (plus (minus b a) (whole (pos 0))) (plus (minus a b) (whole (pos 1))) ≡ whole (pos 1)
around a b =
    plus_middle (minus b a) (whole (pos 0)) (minus a b) (whole (pos 1))
    ∙ (ap₂ plus (ap (plus (minus b a)) (plus_comm a (opposite b)) ∙ (plus_middle b (opposite a) (opposite b) a ∙ ap₂ plus (plus_opposite b) (plus_comm (opposite a) a ∙ plus_opposite a) ∙ whole_plus (pos 0) (pos 0))) (whole_plus (pos 0) (pos 1))
    ∙ whole_plus (pos 0) (pos 1))

not_false : (b : Bool) → not b ≡ true → b ≡ false
not_false true h = sym h
not_false false h = refl

-- no point puts a number below another one that is at most the first
no_point : (point : Term → Rational) (s t : Term) → not (is_positive (form_value point (difference t s (pos 0)))) ≡ true → not (is_positive (form_value point (difference s t (pos 1)))) ≡ true → ⊥
no_point point s t h k =
    let a = form_value point (form s) in
    let b = form_value point (form t) in
    let sum : plus (form_value point (difference t s (pos 0))) (form_value point (difference s t (pos 1))) ≡ whole (pos 1) =
    ap₂ plus (difference-value point t s (pos 0)) (difference-value point s t (pos 1)) ∙ around a b in
    false≢true (sym (not_positive_plus (form_value point (difference t s (pos 0))) (form_value point (difference s t (pos 1))) (not_false _ h) (not_false _ k)) ∙ ap is_positive sum)

abbrev start : Question → List Term
start s = facts s []

x-shared : Shared example.forced (start example.forced) x y
x-shared =
    forced x y refl refl refl
    (λ point m h. absurd (no_point point x y (m.met (at_most y x) (given (at_most y x) refl)) h))
    (λ point m h. absurd (no_point point y x (m.met (at_most x y) (given (at_most x y) refl)) h))

pub forced-not-live : IsLive example.forced (start example.forced) → ⊥
forced-not-live live =
    live.apart (f_of x) (f_of y) refl (given (negation example.numbers_equal) refl)
    (congruent (App (record { 0 = 10 })) (terms x no_terms) (terms y no_terms) refl refl (more x y no_terms no_terms (shared x y x-shared) none))

-- what is known of p and q evaluates a formula of both to true
affirmed-here : (t : Term) → has (p ∷ q ∷ []) t ≡ true → Known example.arguments (start example.arguments) t
affirmed-here t h = given t (has-left (p ∷ q ∷ []) (negation (equation (g_of both) (g_of either)) ∷ []) t h)

pub arguments-not-live : IsLive example.arguments (start example.arguments) → ⊥
arguments-not-live live =
    let first_one = told both (truth_term true) (true_one both refl (affirmed both (p ∷ q ∷ []) refl affirmed-here refl)) in
    let second_one = told either (truth_term true) (true_one either refl (affirmed either (p ∷ q ∷ []) refl affirmed-here refl)) in
    live.apart (g_of both) (g_of either) refl (given (negation (equation (g_of both) (g_of either))) refl)
    (congruent (App (record { 0 = 11 })) (terms both no_terms) (terms either no_terms) refl refl
    (more both either no_terms no_terms (through both (truth_term true) either first_one (turned either (truth_term true) second_one)) none))

-- ---- orders

pub order-known : Known example.search (facts example.search (below x y ∷ [])) (negation (equation x y))
order-known = lower x y refl (given (below x y) refl)

-- ---- one contradiction each

pub both-truths-not-live : IsLive example.both_truths (start example.both_truths) → ⊥
both-truths-not-live live =
    live.truths
    (through (truth_term true) p (truth_term false) (turned p (truth_term true) (told p (truth_term true) (true_one p refl (given p refl))))
    (told p (truth_term false) (false_one p refl (given (negation p) refl))))

opposite-gives : (t : Term) (b : Bool) → assigned ((both, true) ∷ (p, false) ∷ []) t ≡ Some b → Gives example.opposite_truths (start example.opposite_truths) t b
opposite-gives t b e = by_case (term_eq both t) (term_eq p t) refl refl e
  where
    by_case : (c d : Bool) → term_eq both t ≡ c → term_eq p t ≡ d → cond c (Some true) (cond d (Some false) None) ≡ Some b → Gives example.opposite_truths (start example.opposite_truths) t b
    by_case true d f g h =
        let same : true ≡ b = cc in
        subst (λ u. Gives example.opposite_truths (start example.opposite_truths) u b) (term_eq-true both t f)
        (subst (λ k. Gives example.opposite_truths (start example.opposite_truths) both k) same (member both (given both refl)))
    by_case false true f g h =
        let same : false ≡ b = cc in
        subst (λ u. Gives example.opposite_truths (start example.opposite_truths) u b) (term_eq-true p t g)
        (subst (λ k. Gives example.opposite_truths (start example.opposite_truths) p k) same (negated p (given (negation p) refl)))
    by_case false false f g h = cc

pub opposite-not-live : IsLive example.opposite_truths (start example.opposite_truths) → ⊥
opposite-not-live live = false≢true (sym (live.agree (assigned ((both, true) ∷ (p, false) ∷ [])) opposite-gives both))

abbrev one : Term
one = numeral (pos 1)

abbrev two : Term
two = numeral (pos 2)

pub numerals-not-live : IsLive example.two_numerals (start example.two_numerals) → ⊥
numerals-not-live live =
    false≢true (sym (ap (int_eq (pos 1)) (live.numerals (pos 1) (pos 2)
    (through one x two (turned x one (told x one (sides x one refl (given (equation x one) refl))))
    (through x y two (told x y (sides x y refl (given (equation x y) refl))) (told y two (sides y two refl (given (equation y two) refl))))))))

pub point-not-live : IsLive example.without_point (start example.without_point) → ⊥
point-not-live live = no_point live.point x y (live.meets.met (at_most y x) (given (at_most y x) refl)) (live.meets.met (below x y) (given (below x y) refl))

-- no point puts a number below another one of the same value
no_equal_point : (point : Term → Rational) (s t : Term) → form_value point (form t) ≡ form_value point (form s) → not (is_positive (form_value point (difference s t (pos 1)))) ≡ true → ⊥
no_equal_point point s t e k =
    no_point point s t (ap (λ r. not (is_positive r)) (zero_is (form_value point (difference t s (pos 0))) (true_where_equal point t s e))) k

pub values-not-live : IsLive example.without_equal_values (start example.without_equal_values) → ⊥
values-not-live live =
    no_equal_point live.point (f_of x) (f_of y)
    (live.equal (f_of y) (f_of x) refl refl (turned (f_of x) (f_of y)
    (congruent (App (record { 0 = 10 })) (terms x no_terms) (terms y no_terms) refl refl (more x y no_terms no_terms (told x y (sides x y refl (given (equation x y) refl))) none))))
    (live.meets.met (below (f_of x) (f_of y)) (given (below (f_of x) (f_of y)) refl))
