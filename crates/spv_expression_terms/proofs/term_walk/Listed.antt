-- What makes no call has none listed.
use Rattle.std.proofs.Common.{◌≡◌, Bool, true, false, List, [], ◌∷◌, ◌++◌, refl, ap, ◌∙◌}
use Rattle.std.specs.Cmp.Derive.{both_true}
use Rattle.std.proofs.lemmas.Bool.{false≢true}
use Rattle.spv_logic.proofs.list.Tests.{left_true, right_true}
use Rattle.spv_program.specs.Expressions.{Expression, Designator, Selectors, Call, Numeral, Boolean, NilOf, Read, Result, Through, Negative, Calculated, Compared, Negated, Joined, designator, no_selectors, at_index, at_field, at_cell, call}
use Rattle.spv_program.specs.Uses.{expression_calls, designator_calls, selector_calls, calls_with, argument_calls}
use Rattle.spv_expression_terms.specs.term_walk.ExpressionTerms.{has_no_calls, place_has_no_calls, selectors_have_no_calls}

is_empty : {X : Type 0} → List X → Bool
is_empty [] = true
is_empty (x ∷ xs) = false

something_there : {X : Type 0} (x : X) (xs : List X) → x ∷ xs ≡ [] → ⊥
unfolding is_empty
something_there x xs e = false≢true (ap is_empty e)

left_empty : {X : Type 0} (xs ys : List X) → xs ++ ys ≡ [] → xs ≡ []
left_empty [] ys e = refl
left_empty (x ∷ xs) ys e = absurd (something_there x (xs ++ ys) e)

right_empty : {X : Type 0} (xs ys : List X) → xs ++ ys ≡ [] → ys ≡ []
right_empty [] ys e = e
right_empty (x ∷ xs) ys e = absurd (something_there x (xs ++ ys) e)

both_empty : {X : Type 0} (xs ys : List X) → xs ≡ [] → ys ≡ [] → xs ++ ys ≡ []
both_empty xs ys e f = ap (λ zs. zs ++ ys) e ∙ f

-- a call is listed
call_listed : (c : Call) → calls_with c ≡ [] → ⊥
call_listed (call r line given) e = something_there (call r line given) [] (right_empty (argument_calls given) (call r line given ∷ []) e)

mutual
  pub none_listed : (e : Expression) → has_no_calls e ≡ true → expression_calls e ≡ []
  none_listed (Numeral z) h = refl
  none_listed (Boolean b) h = refl
  none_listed (NilOf t) h = refl
  none_listed (Read d) h = none_in_place d h
  none_listed (Result c) h = absurd (false≢true h)
  none_listed (Through c line t others) h = absurd (false≢true h)
  none_listed (Negative e) h = none_listed e h
  none_listed (Calculated o a b) h = both_empty (expression_calls a) (expression_calls b) (none_listed a (left_true (has_no_calls a) (has_no_calls b) h)) (none_listed b (right_true (has_no_calls a) (has_no_calls b) h))
  none_listed (Compared o a b) h = both_empty (expression_calls a) (expression_calls b) (none_listed a (left_true (has_no_calls a) (has_no_calls b) h)) (none_listed b (right_true (has_no_calls a) (has_no_calls b) h))
  none_listed (Negated e) h = none_listed e h
  none_listed (Joined o a b) h = both_empty (expression_calls a) (expression_calls b) (none_listed a (left_true (has_no_calls a) (has_no_calls b) h)) (none_listed b (right_true (has_no_calls a) (has_no_calls b) h))

  pub none_in_place : (d : Designator) → place_has_no_calls d ≡ true → designator_calls d ≡ []
  none_in_place (designator line x others) h = none_behind others h

  none_behind : (others : Selectors) → selectors_have_no_calls others ≡ true → selector_calls others ≡ []
  none_behind no_selectors h = refl
  none_behind (at_index t e others) h =
      both_empty (expression_calls e) (selector_calls others) (none_listed e (left_true (has_no_calls e) (selectors_have_no_calls others) h)) (none_behind others (right_true (has_no_calls e) (selectors_have_no_calls others) h))
  none_behind (at_field t f others) h = none_behind others h
  none_behind (at_cell line t others) h = none_behind others h

mutual
  pub makes_none : (e : Expression) → expression_calls e ≡ [] → has_no_calls e ≡ true
  makes_none (Numeral z) h = refl
  makes_none (Boolean b) h = refl
  makes_none (NilOf t) h = refl
  makes_none (Read d) h = place_makes_none d h
  makes_none (Result c) h = absurd (call_listed c h)
  makes_none (Through c line t others) h = absurd (call_listed c (left_empty (calls_with c) (selector_calls others) h))
  makes_none (Negative e) h = makes_none e h
  makes_none (Calculated o a b) h = both_true (makes_none a (left_empty (expression_calls a) (expression_calls b) h)) (makes_none b (right_empty (expression_calls a) (expression_calls b) h))
  makes_none (Compared o a b) h = both_true (makes_none a (left_empty (expression_calls a) (expression_calls b) h)) (makes_none b (right_empty (expression_calls a) (expression_calls b) h))
  makes_none (Negated e) h = makes_none e h
  makes_none (Joined o a b) h = both_true (makes_none a (left_empty (expression_calls a) (expression_calls b) h)) (makes_none b (right_empty (expression_calls a) (expression_calls b) h))

  pub place_makes_none : (d : Designator) → designator_calls d ≡ [] → place_has_no_calls d ≡ true
  place_makes_none (designator line x others) h = selectors_make_none others h

  selectors_make_none : (others : Selectors) → selector_calls others ≡ [] → selectors_have_no_calls others ≡ true
  selectors_make_none no_selectors h = refl
  selectors_make_none (at_index t e others) h = both_true (makes_none e (left_empty (expression_calls e) (selector_calls others) h)) (selectors_make_none others (right_empty (expression_calls e) (selector_calls others) h))
  selectors_make_none (at_field t f others) h = selectors_make_none others h
  selectors_make_none (at_cell line t others) h = selectors_make_none others h
