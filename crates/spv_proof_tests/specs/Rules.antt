-- Each rule but LINEAR and SPLIT: a proof that is accepted, and what each way to break it makes of it.
use Rattle.std.specs.Prelude.{◌≡◌, ℕ, Bool, true, false, List, [], ◌∷◌, Option, Some, None}
use Rattle.spv_logic.specs.declared.conditions.TermId.{TermId}
use Rattle.spv_logic.specs.Terms.{Term}
use Rattle.spv_logic.specs.Formulas.{negation, equation, below}
use Rattle.spv_atoms.specs.declared.proofs.Stated.{Stated}
use Rattle.spv_atoms.specs.declared.proofs.Stated.TheVariants.{Is, Same}
use Rattle.spv_atoms.specs.declared.proofs.Step.TheVariants.{Given, Refl, Symm, Trans, Cong, Schema, Rule, Eval, Contra}
use Rattle.spv_proof_rules.specs.Effects.{at_most}
use Rattle.spv_proof_tests.specs.Named.{number, x, y, z, p, q, both, twice, f_of, same, same_or_q, always, never, the_x, the_y, the_zero, the_one, the_p, the_q, the_both, the_twice, f_of_x, f_of_y, the_same_or_q, shows}

-- ---- GIVEN, REFL

abbrev by_hypothesis : ℕ → Bool
by_hypothesis k = shows (p ∷ []) p (Given 0 ∷ Given k ∷ Contra 1 (Some 2) ∷ [])

pub record OfGiven : Type 0 where
  pub the_hypothesis : by_hypothesis 1 ≡ true
  pub no_such_hypothesis : by_hypothesis 2 ≡ false
  pub the_goal_is_no_hypothesis : by_hypothesis 0 ≡ false

abbrev by_refl : TermId → Bool
by_refl t = shows [] (equation x x) (Given 0 ∷ Refl t ∷ Contra 1 (Some 2) ∷ [])

pub record OfRefl : Type 0 where
  pub the_term : by_refl the_x ≡ true
  pub another_term : by_refl the_y ≡ false

-- ---- SYMM, TRANS

abbrev by_symm : Term → ℕ → Bool
by_symm given k = shows (given ∷ []) (equation y x) (Given 1 ∷ Symm k ∷ Given 0 ∷ Contra 2 (Some 3) ∷ [])

pub record OfSymm : Type 0 where
  pub sides_exchanged : by_symm same 1 ≡ true
  pub no_equation : by_symm (below x y) 1 ≡ false
  pub no_such_fact : by_symm same 2 ≡ false
  pub fact_0 : by_symm same 0 ≡ false
  pub the_other_way_round : by_symm (equation y x) 1 ≡ false

abbrev by_trans : Term → Term → ℕ → ℕ → Bool
by_trans left right i j = shows (left ∷ right ∷ []) (equation x z) (Given 1 ∷ Given 2 ∷ Trans i j ∷ Given 0 ∷ Contra 3 (Some 4) ∷ [])

pub record OfTrans : Type 0 where
  pub a_shared_middle : by_trans same (equation y z) 1 2 ≡ true
  pub the_other_order : by_trans same (equation y z) 2 1 ≡ false
  pub another_middle : by_trans same (equation z y) 1 2 ≡ false
  pub the_first_is_no_equation : by_trans (below x y) (equation y z) 1 2 ≡ false
  pub the_second_is_no_equation : by_trans same (at_most y z) 1 2 ≡ false
  pub no_first_fact : by_trans same (equation y z) 3 2 ≡ false
  pub no_second_fact : by_trans same (equation y z) 1 3 ≡ false

-- ---- CONG

abbrev by_cong : Term → TermId → TermId → List ℕ → Bool
by_cong given t u ks = shows (given ∷ []) (equation (f_of x (number 1)) (f_of y (number 1))) (Given 1 ∷ Refl the_one ∷ Cong t u ks ∷ Given 0 ∷ Contra 3 (Some 4) ∷ [])

abbrev of_numbers : TermId → Bool
of_numbers t = shows [] (equation (number 1) (number 1)) (Given 0 ∷ Cong the_one t [] ∷ Contra 1 (Some 2) ∷ [])

pub record OfCong : Type 0 where
  pub all_arguments : by_cong same f_of_x f_of_y (1 ∷ 2 ∷ []) ≡ true
  pub one_is_missing : by_cong same f_of_x f_of_y (1 ∷ []) ≡ false
  pub one_too_many : by_cong same f_of_x f_of_y (1 ∷ 2 ∷ 2 ∷ []) ≡ false
  pub another_order : by_cong same f_of_x f_of_y (2 ∷ 1 ∷ []) ≡ false
  pub an_argument_the_other_way_round : by_cong (equation y x) f_of_x f_of_y (1 ∷ 2 ∷ []) ≡ false
  pub no_such_fact : by_cong same f_of_x f_of_y (1 ∷ 3 ∷ []) ≡ false
  pub other_terms : by_cong same f_of_y f_of_x (1 ∷ 2 ∷ []) ≡ false
  pub no_arguments : of_numbers the_one ≡ true
  pub another_head : of_numbers the_zero ≡ false

-- ---- EVAL

abbrev by_eval : List Term → Term → Stated → List ℕ → Bool
by_eval given goal stated ks = shows given goal (Given 1 ∷ Given 2 ∷ Eval stated ks ∷ Given 0 ∷ Contra 3 (Some 4) ∷ [])

abbrev of_both : Stated → List ℕ → Bool
of_both stated ks = by_eval (p ∷ q ∷ []) both stated ks

abbrev tells_apart : Term → List ℕ → Bool
tells_apart order ks = by_eval (order ∷ negation q ∷ []) (negation same_or_q) (Is the_same_or_q false) ks

abbrev of_two_values : Term → Term → Bool
of_two_values first second = by_eval (first ∷ second ∷ []) twice (Is the_twice true) (1 ∷ 2 ∷ [])

pub record OfEval : Type 0 where
  pub a_true_formula : of_both (Is the_both true) (1 ∷ 2 ∷ []) ≡ true
  pub a_fact_that_is_not_cited : of_both (Is the_both true) (1 ∷ []) ≡ false
  pub no_such_fact : of_both (Is the_both true) (1 ∷ 2 ∷ 3 ∷ []) ≡ false
  pub its_negation : of_both (Is the_both false) (1 ∷ 2 ∷ []) ≡ false
  pub a_false_formula : by_eval (p ∷ negation q ∷ []) (negation both) (Is the_both false) (2 ∷ []) ≡ true
  pub another_fact : by_eval (p ∷ negation q ∷ []) (negation both) (Is the_both false) (1 ∷ []) ≡ false
  pub two_that_agree : by_eval (p ∷ q ∷ []) (equation p q) (Same the_p the_q) (1 ∷ 2 ∷ []) ≡ true
  pub two_that_differ : by_eval (p ∷ negation q ∷ []) (equation p q) (Same the_p the_q) (1 ∷ 2 ∷ []) ≡ false
  pub one_is_unknown : by_eval (p ∷ q ∷ []) (equation p q) (Same the_p the_q) (1 ∷ []) ≡ false
  pub a_number_has_no_truth : shows (never ∷ []) p (Given 1 ∷ Eval (Is the_x true) (1 ∷ []) ∷ Contra 1 None ∷ []) ≡ false
  pub two_numbers_have_none : shows (never ∷ []) p (Given 1 ∷ Eval (Same the_x the_y) (1 ∷ []) ∷ Contra 1 None ∷ []) ≡ false
  pub from_what_is_never_true : shows (never ∷ []) p (Given 1 ∷ Eval (Is the_p true) (1 ∷ []) ∷ Given 0 ∷ Contra 2 (Some 3) ∷ []) ≡ true
  pub the_lower_side_left : tells_apart (below x y) (1 ∷ 2 ∷ []) ≡ true
  pub the_lower_side_right : tells_apart (below y x) (1 ∷ 2 ∷ []) ≡ true
  pub an_order_that_is_not_strict : tells_apart (at_most x y) (1 ∷ 2 ∷ []) ≡ false
  pub an_order_that_is_not_cited : tells_apart (below x y) (2 ∷ []) ≡ false
  pub an_order_of_others : tells_apart (below x z) (1 ∷ 2 ∷ []) ≡ false
  pub the_first_value_counts : of_two_values p (negation p) ≡ true
  pub the_second_does_not : of_two_values (negation p) p ≡ false

-- ---- CONTRA, and what never follows

abbrev by_contra : Term → Term → ℕ → Option ℕ → Bool
by_contra first second i j = shows (first ∷ second ∷ []) q (Given 1 ∷ Given 2 ∷ Contra i j ∷ [])

pub record OfContra : Type 0 where
  pub the_second_negates : by_contra p (negation p) 1 (Some 2) ≡ true
  pub the_first_negates : by_contra (negation p) p 1 (Some 2) ≡ true
  pub the_same_fact : by_contra p p 1 (Some 2) ≡ false
  pub of_another_fact : by_contra p (negation q) 1 (Some 2) ≡ false
  pub no_first_fact : by_contra p (negation p) 3 (Some 2) ≡ false
  pub no_second_fact : by_contra p (negation p) 1 (Some 3) ≡ false
  pub second_fact_0 : by_contra p (negation p) 1 (Some 0) ≡ false
  pub falsehood : by_contra never p 1 None ≡ true
  pub truth_negated : by_contra (negation always) p 1 None ≡ true
  pub truth : by_contra always p 1 None ≡ false
  pub falsehood_negated : by_contra (negation never) p 1 None ≡ false
  pub numerals_that_differ : by_contra (equation (number 0) (number 1)) p 1 None ≡ true
  pub numerals_that_agree : by_contra (equation (number 1) (number 1)) p 1 None ≡ false
  pub no_number_is_below_itself : by_contra (below (number 1) (number 1)) p 1 None ≡ true
  pub each_is_at_most_itself : by_contra (at_most (number 1) (number 1)) p 1 None ≡ false
  pub one_is_not_at_most_zero : by_contra (at_most (number 1) (number 0)) p 1 None ≡ true
  pub a_variable_is_no_numeral : by_contra (below x (number 0)) p 1 None ≡ false
  pub no_single_fact : by_contra never p 3 None ≡ false
  pub a_step_behind_the_end : shows (never ∷ []) q (Given 1 ∷ Contra 1 None ∷ Given 1 ∷ []) ≡ false
  pub a_second_end : shows (never ∷ []) q (Given 1 ∷ Contra 1 None ∷ Contra 1 None ∷ []) ≡ false
  pub no_end : shows (never ∷ []) q (Given 1 ∷ []) ≡ false
  pub no_steps : shows (never ∷ []) q [] ≡ false
  pub a_schema : shows (never ∷ []) q (Given 1 ∷ Schema 0 [] None ∷ Contra 1 None ∷ []) ≡ false
  pub a_rule : shows (never ∷ []) q (Given 1 ∷ Rule 1 [] ∷ Contra 1 None ∷ []) ≡ false
