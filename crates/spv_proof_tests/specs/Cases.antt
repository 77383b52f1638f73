-- SPLIT: proofs that are accepted, and what each way to break them makes of them.
use Rattle.std.specs.Prelude.{◌≡◌, ℕ, Bool, true, false, List, [], ◌∷◌, Some}
use Rattle.spv_logic.specs.declared.conditions.TermId.{TermId}
use Rattle.spv_logic.specs.Terms.{Term}
use Rattle.spv_logic.specs.Formulas.{below}
use Rattle.spv_atoms.specs.declared.proofs.Step.TheVariants.{Given, Contra}
use Rattle.spv_atoms.specs.declared.proofs.ProofNode.{ProofNode}
use Rattle.spv_proof_rules.specs.Accepted.{accepts}
use Rattle.spv_proof_tests.specs.Named.{x, y, p, same, the_x, the_p, the_both, the_same, the_always, the_truths_agree, asks, node, split_by}

-- ---- two cases

-- that p is its own consequence: fact 1 is its negation, and fact 2 that of the case
abbrev of_p : List ProofNode → Bool
of_p nodes = accepts (asks (p ∷ []) p) nodes

abbrev by_atom : TermId → List ℕ → ProofNode
by_atom atom parts = split_by (Given 0 ∷ []) atom parts

abbrev if_p : ProofNode
if_p = node (Contra 1 (Some 2) ∷ [])

abbrev if_not_p : ProofNode
if_not_p = node (Given 1 ∷ Contra 2 (Some 3) ∷ [])

-- two cases that the hypothesis closes, whatever they say
abbrev in_any_case : ProofNode
in_any_case = node (Given 1 ∷ Contra 1 (Some 3) ∷ [])

abbrev two_of : TermId → Bool
two_of atom = of_p (by_atom atom (1 ∷ 2 ∷ []) ∷ in_any_case ∷ in_any_case ∷ [])

pub record OfTwoCases : Type 0 where
  pub an_atom : of_p (by_atom the_p (1 ∷ 2 ∷ []) ∷ if_p ∷ if_not_p ∷ []) ≡ true
  pub the_cases_exchanged : of_p (by_atom the_p (1 ∷ 2 ∷ []) ∷ if_not_p ∷ if_p ∷ []) ≡ false
  pub a_sisters_fact : of_p (by_atom the_p (1 ∷ 2 ∷ []) ∷ in_any_case ∷ node (Contra 1 (Some 3) ∷ []) ∷ []) ≡ false
  pub a_sisters_case : of_p (by_atom the_p (1 ∷ 2 ∷ []) ∷ if_p ∷ if_p ∷ []) ≡ false
  pub one_case : of_p (by_atom the_p (1 ∷ []) ∷ if_p ∷ []) ≡ false
  pub three_cases : of_p (by_atom the_p (1 ∷ 2 ∷ 3 ∷ []) ∷ if_p ∷ if_not_p ∷ in_any_case ∷ []) ≡ false
  pub a_case_that_is_not_there : of_p (by_atom the_p (1 ∷ 2 ∷ []) ∷ if_p ∷ []) ≡ false
  pub a_node_too_many : of_p (by_atom the_p (1 ∷ 2 ∷ []) ∷ if_p ∷ if_not_p ∷ in_any_case ∷ []) ≡ false
  pub a_case_that_is_left_open : of_p (by_atom the_p (1 ∷ 2 ∷ []) ∷ if_p ∷ node (Given 1 ∷ []) ∷ []) ≡ false
  pub closed_already : of_p (split_by (Given 0 ∷ Given 1 ∷ Contra 1 (Some 2) ∷ []) the_p (1 ∷ 2 ∷ []) ∷ if_p ∷ if_not_p ∷ []) ≡ false
  pub another_atom : two_of the_p ≡ true
  pub a_connective : two_of the_both ≡ false
  pub an_equation_of_formulas : two_of the_truths_agree ≡ false
  pub truth_itself : two_of the_always ≡ false
  pub a_number : two_of the_x ≡ false

-- ---- three cases

abbrev of_numbers : Term → List ℕ → List ProofNode → Bool
of_numbers goal parts nodes = accepts (asks (goal ∷ []) goal) (by_atom the_same parts ∷ nodes)

abbrev three : List ℕ
three = 1 ∷ 2 ∷ 3 ∷ []

pub record OfThreeCases : Type 0 where
  pub the_first_is_the_equation : of_numbers same three (if_p ∷ in_any_case ∷ in_any_case ∷ []) ≡ true
  pub the_second_puts_the_left_side_below : of_numbers (below x y) three (in_any_case ∷ if_p ∷ in_any_case ∷ []) ≡ true
  pub the_third_puts_the_right_side_below : of_numbers (below y x) three (in_any_case ∷ in_any_case ∷ if_p ∷ []) ≡ true
  pub the_second_is_another : of_numbers same three (in_any_case ∷ if_p ∷ in_any_case ∷ []) ≡ false
  pub the_third_is_another : of_numbers (below x y) three (in_any_case ∷ in_any_case ∷ if_p ∷ []) ≡ false
  pub two_cases : of_numbers same (1 ∷ 2 ∷ []) (if_p ∷ in_any_case ∷ []) ≡ false
  pub four_cases : of_numbers same (1 ∷ 2 ∷ 3 ∷ 4 ∷ []) (if_p ∷ in_any_case ∷ in_any_case ∷ in_any_case ∷ []) ≡ false
  pub a_sisters_fact : of_numbers same three (if_p ∷ in_any_case ∷ node (Contra 1 (Some 3) ∷ []) ∷ []) ≡ false

-- ---- cases in cases

-- the first case splits again; its own cases come before the second
abbrev nested : List ProofNode → Bool
nested nodes = of_p (by_atom the_p (1 ∷ 4 ∷ []) ∷ split_by [] the_p (2 ∷ 3 ∷ []) ∷ nodes)

-- fact 2 and, of the inner split, fact 3
abbrev if_p_again : ProofNode
if_p_again = node (Contra 1 (Some 3) ∷ [])

abbrev if_not_again : ProofNode
if_not_again = node (Contra 2 (Some 3) ∷ [])

pub record OfNestedCases : Type 0 where
  pub inner_before_outer : nested (if_p_again ∷ if_not_again ∷ if_not_p ∷ []) ≡ true
  pub outer_before_inner : nested (if_not_p ∷ if_p_again ∷ if_not_again ∷ []) ≡ false
  pub an_inner_fact_outside : nested (if_p_again ∷ if_not_again ∷ node (Contra 2 (Some 3) ∷ []) ∷ []) ≡ false
  pub an_inner_fact_in_its_sister : nested (node (Given 1 ∷ Contra 1 (Some 4) ∷ []) ∷ node (Contra 1 (Some 4) ∷ []) ∷ if_not_p ∷ []) ≡ false
  pub an_inner_case_that_is_left_open : nested (if_p_again ∷ node [] ∷ if_not_p ∷ []) ≡ false
