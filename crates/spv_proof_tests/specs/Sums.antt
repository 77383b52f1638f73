-- LINEAR: proofs that are accepted, and what each way to break them makes of them.
use Rattle.std.specs.Prelude.{◌≡◌, ℕ, Bool, true, false, List, [], ◌∷◌, None, pos, negsuc}
use Rattle.spv_whole.specs.Fraction.{Fraction, whole}
use Rattle.spv_logic.specs.Terms.{Term}
use Rattle.spv_logic.specs.Formulas.{negation, equation, below}
use Rattle.spv_atoms.specs.declared.proofs.Relation.{Relation}
use Rattle.spv_atoms.specs.declared.proofs.Relation.TheVariants.{AtMost, Equal}
use Rattle.spv_atoms.specs.declared.proofs.Step.TheVariants.{Given, Linear, Contra}
use Rattle.spv_proof_rules.specs.Effects.{at_most}
use Rattle.spv_proof_tests.specs.Named.{x, y, z, p, q, never, same, the_x, the_y, the_zero, the_one, the_p, the_q, shows}

-- a multiplier and a fact's number
abbrev times : ℕ → ℕ → Fraction × ℕ
times m k = (whole (pos m), k)

abbrev minus : ℕ → Fraction × ℕ
minus k = (whole (negsuc 0), k)

-- two facts, sums of which are to show that 1 is at most 0
abbrev by_sum : Term → Term → List (Fraction × ℕ) → List (Fraction × ℕ) → Bool
by_sum left right first second = shows (left ∷ right ∷ []) q (Given 1 ∷ Given 2 ∷ Linear (AtMost the_one the_zero) first second ∷ Contra 3 None ∷ [])

-- a relation of what are no numbers, on a path that what is never true ends
abbrev of_no_numbers : Relation → Bool
of_no_numbers r = shows (below x y ∷ below y x ∷ never ∷ []) q (Given 1 ∷ Given 2 ∷ Given 3 ∷ Linear r (times 1 1 ∷ times 1 2 ∷ []) [] ∷ Contra 3 None ∷ [])

abbrev around : List (Fraction × ℕ)
around = times 1 1 ∷ times 1 2 ∷ []

pub record OfLinear : Type 0 where
  pub each_below_the_other : by_sum (below x y) (below y x) around [] ≡ true
  pub a_part_is_left : by_sum (below x y) (below y z) around [] ≡ false
  pub the_sum_is_0 : by_sum (at_most x y) (at_most y x) around [] ≡ false
  pub an_order_and_its_negation : by_sum (at_most x y) (negation (at_most x y)) around [] ≡ true
  pub an_order_and_the_negation_of_another : by_sum (at_most x y) (negation (below x y)) around [] ≡ false
  pub an_equation_from_the_other_side : by_sum (below x y) same (times 1 1 ∷ minus 2 ∷ []) [] ≡ true
  pub an_order_from_the_other_side : by_sum (below x y) (below x y) (times 1 1 ∷ minus 2 ∷ []) [] ≡ false
  pub the_negation_of_an_equation : by_sum (below x y) (negation same) (times 1 1 ∷ times 0 2 ∷ []) [] ≡ false
  pub no_relation : by_sum (below x y) p (times 1 1 ∷ times 0 2 ∷ []) [] ≡ false
  pub an_equation_of_formulas : by_sum (below x y) (equation p q) (times 1 1 ∷ times 0 2 ∷ []) [] ≡ false
  pub no_such_fact : by_sum (below x y) (below y x) (times 1 1 ∷ times 1 3 ∷ []) [] ≡ false
  pub a_list_for_the_other_direction : by_sum (below x y) (below y x) around around ≡ false
  pub no_fact : by_sum (below x y) (below y x) [] [] ≡ false
  pub numbers : of_no_numbers (AtMost the_x the_y) ≡ true
  pub formulas : of_no_numbers (AtMost the_p the_q) ≡ false
  pub equal_formulas : of_no_numbers (Equal the_p the_q) ≡ false
