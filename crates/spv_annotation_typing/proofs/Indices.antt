-- Indices one after the other.
use Rattle.std.proofs.Common.{◌≡◌, ◌<◌, ◌+◌, ℕ, zero, suc, false, List, [], ◌∷◌, length, drop, Some, None, refl, sym, ap, subst, ◌∙◌, arith}
use Rattle.spv_logic.specs.declared.types.Sort.{Sort}
use Rattle.spv_logic.specs.declared.types.Shape.{Shape}
use Rattle.spv_logic.specs.Shapes.{element_sort}
use Rattle.spv_typing.specs.FormulaWalk.{on_element, takes_indices}
use Rattle.spv_program.specs.Formulas.{Formula}
use Rattle.spv_formula_typing.specs.declared.forms.Operand.{Operand}
use Rattle.spv_formula_typing.specs.Operands.{operands_of}

module _ (sh : List Shape) (s : Sort) where
  opened : (xs : List (ℕ × Operand Formula)) (n : ℕ) → n < length xs
      → takes_indices sh s (operands_of (drop n xs)) ≡ on_element false (λ e. takes_indices sh e (operands_of (drop (suc n) xs))) (element_sort sh s)
  opened [] n h = absurd (omega (arith, h))
  opened (x ∷ xs) zero h = refl
  opened (x ∷ xs) (suc n) h = opened xs n (omega (arith, h))

  pub index_more : (xs : List (ℕ × Operand Formula)) (n : ℕ) (e : Sort) → n < length xs → element_sort sh s ≡ Some e
      → takes_indices sh e (operands_of (drop (n + 1) xs)) ≡ takes_indices sh s (operands_of (drop n xs))
  index_more xs n e h is =
      let next : suc n ≡ n + 1 = omega arith in
      subst (λ (m : ℕ). takes_indices sh e (operands_of (drop m xs)) ≡ takes_indices sh s (operands_of (drop n xs))) next
      (sym (opened xs n h ∙ ap (on_element false (λ e. takes_indices sh e (operands_of (drop (suc n) xs)))) is))

  pub index_missing : (xs : List (ℕ × Operand Formula)) (n : ℕ) → n < length xs → element_sort sh s ≡ None → false ≡ takes_indices sh s (operands_of (drop n xs))
  index_missing xs n h is = sym (opened xs n h ∙ ap (on_element false (λ e. takes_indices sh e (operands_of (drop (suc n) xs)))) is)
