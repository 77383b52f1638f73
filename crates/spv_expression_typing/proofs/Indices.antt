-- Indices one after the other.
use Rattle.std.proofs.Common.{◌≡◌, ◌<◌, ◌+◌, ℕ, zero, suc, false, List, [], ◌∷◌, length, drop, Some, None, refl, sym, ap, subst, ◌∙◌, arith}
use Rattle.spv_logic.specs.declared.types.TypeId.{TypeId}
use Rattle.spv_program.specs.declared.types.TypeForm.{TypeForm}
use Rattle.spv_program.specs.Types.{form_at, element_of}
use Rattle.spv_program.specs.Expressions.{Expression}
use Rattle.spv_typing.specs.ExpressionWalk.{on_type, takes_indices}
use Rattle.spv_formula_typing.specs.declared.forms.Operand.{Operand}
use Rattle.spv_formula_typing.specs.Operands.{operands_of}

module _ (forms : List TypeForm) (t : TypeId) where
  opened : (xs : List (ℕ × Operand Expression)) (n : ℕ) → n < length xs
      → takes_indices forms t (operands_of (drop n xs)) ≡ on_type false (λ u. takes_indices forms u (operands_of (drop (suc n) xs))) (element_of (form_at forms t.0))
  opened [] n h = absurd (omega (arith, h))
  opened (x ∷ xs) zero h = refl
  opened (x ∷ xs) (suc n) h = opened xs n (omega (arith, h))

  pub index_more : (xs : List (ℕ × Operand Expression)) (n : ℕ) (u : TypeId) → n < length xs → element_of (form_at forms t.0) ≡ Some u
      → takes_indices forms u (operands_of (drop (n + 1) xs)) ≡ takes_indices forms t (operands_of (drop n xs))
  index_more xs n u h is =
      let next : suc n ≡ n + 1 = omega arith in
      subst (λ (m : ℕ). takes_indices forms u (operands_of (drop m xs)) ≡ takes_indices forms t (operands_of (drop n xs))) next
      (sym (opened xs n h ∙ ap (on_type false (λ u. takes_indices forms u (operands_of (drop (suc n) xs)))) is))

  pub index_missing : (xs : List (ℕ × Operand Expression)) (n : ℕ) → n < length xs → element_of (form_at forms t.0) ≡ None
      → false ≡ takes_indices forms t (operands_of (drop n xs))
  index_missing xs n h is = sym (opened xs n h ∙ ap (on_type false (λ u. takes_indices forms u (operands_of (drop (suc n) xs)))) is)
