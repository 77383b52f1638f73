-- Constants have their numbers.
use Rattle.std.proofs.Common.{◌≡◌, ℕ, refl, ap, ◌∙◌, subst}
use Rattle.std.specs.Prelude.{ℤ, Option, Some, None, Ok}
use Rattle.spv_logic.specs.declared.names.names.Symbol.{Symbol}
use Rattle.spv_tree.specs.declared.syntax.names.Name.{Name}
use Rattle.spv_tree.specs.declared.syntax.names.Scalar.{Scalar}
use Rattle.spv_tree.specs.declared.syntax.names.Scalar.TheVariants as scalar
use Rattle.spv_tree.specs.declared.syntax.names.Constant.{Constant}
use Rattle.spv_tree.specs.declared.syntax.operators.PlusOrMinus.{PlusOrMinus}
use Rattle.spv_tree.specs.declared.syntax.operators.PlusOrMinus.TheVariants as prefix
use Rattle.spv_typing.specs.Known.{Meaning, OfType, OfList, OfConstant, OfPlace, OfStart, OfSymbol, OfRoutine, Scope, meaning}
use Rattle.spv_typing.specs.TypeWalk.{signed, constant_named, scalar_value, constant}
use Rattle.spv_type_soundness.proofs.well_typed.Outcomes.{fine, no_fault, same_value, went}
use Rattle.spv_type_soundness.specs.faithfulness.Names.{View}
use Rattle.spv_type_soundness.specs.faithfulness.Names as names
use Rattle.spv_type_soundness.specs.faithfulness.Statements.{ScalarFrom, number, name, ConstantFrom, unsigned, plus, minus}
use Rattle.spv_type_soundness.specs.faithfulness.Laws.{ConstantsHaveTheirNumbers}

module _ (s : Scope) (v : View) (known : (x : Symbol) (z : ℤ) → meaning s x ≡ Some (OfConstant z) → names.constant_named v x ≡ Some z) where
  named_from : (line : ℕ) (x : Name) (m : Option Meaning) (z : ℤ) → meaning s x.symbol ≡ m → constant_named line x m ≡ Ok z
      → ScalarFrom v z (scalar.Name x)
  named_from line x None z h e = absurd (no_fault e)
  named_from line x (Some (OfConstant n)) z h e = name (known x.symbol n h ∙ ap Some (same_value e))
  named_from line x (Some (OfType t)) z h e = absurd (no_fault e)
  named_from line x (Some OfList) z h e = absurd (no_fault e)
  named_from line x (Some (OfPlace t)) z h e = absurd (no_fault e)
  named_from line x (Some (OfStart r)) z h e = absurd (no_fault e)
  named_from line x (Some (OfSymbol d)) z h e = absurd (no_fault e)
  named_from line x (Some (OfRoutine r)) z h e = absurd (no_fault e)

  scalar_from : (line : ℕ) (c : Scalar) (z : ℤ) → scalar_value s line c ≡ Ok z → ScalarFrom v z c
  scalar_from line (scalar.Number n) z e = subst (λ q. ScalarFrom v q (scalar.Number n)) (same_value e) number
  scalar_from line (scalar.Name x) z e = named_from line x (meaning s x.symbol) z refl e

  signed_from : (line : ℕ) (sign : Option PlusOrMinus) (c : Scalar) (z : ℤ) → ScalarFrom v z c
      → ConstantFrom v (signed sign z) (record { line = line; sign = sign; value = c })
  signed_from line None c z h = unsigned h
  signed_from line (Some prefix.Plus) c z h = plus h
  signed_from line (Some prefix.Minus) c z h = minus h

  pub constant_from : (c : Constant) (z : ℤ) → constant s c ≡ Ok z → ConstantFrom v z c
  constant_from c z e =
      let one = went (scalar_value s c.line c.value) (λ q. fine (signed c.sign q)) z e in
      subst (λ q. ConstantFrom v q c) (same_value one.rest)
      (signed_from c.line c.sign c.value one.value (scalar_from c.line c.value one.value one.first))

pub constants_have_their_numbers : ConstantsHaveTheirNumbers
constants_have_their_numbers s v known c z e = constant_from s v known c z e
