-- Fields of records.
use Rattle.std.proofs.Common.{◌≡◌, ℕ, true, false, Some, None, Ok, Err, refl, ap, Option}
use Rattle.spv_logic.specs.declared.types.TypeId.{TypeId}
use Rattle.spv_tree.specs.declared.syntax.names.Name.{Name}
use Rattle.spv_program.specs.declared.types.TypeForm.{TypeForm}
use Rattle.spv_program.specs.declared.types.TypeForm.TheVariants.{Integer, Boolean, Range, Pointer, Array, Record}
use Rattle.spv_program.specs.Types.{field_of}
use Rattle.spv_typing.specs.Outcomes.{wrong, undeclared}
use Rattle.spv_typing.specs.ExpressionWalk.{Reached, ByField, further, on_type, field_in}
use Rattle.spv_expression_typing.specs.Selected.{is_record}

module _ (line : ℕ) (r : Reached) (x : Name) where
  pub no_record : (f : TypeForm) → is_record f ≡ false → field_in line r x f ≡ Err (wrong line)
  no_record Integer h = refl
  no_record Boolean h = refl
  no_record (Range low high) h = refl
  no_record (Pointer t) h = refl
  no_record (Array index element) h = refl
  no_record (Record fields) h = absurd cc

  in_record : (f : TypeForm) (o : Option TypeId) → is_record f ≡ true → field_of f x.symbol ≡ o
      → field_in line r x f ≡ on_type (Err (undeclared x)) (λ t. Ok (further r (ByField r.type x.symbol) t)) o
  in_record (Record fields) o h e = ap (on_type (Err (undeclared x)) (λ t. Ok (further r (ByField r.type x.symbol) t))) e
  in_record Integer o h e = absurd cc
  in_record Boolean o h e = absurd cc
  in_record (Range low high) o h e = absurd cc
  in_record (Pointer t) o h e = absurd cc
  in_record (Array index element) o h e = absurd cc

  pub no_field : (f : TypeForm) → is_record f ≡ true → field_of f x.symbol ≡ None → field_in line r x f ≡ Err (undeclared x)
  no_field f h e = in_record f None h e

  pub has_field : (f : TypeForm) (t : TypeId) → is_record f ≡ true → field_of f x.symbol ≡ Some t
      → field_in line r x f ≡ Ok (further r (ByField r.type x.symbol) t)
  has_field f t h e = in_record f (Some t) h e
