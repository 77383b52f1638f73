-- Formulas and annotations as trees of numbers, and back.
use Rattle.std.specs.Prelude.{zero, suc, true, ◌≡◌, refl}
use base.Stored.{Gv, gnil, gnum, gcons, num}
use Rattle.spv_logic.specs.list.Ways.{Way, head, tail, way_ℤ, way_bool}
use Rattle.spv_program.specs.declared.operators.BuiltIn.{BuiltIn}
use Rattle.spv_program.specs.declared.operators.BuiltIn.TheVariants as known
use Rattle.spv_program.specs.Formulas.{Formula, Formulas, Annotation, Numeral, Boolean, NilOf, Named, ClassOf, Element, FieldOf, Content, Applied, Known, Negative, Calculated, Compared, Negated, Joined, Implied, no_formulas, formulas}
use Rattle.spv_program.specs.typed.Model.Codes.{way_type, way_symbol, way_arithmetic, way_comparison, way_connective}

abbrev mutual
  built_in_to : BuiltIn → Gv
  built_in_to known.Select = gcons (gnum 0) gnil
  built_in_to known.Store = gcons (gnum 1) gnil
  built_in_to (known.Put a) = gcons (gnum 2) (way_symbol.to a)
  built_in_to known.Cell = gcons (gnum 3) gnil
  built_in_to known.SetCell = gcons (gnum 4) gnil
  built_in_to known.Extend = gcons (gnum 5) gnil
  built_in_to known.PointerTo = gcons (gnum 6) gnil
  built_in_to known.Car = gcons (gnum 7) gnil
  built_in_to known.Cdr = gcons (gnum 8) gnil
  built_in_to known.Cons = gcons (gnum 9) gnil
  built_in_to known.Atom = gcons (gnum 10) gnil

abbrev mutual
  built_in_back : Gv → BuiltIn
  built_in_back (gcons (gnum zero) rest) = known.Select
  built_in_back (gcons (gnum (suc zero)) rest) = known.Store
  built_in_back (gcons (gnum (suc (suc zero))) a) = known.Put (way_symbol.back a)
  built_in_back (gcons (gnum (suc (suc (suc zero)))) rest) = known.Cell
  built_in_back (gcons (gnum (suc (suc (suc (suc zero))))) rest) = known.SetCell
  built_in_back (gcons (gnum (suc (suc (suc (suc (suc zero)))))) rest) = known.Extend
  built_in_back (gcons (gnum (suc (suc (suc (suc (suc (suc zero))))))) rest) = known.PointerTo
  built_in_back (gcons (gnum (suc (suc (suc (suc (suc (suc (suc zero)))))))) rest) = known.Car
  built_in_back (gcons (gnum (suc (suc (suc (suc (suc (suc (suc (suc zero))))))))) rest) = known.Cdr
  built_in_back (gcons (gnum (suc (suc (suc (suc (suc (suc (suc (suc (suc zero)))))))))) rest) = known.Cons
  built_in_back (gcons (gnum (suc (suc (suc (suc (suc (suc (suc (suc (suc (suc zero))))))))))) rest) = known.Atom
  built_in_back _ = known.Atom

mutual
  pub built_in_same : (x : BuiltIn) → built_in_back (built_in_to x) ≡ x
  built_in_same known.Select = refl
  built_in_same known.Store = refl
  built_in_same (known.Put a) = λ i. known.Put (way_symbol.same a i)
  built_in_same known.Cell = refl
  built_in_same known.SetCell = refl
  built_in_same known.Extend = refl
  built_in_same known.PointerTo = refl
  built_in_same known.Car = refl
  built_in_same known.Cdr = refl
  built_in_same known.Cons = refl
  built_in_same known.Atom = refl

abbrev pub way_built_in : Way BuiltIn
way_built_in = record { to = built_in_to; back = built_in_back; same = built_in_same }

abbrev mutual
  formula_to : Formula → Gv
  formula_to (Numeral a) = gcons (gnum 0) (way_ℤ.to a)
  formula_to (Boolean a) = gcons (gnum 1) (way_bool.to a)
  formula_to (NilOf a) = gcons (gnum 2) (way_type.to a)
  formula_to (Named a b) = gcons (gnum 3) (gcons (gnum a) (way_symbol.to b))
  formula_to (ClassOf a b) = gcons (gnum 4) (gcons (gnum a) (way_type.to b))
  formula_to (Element a b) = gcons (gnum 5) (gcons (formula_to a) (formula_to b))
  formula_to (FieldOf a b) = gcons (gnum 6) (gcons (formula_to a) (way_symbol.to b))
  formula_to (Content a b c) = gcons (gnum 7) (gcons (gnum a) (gcons (way_type.to b) (formula_to c)))
  formula_to (Applied a b) = gcons (gnum 8) (gcons (way_symbol.to a) (formulas_to b))
  formula_to (Known a b) = gcons (gnum 9) (gcons (way_built_in.to a) (formulas_to b))
  formula_to (Negative a) = gcons (gnum 10) (formula_to a)
  formula_to (Calculated a b c) = gcons (gnum 11) (gcons (way_arithmetic.to a) (gcons (formula_to b) (formula_to c)))
  formula_to (Compared a b c) = gcons (gnum 12) (gcons (way_comparison.to a) (gcons (formula_to b) (formula_to c)))
  formula_to (Negated a) = gcons (gnum 13) (formula_to a)
  formula_to (Joined a b c) = gcons (gnum 14) (gcons (way_connective.to a) (gcons (formula_to b) (formula_to c)))
  formula_to (Implied a b) = gcons (gnum 15) (gcons (formula_to a) (formula_to b))

  formulas_to : Formulas → Gv
  formulas_to no_formulas = gcons (gnum 0) gnil
  formulas_to (formulas a b) = gcons (gnum 1) (gcons (formula_to a) (formulas_to b))

abbrev mutual
  formula_back : Gv → Formula
  formula_back (gcons (gnum zero) a) = Numeral (way_ℤ.back a)
  formula_back (gcons (gnum (suc zero)) a) = Boolean (way_bool.back a)
  formula_back (gcons (gnum (suc (suc zero))) a) = NilOf (way_type.back a)
  formula_back (gcons (gnum (suc (suc (suc zero)))) (gcons a b)) = Named (num a) (way_symbol.back b)
  formula_back (gcons (gnum (suc (suc (suc (suc zero))))) (gcons a b)) = ClassOf (num a) (way_type.back b)
  formula_back (gcons (gnum (suc (suc (suc (suc (suc zero)))))) (gcons a b)) = Element (formula_back a) (formula_back b)
  formula_back (gcons (gnum (suc (suc (suc (suc (suc (suc zero))))))) (gcons a b)) = FieldOf (formula_back a) (way_symbol.back b)
  formula_back (gcons (gnum (suc (suc (suc (suc (suc (suc (suc zero)))))))) (gcons a (gcons b c))) = Content (num a) (way_type.back b) (formula_back c)
  formula_back (gcons (gnum (suc (suc (suc (suc (suc (suc (suc (suc zero))))))))) (gcons a b)) = Applied (way_symbol.back a) (formulas_back b)
  formula_back (gcons (gnum (suc (suc (suc (suc (suc (suc (suc (suc (suc zero)))))))))) (gcons a b)) = Known (way_built_in.back a) (formulas_back b)
  formula_back (gcons (gnum (suc (suc (suc (suc (suc (suc (suc (suc (suc (suc zero))))))))))) a) = Negative (formula_back a)
  formula_back (gcons (gnum (suc (suc (suc (suc (suc (suc (suc (suc (suc (suc (suc zero)))))))))))) (gcons a (gcons b c))) = Calculated (way_arithmetic.back a) (formula_back b) (formula_back c)
  formula_back (gcons (gnum (suc (suc (suc (suc (suc (suc (suc (suc (suc (suc (suc (suc zero))))))))))))) (gcons a (gcons b c))) = Compared (way_comparison.back a) (formula_back b) (formula_back c)
  formula_back (gcons (gnum (suc (suc (suc (suc (suc (suc (suc (suc (suc (suc (suc (suc (suc zero)))))))))))))) a) = Negated (formula_back a)
  formula_back (gcons (gnum (suc (suc (suc (suc (suc (suc (suc (suc (suc (suc (suc (suc (suc (suc zero))))))))))))))) (gcons a (gcons b c))) = Joined (way_connective.back a) (formula_back b) (formula_back c)
  formula_back (gcons (gnum (suc (suc (suc (suc (suc (suc (suc (suc (suc (suc (suc (suc (suc (suc (suc zero)))))))))))))))) (gcons a b)) = Implied (formula_back a) (formula_back b)
  formula_back _ = Boolean true

  formulas_back : Gv → Formulas
  formulas_back (gcons (gnum zero) rest) = no_formulas
  formulas_back (gcons (gnum (suc zero)) (gcons a b)) = formulas (formula_back a) (formulas_back b)
  formulas_back _ = no_formulas

mutual
  pub formula_same : (x : Formula) → formula_back (formula_to x) ≡ x
  formula_same (Numeral a) = λ i. Numeral (way_ℤ.same a i)
  formula_same (Boolean a) = λ i. Boolean (way_bool.same a i)
  formula_same (NilOf a) = λ i. NilOf (way_type.same a i)
  formula_same (Named a b) = λ i. Named a (way_symbol.same b i)
  formula_same (ClassOf a b) = λ i. ClassOf a (way_type.same b i)
  formula_same (Element a b) = λ i. Element (formula_same a i) (formula_same b i)
  formula_same (FieldOf a b) = λ i. FieldOf (formula_same a i) (way_symbol.same b i)
  formula_same (Content a b c) = λ i. Content a (way_type.same b i) (formula_same c i)
  formula_same (Applied a b) = λ i. Applied (way_symbol.same a i) (formulas_same b i)
  formula_same (Known a b) = λ i. Known (way_built_in.same a i) (formulas_same b i)
  formula_same (Negative a) = λ i. Negative (formula_same a i)
  formula_same (Calculated a b c) = λ i. Calculated (way_arithmetic.same a i) (formula_same b i) (formula_same c i)
  formula_same (Compared a b c) = λ i. Compared (way_comparison.same a i) (formula_same b i) (formula_same c i)
  formula_same (Negated a) = λ i. Negated (formula_same a i)
  formula_same (Joined a b c) = λ i. Joined (way_connective.same a i) (formula_same b i) (formula_same c i)
  formula_same (Implied a b) = λ i. Implied (formula_same a i) (formula_same b i)

  pub formulas_same : (x : Formulas) → formulas_back (formulas_to x) ≡ x
  formulas_same no_formulas = refl
  formulas_same (formulas a b) = λ i. formulas (formula_same a i) (formulas_same b i)

abbrev pub way_formula : Way Formula
way_formula = record { to = formula_to; back = formula_back; same = formula_same }

abbrev pub way_annotation : Way Annotation
way_annotation = record {
  to = λ a. gcons (gnum a.line) (way_formula.to a.formula);
  back = λ g. record { formula = way_formula.back (tail g); line = num (head g) };
  same = λ a i. record { formula = way_formula.same a.formula i; line = a.line };
}
