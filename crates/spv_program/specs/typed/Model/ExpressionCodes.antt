-- Expressions as trees of numbers, and back.
use Rattle.std.specs.Prelude.{zero, suc, true, ◌≡◌, refl}
use base.Stored.{Gv, gnil, gnum, gcons, num}
use Rattle.spv_logic.specs.list.Ways.{Way, way_ℤ, way_bool}
use Rattle.spv_program.specs.Expressions.{Expression, Designator, Selectors, Call, Arguments, Numeral, Boolean, NilOf, Read, Result, Through, Negative, Calculated, Compared, Negated, Joined, designator, no_selectors, at_index, at_field, at_cell, call, no_arguments, by_value, by_place}
use Rattle.spv_program.specs.typed.Model.Codes.{way_type, way_symbol, way_routine, way_arithmetic, way_comparison, way_connective}

abbrev mutual
  expression_to : Expression → Gv
  expression_to (Numeral a) = gcons (gnum 0) (way_ℤ.to a)
  expression_to (Boolean a) = gcons (gnum 1) (way_bool.to a)
  expression_to (NilOf a) = gcons (gnum 2) (way_type.to a)
  expression_to (Read a) = gcons (gnum 3) (designator_to a)
  expression_to (Result a) = gcons (gnum 4) (call_to a)
  expression_to (Through a b c d) = gcons (gnum 5) (gcons (call_to a) (gcons (gnum b) (gcons (way_type.to c) (selectors_to d))))
  expression_to (Negative a) = gcons (gnum 6) (expression_to a)
  expression_to (Calculated a b c) = gcons (gnum 7) (gcons (way_arithmetic.to a) (gcons (expression_to b) (expression_to c)))
  expression_to (Compared a b c) = gcons (gnum 8) (gcons (way_comparison.to a) (gcons (expression_to b) (expression_to c)))
  expression_to (Negated a) = gcons (gnum 9) (expression_to a)
  expression_to (Joined a b c) = gcons (gnum 10) (gcons (way_connective.to a) (gcons (expression_to b) (expression_to c)))

  designator_to : Designator → Gv
  designator_to (designator a b c) = gcons (gnum 0) (gcons (gnum a) (gcons (way_symbol.to b) (selectors_to c)))

  selectors_to : Selectors → Gv
  selectors_to no_selectors = gcons (gnum 0) gnil
  selectors_to (at_index a b c) = gcons (gnum 1) (gcons (way_type.to a) (gcons (expression_to b) (selectors_to c)))
  selectors_to (at_field a b c) = gcons (gnum 2) (gcons (way_type.to a) (gcons (way_symbol.to b) (selectors_to c)))
  selectors_to (at_cell a b c) = gcons (gnum 3) (gcons (gnum a) (gcons (way_type.to b) (selectors_to c)))

  call_to : Call → Gv
  call_to (call a b c) = gcons (gnum 0) (gcons (way_routine.to a) (gcons (gnum b) (arguments_to c)))

  arguments_to : Arguments → Gv
  arguments_to no_arguments = gcons (gnum 0) gnil
  arguments_to (by_value a b) = gcons (gnum 1) (gcons (expression_to a) (arguments_to b))
  arguments_to (by_place a b) = gcons (gnum 2) (gcons (designator_to a) (arguments_to b))

abbrev mutual
  expression_back : Gv → Expression
  expression_back (gcons (gnum zero) a) = Numeral (way_ℤ.back a)
  expression_back (gcons (gnum (suc zero)) a) = Boolean (way_bool.back a)
  expression_back (gcons (gnum (suc (suc zero))) a) = NilOf (way_type.back a)
  expression_back (gcons (gnum (suc (suc (suc zero)))) a) = Read (designator_back a)
  expression_back (gcons (gnum (suc (suc (suc (suc zero))))) a) = Result (call_back a)
  expression_back (gcons (gnum (suc (suc (suc (suc (suc zero)))))) (gcons a (gcons b (gcons c d)))) = Through (call_back a) (num b) (way_type.back c) (selectors_back d)
  expression_back (gcons (gnum (suc (suc (suc (suc (suc (suc zero))))))) a) = Negative (expression_back a)
  expression_back (gcons (gnum (suc (suc (suc (suc (suc (suc (suc zero)))))))) (gcons a (gcons b c))) = Calculated (way_arithmetic.back a) (expression_back b) (expression_back c)
  expression_back (gcons (gnum (suc (suc (suc (suc (suc (suc (suc (suc zero))))))))) (gcons a (gcons b c))) = Compared (way_comparison.back a) (expression_back b) (expression_back c)
  expression_back (gcons (gnum (suc (suc (suc (suc (suc (suc (suc (suc (suc zero)))))))))) a) = Negated (expression_back a)
  expression_back (gcons (gnum (suc (suc (suc (suc (suc (suc (suc (suc (suc (suc zero))))))))))) (gcons a (gcons b c))) = Joined (way_connective.back a) (expression_back b) (expression_back c)
  expression_back _ = Boolean true

  designator_back : Gv → Designator
  designator_back (gcons (gnum zero) (gcons a (gcons b c))) = designator (num a) (way_symbol.back b) (selectors_back c)
  designator_back _ = designator 0 (record { 0 = 0 }) no_selectors

  selectors_back : Gv → Selectors
  selectors_back (gcons (gnum zero) rest) = no_selectors
  selectors_back (gcons (gnum (suc zero)) (gcons a (gcons b c))) = at_index (way_type.back a) (expression_back b) (selectors_back c)
  selectors_back (gcons (gnum (suc (suc zero))) (gcons a (gcons b c))) = at_field (way_type.back a) (way_symbol.back b) (selectors_back c)
  selectors_back (gcons (gnum (suc (suc (suc zero)))) (gcons a (gcons b c))) = at_cell (num a) (way_type.back b) (selectors_back c)
  selectors_back _ = no_selectors

  call_back : Gv → Call
  call_back (gcons (gnum zero) (gcons a (gcons b c))) = call (way_routine.back a) (num b) (arguments_back c)
  call_back _ = call (record { 0 = 0 }) 0 no_arguments

  arguments_back : Gv → Arguments
  arguments_back (gcons (gnum zero) rest) = no_arguments
  arguments_back (gcons (gnum (suc zero)) (gcons a b)) = by_value (expression_back a) (arguments_back b)
  arguments_back (gcons (gnum (suc (suc zero))) (gcons a b)) = by_place (designator_back a) (arguments_back b)
  arguments_back _ = no_arguments

mutual
  pub expression_same : (x : Expression) → expression_back (expression_to x) ≡ x
  expression_same (Numeral a) = λ i. Numeral (way_ℤ.same a i)
  expression_same (Boolean a) = λ i. Boolean (way_bool.same a i)
  expression_same (NilOf a) = λ i. NilOf (way_type.same a i)
  expression_same (Read a) = λ i. Read (designator_same a i)
  expression_same (Result a) = λ i. Result (call_same a i)
  expression_same (Through a b c d) = λ i. Through (call_same a i) b (way_type.same c i) (selectors_same d i)
  expression_same (Negative a) = λ i. Negative (expression_same a i)
  expression_same (Calculated a b c) = λ i. Calculated (way_arithmetic.same a i) (expression_same b i) (expression_same c i)
  expression_same (Compared a b c) = λ i. Compared (way_comparison.same a i) (expression_same b i) (expression_same c i)
  expression_same (Negated a) = λ i. Negated (expression_same a i)
  expression_same (Joined a b c) = λ i. Joined (way_connective.same a i) (expression_same b i) (expression_same c i)

  pub designator_same : (x : Designator) → designator_back (designator_to x) ≡ x
  designator_same (designator a b c) = λ i. designator a (way_symbol.same b i) (selectors_same c i)

  pub selectors_same : (x : Selectors) → selectors_back (selectors_to x) ≡ x
  selectors_same no_selectors = refl
  selectors_same (at_index a b c) = λ i. at_index (way_type.same a i) (expression_same b i) (selectors_same c i)
  selectors_same (at_field a b c) = λ i. at_field (way_type.same a i) (way_symbol.same b i) (selectors_same c i)
  selectors_same (at_cell a b c) = λ i. at_cell a (way_type.same b i) (selectors_same c i)

  pub call_same : (x : Call) → call_back (call_to x) ≡ x
  call_same (call a b c) = λ i. call (way_routine.same a i) b (arguments_same c i)

  pub arguments_same : (x : Arguments) → arguments_back (arguments_to x) ≡ x
  arguments_same no_arguments = refl
  arguments_same (by_value a b) = λ i. by_value (expression_same a i) (arguments_same b i)
  arguments_same (by_place a b) = λ i. by_place (designator_same a i) (arguments_same b i)

abbrev pub way_expression : Way Expression
way_expression = record { to = expression_to; back = expression_back; same = expression_same }

abbrev pub way_designator : Way Designator
way_designator = record { to = designator_to; back = designator_back; same = designator_same }

abbrev pub way_call : Way Call
way_call = record { to = call_to; back = call_back; same = call_same }
