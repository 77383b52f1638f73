-- How large formulas are: larger than each of their parts.
use Rattle.std.specs.Prelude.{ℕ, suc, ◌+◌}
use Rattle.spv_program.specs.Formulas.{Formula, Formulas, Numeral, Boolean, NilOf, Named, ClassOf, Element, FieldOf, Content, Applied, Known, Negative, Calculated, Compared, Negated, Joined, Implied, no_formulas, formulas}

abbrev mutual
  pub formula_size : Formula → ℕ
  formula_size (Numeral z) = 1
  formula_size (Boolean b) = 1
  formula_size (NilOf t) = 1
  formula_size (Named line x) = 1
  formula_size (ClassOf line t) = 1
  formula_size (Element a i) = suc (formula_size a + formula_size i)
  formula_size (FieldOf r f) = suc (formula_size r)
  formula_size (Content line t q) = suc (formula_size q)
  formula_size (Applied f fs) = suc (formulas_size fs)
  formula_size (Known b fs) = suc (formulas_size fs)
  formula_size (Negative f) = suc (formula_size f)
  formula_size (Calculated o f g) = suc (formula_size f + formula_size g)
  formula_size (Compared o f g) = suc (formula_size f + formula_size g)
  formula_size (Negated f) = suc (formula_size f)
  formula_size (Joined o f g) = suc (formula_size f + formula_size g)
  formula_size (Implied f g) = suc (formula_size f + formula_size g)

  pub formulas_size : Formulas → ℕ
  formulas_size no_formulas = 0
  formulas_size (formulas f fs) = formula_size f + formulas_size fs
