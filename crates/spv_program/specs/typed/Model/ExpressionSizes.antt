-- How large expressions are: larger than each of their parts.
use Rattle.std.specs.Prelude.{ℕ, suc, ◌+◌}
use Rattle.spv_program.specs.Expressions.{Expression, Designator, Selectors, Call, Arguments, Numeral, Boolean, NilOf, Read, Result, Through, Negative, Calculated, Compared, Negated, Joined, designator, no_selectors, at_index, at_field, at_cell, call, no_arguments, by_value, by_place}

abbrev mutual
  pub expression_size : Expression → ℕ
  expression_size (Numeral z) = 1
  expression_size (Boolean b) = 1
  expression_size (NilOf t) = 1
  expression_size (Read d) = suc (designator_size d)
  expression_size (Result c) = suc (call_size c)
  expression_size (Through c line t others) = suc (call_size c + selectors_size others)
  expression_size (Negative e) = suc (expression_size e)
  expression_size (Calculated o a b) = suc (expression_size a + expression_size b)
  expression_size (Compared o a b) = suc (expression_size a + expression_size b)
  expression_size (Negated e) = suc (expression_size e)
  expression_size (Joined o a b) = suc (expression_size a + expression_size b)

  pub designator_size : Designator → ℕ
  designator_size (designator line x others) = suc (selectors_size others)

  pub selectors_size : Selectors → ℕ
  selectors_size no_selectors = 0
  selectors_size (at_index t e others) = suc (expression_size e + selectors_size others)
  selectors_size (at_field t f others) = suc (selectors_size others)
  selectors_size (at_cell line t others) = suc (selectors_size others)

  pub call_size : Call → ℕ
  call_size (call r line arguments) = suc (arguments_size arguments)

  pub arguments_size : Arguments → ℕ
  arguments_size no_arguments = 0
  arguments_size (by_value e others) = suc (expression_size e + arguments_size others)
  arguments_size (by_place d others) = suc (designator_size d + arguments_size others)
