-- How many works it takes to go through something.
use Rattle.std.specs.Prelude.{ℕ, suc, ◌+◌, Option, Some, None}
use Rattle.spv_program.specs.Expressions.{Expression, Designator, Selectors, Call, Arguments, Numeral, Boolean, NilOf, Read, Result, Through, Negative, Calculated, Compared, Negated, Joined, designator, no_selectors, at_index, at_field, at_cell, call, no_arguments, by_value, by_place}
use Rattle.spv_program.specs.Formulas as formula
use Rattle.spv_program.specs.Formulas.{Formula, Formulas, Annotation, no_formulas, formulas}
use Rattle.spv_program.specs.Statements.{Statement, Arms, Empty, Assign, Perform, New, Sequence, If, Case, While, Repeat, For, Assert, no_arms, arm}

abbrev mutual
  pub expression_weight : Expression → ℕ
  expression_weight (Numeral z) = 1
  expression_weight (Boolean b) = 1
  expression_weight (NilOf t) = 1
  expression_weight (Read d) = suc (designator_weight d)
  expression_weight (Result c) = suc (call_weight c)
  expression_weight (Through c line t others) = suc (call_weight c + suc (selectors_weight others))
  expression_weight (Negative e) = suc (expression_weight e)
  expression_weight (Calculated o a b) = suc (expression_weight a + expression_weight b)
  expression_weight (Compared o a b) = suc (expression_weight a + expression_weight b)
  expression_weight (Negated e) = suc (expression_weight e)
  expression_weight (Joined o a b) = suc (expression_weight a + expression_weight b)

  pub designator_weight : Designator → ℕ
  designator_weight (designator line x others) = suc (suc (selectors_weight others))

  pub selectors_weight : Selectors → ℕ
  selectors_weight no_selectors = 1
  selectors_weight (at_index t e others) = suc (expression_weight e + selectors_weight others)
  selectors_weight (at_field t f others) = suc (selectors_weight others)
  selectors_weight (at_cell line t others) = suc (suc (selectors_weight others))

  pub call_weight : Call → ℕ
  call_weight (call r line arguments) = suc (arguments_weight arguments + 1)

  pub arguments_weight : Arguments → ℕ
  arguments_weight no_arguments = 1
  arguments_weight (by_value e others) = suc (expression_weight e + arguments_weight others)
  arguments_weight (by_place d others) = suc (designator_weight d + arguments_weight others)

abbrev mutual
  pub formula_weight : Formula → ℕ
  formula_weight (formula.Numeral z) = 1
  formula_weight (formula.Boolean b) = 1
  formula_weight (formula.NilOf t) = 1
  formula_weight (formula.Named line x) = 2
  formula_weight (formula.ClassOf line t) = 2
  formula_weight (formula.Element a i) = suc (formula_weight a + formula_weight i)
  formula_weight (formula.FieldOf r f) = suc (formula_weight r)
  formula_weight (formula.Content line t q) = suc (formula_weight q + 1)
  formula_weight (formula.Applied f fs) = suc (formulas_weight fs)
  formula_weight (formula.Known b fs) = suc (formulas_weight fs)
  formula_weight (formula.Negative f) = suc (formula_weight f)
  formula_weight (formula.Calculated o f g) = suc (formula_weight f + formula_weight g)
  formula_weight (formula.Compared o f g) = suc (formula_weight f + formula_weight g)
  formula_weight (formula.Negated f) = suc (formula_weight f)
  formula_weight (formula.Joined o f g) = suc (formula_weight f + formula_weight g)
  formula_weight (formula.Implied f g) = suc (formula_weight f + formula_weight g)

  pub formulas_weight : Formulas → ℕ
  formulas_weight no_formulas = 1
  formulas_weight (formulas f fs) = suc (formula_weight f + formulas_weight fs)

abbrev pub annotation_weight : Option Annotation → ℕ
annotation_weight None = 1
annotation_weight (Some a) = suc (formula_weight a.formula)

-- what stands in a statement; a block is a chain, which is gone through as one
abbrev mutual
  pub statement_weight : Statement → ℕ
  statement_weight Empty = 1
  statement_weight (Assign d e) = designator_weight d + expression_weight e
  statement_weight (Perform c) = call_weight c
  statement_weight (New line d t) = designator_weight d + 1
  statement_weight (Sequence a b) = suc (suc (statement_weight a + statement_weight b))
  statement_weight (If line e a b) = expression_weight e + (suc (statement_weight a) + suc (statement_weight b))
  statement_weight (Case line e arms) = expression_weight e + arms_weight arms
  statement_weight (While line f e s) = annotation_weight f + (expression_weight e + suc (statement_weight s))
  statement_weight (Repeat line f s e) = annotation_weight f + (suc (statement_weight s) + expression_weight e)
  statement_weight (For line f count s) =
      annotation_weight f + (suc (suc (expression_weight count.first + expression_weight count.last)) + suc (statement_weight s))
  statement_weight (Assert a) = formula_weight a.formula

  pub arms_weight : Arms → ℕ
  arms_weight no_arms = 1
  arms_weight (arm labels s others) = suc (suc (statement_weight s) + arms_weight others)
