-- Formulas and expressions whose numerals are below 2^127.
use Rattle.std.specs.Prelude.{⊤, IsTrue}
use Rattle.spv_logic.specs.declared.operators.Head.TheVariants.{Num}
use Rattle.spv_logic.specs.Sorts.{numeral_fits}
use Rattle.spv_program.specs.Formulas as formula
use Rattle.spv_program.specs.Expressions as expression

abbrev mutual
  pub FormulaFits : formula.Formula → Type 0
  FormulaFits (formula.Numeral z) = IsTrue (numeral_fits (Num z))
  FormulaFits (formula.Boolean b) = ⊤
  FormulaFits (formula.NilOf t) = ⊤
  FormulaFits (formula.Named line x) = ⊤
  FormulaFits (formula.ClassOf line t) = ⊤
  FormulaFits (formula.Element a i) = FormulaFits a × FormulaFits i
  FormulaFits (formula.FieldOf r f) = FormulaFits r
  FormulaFits (formula.Content line t q) = FormulaFits q
  FormulaFits (formula.Applied f fs) = FormulasFit fs
  FormulaFits (formula.Known b fs) = FormulasFit fs
  FormulaFits (formula.Negative f) = FormulaFits f
  FormulaFits (formula.Calculated o f g) = FormulaFits f × FormulaFits g
  FormulaFits (formula.Compared o f g) = FormulaFits f × FormulaFits g
  FormulaFits (formula.Negated f) = FormulaFits f
  FormulaFits (formula.Joined o f g) = FormulaFits f × FormulaFits g
  FormulaFits (formula.Implied f g) = FormulaFits f × FormulaFits g

  pub FormulasFit : formula.Formulas → Type 0
  FormulasFit formula.no_formulas = ⊤
  FormulasFit (formula.formulas f fs) = FormulaFits f × FormulasFit fs

abbrev mutual
  pub ExpressionFits : expression.Expression → Type 0
  ExpressionFits (expression.Numeral z) = IsTrue (numeral_fits (Num z))
  ExpressionFits (expression.Boolean b) = ⊤
  ExpressionFits (expression.NilOf t) = ⊤
  ExpressionFits (expression.Read d) = PlaceFits d
  ExpressionFits (expression.Result c) = ⊤
  ExpressionFits (expression.Through c line t others) = SelectorsFit others
  ExpressionFits (expression.Negative e) = ExpressionFits e
  ExpressionFits (expression.Calculated o a b) = ExpressionFits a × ExpressionFits b
  ExpressionFits (expression.Compared o a b) = ExpressionFits a × ExpressionFits b
  ExpressionFits (expression.Negated e) = ExpressionFits e
  ExpressionFits (expression.Joined o a b) = ExpressionFits a × ExpressionFits b

  pub PlaceFits : expression.Designator → Type 0
  PlaceFits (expression.designator line x others) = SelectorsFit others

  pub SelectorsFit : expression.Selectors → Type 0
  SelectorsFit expression.no_selectors = ⊤
  SelectorsFit (expression.at_index t e others) = ExpressionFits e × SelectorsFit others
  SelectorsFit (expression.at_field t f others) = SelectorsFit others
  SelectorsFit (expression.at_cell line t others) = SelectorsFit others
