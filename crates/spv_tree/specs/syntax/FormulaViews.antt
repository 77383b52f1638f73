-- What the code's formulas are as plain data.
use Rattle.std.specs.Prelude.{ℕ, Option, Some, None}
use Rattle.std.specs.declared.boxed.Box.{Box}
use Rattle.std.specs.Global.{Global}
use Rattle.spv_tree.specs.declared.syntax.operators.Comparison.{Comparison}
use Rattle.spv_tree.specs.declared.syntax.formulas.FormulaForm.{FormulaForm}
use Rattle.spv_tree.specs.declared.syntax.formulas.FormulaForm.TheVariants as form
use Rattle.spv_tree.specs.declared.syntax.formulas.FactorForm.{FactorForm}
use Rattle.spv_tree.specs.declared.syntax.formulas.FactorForm.TheVariants as factor
use Rattle.spv_tree.specs.declared.syntax.formulas.SelectorForm.{SelectorForm}
use Rattle.spv_tree.specs.declared.syntax.formulas.SelectorForm.TheVariants as selector
use Rattle.spv_tree.specs.syntax.Formulas.{Formula, formula, Conclusion, no_conclusion, implies, Simple, RightSide, no_right_side, compared, Factor, number, truth, nil, class, place, application, bracketed, negation, Selector, index, field, content}
use Rattle.spv_tree.specs.syntax.Lines.{items_in, designator_line, relation_line, lone_factor}
use Rattle.spv_tree.specs.syntax.Model.FormulaSizes.{more_formulas_of, selectors_of}

abbrev pub conclusion_of : Option Formula → Conclusion
conclusion_of None = no_conclusion
conclusion_of (Some f) = implies f

abbrev pub formula_of : FormulaForm → Formula
formula_of (form.Factor f) = lone_factor f.value
formula_of (form.Implication a) = formula (relation_line a.value.left) a.value.left (conclusion_of a.value.right)

abbrev pub right_side_of : Option (Box (Comparison × Simple) Global) → RightSide
right_side_of None = no_right_side
right_side_of (Some r) = compared r.value.0 r.value.1

abbrev pub factor_of : FactorForm → Factor
factor_of (factor.Number line n) = number line n
factor_of (factor.Truth line b) = truth line b
factor_of (factor.Nil line) = nil line
factor_of (factor.Class line x) = class line x
factor_of (factor.Place d) = place (designator_line d) d
factor_of (factor.Application f a) = application f.line f a.value.first (more_formulas_of a.value.more.items) (selectors_of a.value.behind.items)
factor_of (factor.Bracketed line f) = bracketed line f
factor_of (factor.Negation line f) = negation line f.value

abbrev pub selector_of : ℕ → SelectorForm → Selector
selector_of line (selector.Index first more) = index line first (more_formulas_of (items_in more))
selector_of line (selector.Field x) = field line x
selector_of line selector.Content = content line
