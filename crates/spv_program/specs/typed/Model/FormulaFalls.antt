-- A formula is larger than each of its parts.
use Rattle.std.specs.Prelude.{◌+◌, ◌≤◌, max, List, [], ◌∷◌}
use Rattle.std.proofs.Common.{arith}
use denote.Param.Weighed.{most}
use Rattle.spv_program.specs.declared.typed.formulas.Formula.TheInside as formula
use Rattle.spv_program.specs.declared.typed.formulas.FormulaForm.{FormulaForm}
use Rattle.spv_program.specs.declared.typed.formulas.FormulaForm.TheVariants as form
use Rattle.spv_program.specs.declared.typed.formulas.Formula.TheDeep.{deep-FormulaForm, deep-Formula}
use Rattle.spv_program.specs.Formulas.{Formula}
use Rattle.spv_program.specs.typed.Model.FormulaSizes.{formula_size, formulas_size}
use Rattle.spv_program.specs.typed.FormulaViews.{formulas_of, formula_of}

most_formulas : (fs : List Formula) → most (λ f. formula_size f + 1) fs ≤ formulas_size (formulas_of fs) + 1
most_formulas [] = omega arith
most_formulas (f ∷ fs) = omega (arith, most_formulas fs)

form_falls : (f : FormulaForm) → max (deep-FormulaForm f) 0 ≤ formula_size (formula_of f)
form_falls (form.Numeral z) = omega arith
form_falls (form.Boolean b) = omega arith
form_falls (form.Nil t) = omega arith
form_falls (form.Named line x) = omega arith
form_falls (form.Class line t) = omega arith
form_falls (form.Element a i) = omega arith
form_falls (form.Field r f) = omega arith
form_falls (form.Content line t q) = omega arith
form_falls (form.Applied f fs) = omega (arith, most_formulas fs.items)
form_falls (form.Known b fs) = omega (arith, most_formulas fs.items)
form_falls (form.Negative f) = omega arith
form_falls (form.Calculated o f g) = omega arith
form_falls (form.Compared o f g) = omega arith
form_falls (form.Negated f) = omega arith
form_falls (form.Joined o f g) = omega arith
form_falls (form.Implied f g) = omega arith

pub formula_falls : (a : formula.Inside) → deep-Formula a ≤ formula_size (formula_of a.form)
formula_falls a = form_falls a.form
