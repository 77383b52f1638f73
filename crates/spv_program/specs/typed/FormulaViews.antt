-- What the code's formulas are as plain data.
use Rattle.std.specs.Prelude.{List, [], ◌∷◌}
use Rattle.spv_program.specs.declared.typed.formulas.FormulaForm.{FormulaForm}
use Rattle.spv_program.specs.declared.typed.formulas.FormulaForm.TheVariants as form
use Rattle.spv_program.specs.declared.typed.formulas.Annotation.{Annotation as AnnotationText}
use Rattle.spv_program.specs.Formulas.{Formula, Formulas, Annotation, Numeral, Boolean, NilOf, Named, ClassOf, Element, FieldOf, Content, Applied, Known, Negative, Calculated, Compared, Negated, Joined, Implied, no_formulas, formulas}

abbrev pub formulas_of : List Formula → Formulas
formulas_of [] = no_formulas
formulas_of (f ∷ fs) = formulas f (formulas_of fs)

abbrev pub formula_of : FormulaForm → Formula
formula_of (form.Numeral z) = Numeral z
formula_of (form.Boolean b) = Boolean b
formula_of (form.Nil t) = NilOf t
formula_of (form.Named line x) = Named line x
formula_of (form.Class line t) = ClassOf line t
formula_of (form.Element a i) = Element a.value i.value
formula_of (form.Field r f) = FieldOf r.value f
formula_of (form.Content line t q) = Content line t q.value
formula_of (form.Applied f fs) = Applied f (formulas_of fs.items)
formula_of (form.Known b fs) = Known b (formulas_of fs.items)
formula_of (form.Negative f) = Negative f.value
formula_of (form.Calculated o f g) = Calculated o f.value g.value
formula_of (form.Compared o f g) = Compared o f.value g.value
formula_of (form.Negated f) = Negated f.value
formula_of (form.Joined o f g) = Joined o f.value g.value
formula_of (form.Implied f g) = Implied f.value g.value

abbrev pub annotation_of : AnnotationText → Annotation
annotation_of a = record { formula = a.formula; line = a.line }
