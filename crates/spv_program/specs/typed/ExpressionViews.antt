-- What the code's expressions are as plain data.
use Rattle.std.specs.Prelude.{List, [], ◌∷◌}
use Rattle.spv_program.specs.declared.typed.expressions.ExpressionForm.{ExpressionForm}
use Rattle.spv_program.specs.declared.typed.expressions.ExpressionForm.TheVariants as form
use Rattle.spv_program.specs.declared.typed.expressions.Selector.{Selector}
use Rattle.spv_program.specs.declared.typed.expressions.Selector.TheVariants as selector
use Rattle.spv_program.specs.declared.typed.expressions.Argument.{Argument}
use Rattle.spv_program.specs.declared.typed.expressions.Argument.TheVariants as argument
use Rattle.spv_program.specs.Expressions.{Expression, Selectors, Arguments, Numeral, Boolean, NilOf, Read, Result, Through, Negative, Calculated, Compared, Negated, Joined, no_selectors, at_index, at_field, at_cell, no_arguments, by_value, by_place}

abbrev pub selector_before : Selector → Selectors → Selectors
selector_before (selector.Index t e) others = at_index t e.value others
selector_before (selector.Field t f) others = at_field t f others
selector_before (selector.Cell line t) others = at_cell line t others

abbrev pub selectors_of : List Selector → Selectors
selectors_of [] = no_selectors
selectors_of (s ∷ selectors) = selector_before s (selectors_of selectors)

abbrev pub argument_before : Argument → Arguments → Arguments
argument_before (argument.Value e) others = by_value e.value others
argument_before (argument.Place d) others = by_place d others

abbrev pub arguments_of : List Argument → Arguments
arguments_of [] = no_arguments
arguments_of (a ∷ arguments) = argument_before a (arguments_of arguments)

abbrev pub expression_of : ExpressionForm → Expression
expression_of (form.Numeral z) = Numeral z
expression_of (form.Boolean b) = Boolean b
expression_of (form.Nil t) = NilOf t
expression_of (form.Read d) = Read d
expression_of (form.Result c) = Result c
expression_of (form.Through t) = Through t.value.call t.value.line t.value.of (selectors_of t.value.selectors.items)
expression_of (form.Negative e) = Negative e.value
expression_of (form.Calculated o a b) = Calculated o a.value b.value
expression_of (form.Compared o a b) = Compared o a.value b.value
expression_of (form.Negated e) = Negated e.value
expression_of (form.Joined o a b) = Joined o a.value b.value
