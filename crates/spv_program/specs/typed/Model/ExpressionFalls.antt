-- An expression is larger than each of its parts.
use Rattle.std.specs.Prelude.{suc, ◌+◌, ◌≤◌, max, List, [], ◌∷◌}
use Rattle.std.proofs.Common.{arith}
use denote.Param.Weighed.{most}
use Rattle.spv_program.specs.declared.typed.expressions.Expression.TheInside as expression
use Rattle.spv_program.specs.declared.typed.expressions.Designator.TheInside as designator
use Rattle.spv_program.specs.declared.typed.expressions.Call.TheInside as call
use Rattle.spv_program.specs.declared.typed.expressions.ExpressionForm.{ExpressionForm}
use Rattle.spv_program.specs.declared.typed.expressions.ExpressionForm.TheVariants as form
use Rattle.spv_program.specs.declared.typed.expressions.Selector.{Selector}
use Rattle.spv_program.specs.declared.typed.expressions.Selector.TheVariants as selector
use Rattle.spv_program.specs.declared.typed.expressions.Argument.{Argument}
use Rattle.spv_program.specs.declared.typed.expressions.Argument.TheVariants as argument
use Rattle.spv_program.specs.declared.typed.expressions.Call.TheDeep.{deep-ExpressionForm, deep-Selector, deep-Argument, deep-Expression, deep-Designator, deep-Call}
use Rattle.spv_program.specs.typed.Model.ExpressionSizes.{expression_size, selectors_size, arguments_size}
use Rattle.spv_program.specs.typed.ExpressionViews.{selectors_of, arguments_of, expression_of}

most_selectors : (ss : List Selector) → most deep-Selector ss ≤ selectors_size (selectors_of ss) + 1
most_selectors [] = omega arith
most_selectors (selector.Index t e ∷ ss) = omega (arith, most_selectors ss)
most_selectors (selector.Field t f ∷ ss) = omega (arith, most_selectors ss)
most_selectors (selector.Cell line t ∷ ss) = omega (arith, most_selectors ss)

most_arguments : (xs : List Argument) → most deep-Argument xs ≤ arguments_size (arguments_of xs) + 1
most_arguments [] = omega arith
most_arguments (argument.Value e ∷ xs) = omega (arith, most_arguments xs)
most_arguments (argument.Place d ∷ xs) = omega (arith, most_arguments xs)

form_falls : (e : ExpressionForm) → max (deep-ExpressionForm e) 0 ≤ expression_size (expression_of e)
form_falls (form.Numeral z) = omega arith
form_falls (form.Boolean b) = omega arith
form_falls (form.Nil t) = omega arith
form_falls (form.Read d) = omega arith
form_falls (form.Result c) = omega arith
form_falls (form.Through t) = omega (arith, most_selectors t.value.selectors.items)
form_falls (form.Negative e) = omega arith
form_falls (form.Calculated o a b) = omega arith
form_falls (form.Compared o a b) = omega arith
form_falls (form.Negated e) = omega arith
form_falls (form.Joined o a b) = omega arith

pub expression_falls : (a : expression.Inside) → deep-Expression a ≤ expression_size (expression_of a.form)
expression_falls a = form_falls a.form

pub designator_falls : (a : designator.Inside) → deep-Designator a ≤ suc (selectors_size (selectors_of a.selectors.items))
designator_falls a = omega (arith, most_selectors a.selectors.items)

pub call_falls : (a : call.Inside) → deep-Call a ≤ suc (arguments_size (arguments_of a.arguments.items))
call_falls a = omega (arith, most_arguments a.arguments.items)
