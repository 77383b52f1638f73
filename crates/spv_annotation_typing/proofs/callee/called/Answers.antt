use Rattle.std.proofs.Common.{ap, sym, ◌∙◌, option_map}
use Rattle.spv_typing.specs.Outcomes.{after}
use Rattle.spv_typing.specs.FormulaWalk.{Sorted}
use Rattle.spv_environments.specs.Views.{function_of}
use Rattle.spv_environments.specs.Scopes.{scope_of}
use Rattle.spv_formula_typing.specs.Arguments.{given_as}
use Rattle.spv_annotation_typing.specs.declared.callee.Callee.{Callee}
use Rattle.spv_annotation_typing.specs.Applied.{way_in, applied_to}
use Rattle.spv_annotation_typing.proofs.Calling.{function_called, meaning_called}
use Rattle.spv_annotation_typing.proofs.callee.called.Goals as goal

pub returns-in-Some-clause-ok : goal.returns-in-Some-clause-ok
returns-in-Some-clause-ok c = λ given.
    function_called (scope_of c.args.scope.now) c.args.line c.args.x c.in-Some.b (sym c.function.ensures ∙ ap (option_map function_of) c.in-Some.is) given
    ∙ ap (λ (r : Callee). after (given_as (way_in r) 0 given) (applied_to {S = Sorted} (scope_of c.args.scope.now) c.args.line r)) (sym c.called_function.ensures)

pub returns-in-None-clause-ok : goal.returns-in-None-clause-ok
returns-in-None-clause-ok c =
    meaning_called (scope_of c.args.scope.now) c.args.line c.args.x c.meaning.result c.called_meaning.result
    (sym c.function.ensures ∙ ap (option_map function_of) c.in-None.is) c.meaning.ensures c.called_meaning.ensures
