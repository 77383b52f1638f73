use Rattle.std.proofs.Common.{◌≡◌, Option, IfOk, sym, subst}
use Rattle.spv_logic.specs.declared.names.names.Symbol.{Symbol}
use Rattle.spv_environments.specs.Scopes.{scope_of}
use Rattle.spv_expression_typing.proofs.counter_changes.Statements.{call_with}
use Rattle.spv_expression_typing.proofs.counter_changes.changes.changed_by_call.Goals as goal

pub returns : goal.returns
returns c =
    subst (λ (x : Option Symbol). IfOk c.first_changed.result (λ o. o ≡ x)) (sym (call_with (scope_of c.args.scope.now) c.args.counted.now c.args.call.now c.call.inside.routine c.call.inside.line c.call.inside.arguments.items c.as_slice.result.now c.call.view_is c.as_slice.ensures.value)) c.first_changed.ensures
