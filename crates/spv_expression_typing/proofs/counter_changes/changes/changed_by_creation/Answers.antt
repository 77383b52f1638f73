use Rattle.std.proofs.Common.{◌≡◌, Option, IfOk, sym, subst}
use Rattle.spv_logic.specs.declared.names.names.Symbol.{Symbol}
use Rattle.spv_environments.specs.Scopes.{scope_of}
use Rattle.spv_expression_typing.proofs.counter_changes.Statements.{creation_is}
use Rattle.spv_expression_typing.proofs.counter_changes.changes.changed_by_creation.Goals as goal

pub returns : goal.returns
returns c =
    subst (λ (x : Option Symbol). IfOk c.first_changed.result (λ o. o ≡ x)) (sym (creation_is (scope_of c.args.scope.now) c.args.counted.now c.args.line c.args.place.now c.args.of)) c.first_changed.ensures
