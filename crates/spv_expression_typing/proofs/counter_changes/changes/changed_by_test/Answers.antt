use Rattle.std.proofs.Common.{◌≡◌, Option, IfOk, sym, subst}
use Rattle.spv_logic.specs.declared.names.names.Symbol.{Symbol}
use Rattle.spv_environments.specs.Scopes.{scope_of}
use Rattle.spv_expression_typing.proofs.counter_changes.Statements.{test_is}
use Rattle.spv_expression_typing.proofs.counter_changes.changes.changed_by_test.Goals as goal

pub returns : goal.returns
returns c =
    subst (λ (x : Option Symbol). IfOk c.first_changed.result (λ o. o ≡ x)) (sym (test_is (scope_of c.args.scope.now) c.args.counted.now c.args.line c.args.test.now)) c.first_changed.ensures
