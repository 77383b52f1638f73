use Rattle.std.proofs.Common.{◌≡◌, length, subst, sym, ◌∙◌, rules}
use Rattle.spv_tree.specs.syntax.StatementViews.{given_of}
use Rattle.spv_typing.specs.declared.faults.TypeFault.{TypeFault}
use Rattle.spv_typing.specs.ExpressionWalk.{no_call}
use Rattle.spv_typing.specs.StatementWalk.{arguments_of}
use Rattle.spv_environments.specs.Answers.{Stops}
use Rattle.spv_environments.specs.Scopes.{scope_of}
use Rattle.spv_formula_typing.specs.Arguments.{all_given}
use Rattle.spv_expression_typing.proofs.Callees.{nothing_called, nothing_stops}
use Rattle.spv_expression_typing.proofs.Formals.{given_count}
use Rattle.spv_expression_typing.proofs.calling.no_call.Goals as goal

pub returns-in-Ok : goal.returns-in-Ok
returns-in-Ok c =
    let counted : c.len.result ≡ length c.in-Ok.read.items = search rules in
    subst (λ (e : TypeFault). Stops e (no_call c.args.line c.args.count (arguments_of (scope_of c.args.scope.now) (given_of c.args.given.now)))) (sym c.no_call_fault.ensures)
    (nothing_called (scope_of c.args.scope.now) c.args.line (arguments_of (scope_of c.args.scope.now) (given_of c.args.given.now)) c.args.count (all_given c.in-Ok.read.items) c.len.result
    c.in-Ok.ensures.ok (counted ∙ sym (given_count c.in-Ok.read.items)))

pub returns-in-Err : goal.returns-in-Err
returns-in-Err c =
    nothing_stops (scope_of c.args.scope.now) c.args.line (arguments_of (scope_of c.args.scope.now) (given_of c.args.given.now)) c.args.count c.in-Err.fault c.in-Err.ensures.err
