use Rattle.std.proofs.Common.{◌≡◌, Ok, IfOk, IfErr, subst, sym, refl, rules}
use Rattle.spv_tree.specs.syntax.StatementViews.{given_of}
use Rattle.spv_program.specs.Expressions.{Call}
use Rattle.spv_typing.specs.Outcomes.{Outcome}
use Rattle.spv_typing.specs.ExpressionWalk.{call_of}
use Rattle.spv_typing.specs.StatementWalk.{arguments_of}
use Rattle.spv_environments.specs.Answers.{Stops}
use Rattle.spv_environments.specs.Scopes.{scope_of}
use Rattle.spv_environments.specs.Views.{heading_of}
use Rattle.spv_formula_typing.specs.Arguments.{all_given}
use Rattle.spv_expression_typing.specs.declared.callee.Callee.TheVariants as callee
use Rattle.spv_expression_typing.specs.Applied.{way_in}
use Rattle.spv_expression_typing.proofs.Callees.{call_is, call_stops}
use Rattle.spv_expression_typing.proofs.calling.call.Goals as goal

pub returns-in_err-read-clause-err : goal.returns-in_err-read-clause-err
returns-in_err-read-clause-err c =
    let stopped : Stops c.in_err-read.field-0.0 (call_of (scope_of c.args.scope.now) c.args.line c.args.at (heading_of c.args.name c.args.heading.now) (arguments_of (scope_of c.args.scope.now) (given_of c.args.given.now))) =
    call_stops (scope_of c.args.scope.now) c.args.line (arguments_of (scope_of c.args.scope.now) (given_of c.args.given.now)) c.args.at c.args.name c.args.heading.now
    (way_in (callee.Routine c.args.name c.args.heading)) (λ m. refl) c.in_err-read.field-0.0 c.in_err-read.ensures.err in
    search rules

pub returns-clause-ok : goal.returns-clause-ok
returns-clause-ok c =
    subst (λ (o : Outcome Call). IfOk c.call_with.result (λ r. o ≡ Ok r))
    (sym (call_is (scope_of c.args.scope.now) c.args.line (arguments_of (scope_of c.args.scope.now) (given_of c.args.given.now)) c.args.at c.args.name c.args.heading.now
    (way_in (callee.Routine c.args.name c.args.heading)) (λ m. refl) (all_given c.in_ok-read.read.items) c.in_ok-read.ensures.ok))
    c.call_with.ensures.ok

pub returns-clause-err : goal.returns-clause-err
returns-clause-err c =
    subst (λ (o : Outcome Call). IfErr c.call_with.result (λ e. Stops e o))
    (sym (call_is (scope_of c.args.scope.now) c.args.line (arguments_of (scope_of c.args.scope.now) (given_of c.args.given.now)) c.args.at c.args.name c.args.heading.now
    (way_in (callee.Routine c.args.name c.args.heading)) (λ m. refl) (all_given c.in_ok-read.read.items) c.in_ok-read.ensures.ok))
    c.call_with.ensures.err
