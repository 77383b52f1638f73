use Rattle.std.proofs.Common.{◌≡◌, List, Some, Ok, IfOk, IfErr, refl, subst}
use Rattle.spv_typing.specs.OperatorWalk.{Argument}
use Rattle.spv_program.specs.Expressions.{Expression}
use Rattle.spv_typing.specs.ExpressionWalk.{Reached}
use Rattle.spv_environments.specs.Answers.{Stops}
use Rattle.spv_environments.specs.Scopes.{scope_of}
use Rattle.spv_formula_typing.specs.Arguments.{given_as, all_given}
use Rattle.spv_expression_typing.specs.Applied.{way_in}
use Rattle.spv_expression_typing.proofs.Texts.{given_texts}
use Rattle.spv_expression_typing.proofs.calling.some_arguments.Goals as goal

pub returns-clause-ok : goal.returns-clause-ok
returns-clause-ok c =
    subst (λ (l : List (Argument Expression Reached)). IfOk c.arguments.result (λ gs. given_as (way_in c.args.callee) 0 l ≡ Ok (all_given gs.items)))
    (given_texts (scope_of c.args.scope.now) (Some c.args.given.now) c.args.given.now c.as_slice.result.now refl c.as_slice.ensures) c.arguments.ensures.ok

pub returns-clause-err : goal.returns-clause-err
returns-clause-err c =
    subst (λ (l : List (Argument Expression Reached)). IfErr c.arguments.result (λ e. Stops e (given_as (way_in c.args.callee) 0 l)))
    (given_texts (scope_of c.args.scope.now) (Some c.args.given.now) c.args.given.now c.as_slice.result.now refl c.as_slice.ensures) c.arguments.ensures.err
