use Rattle.std.proofs.Common.{◌≡◌, Option, IfOk, sym, subst, length, None, rules}
use Rattle.spv_logic.specs.declared.names.names.Symbol.{Symbol}
use Rattle.spv_environments.specs.Scopes.{scope_of}
use Rattle.spv_expression_typing.proofs.counter_changes.Statements.{head_is}
use Rattle.spv_program.specs.Statements.{For, Empty}
use Rattle.spv_program.specs.typed.StatementViews.{counting_of}
use Rattle.spv_typing.specs.StatementWalk.{own_in, changes}
use Rattle.spv_expression_typing.proofs.counter_changes.Counters.{none_counted}
use Rattle.spv_expression_typing.proofs.counter_changes.changes.changed_by_head.Goals as goal

pub returns : goal.returns
returns c =
    subst (λ (x : Option Symbol). IfOk c.first_changed.result (λ o. o ≡ x)) (sym (head_is (scope_of c.args.scope.now) c.args.counted.now c.args.line (counting_of c.args.head.now))) c.first_changed.ensures

pub returns-then-is_empty : goal.returns-then-is_empty
returns-then-is_empty c =
    let empty : length c.args.counted.now ≡ 0 = search rules in
    sym (none_counted (own_in (scope_of c.args.scope.now)) c.args.counted.now (changes (scope_of c.args.scope.now) (For c.args.line None (counting_of c.args.head.now) Empty)) empty)
