use Rattle.std.proofs.Common.{rules}
use Rattle.spv_typing.specs.StatementWalk.{new_label, new_labels}
use Rattle.spv_environments.specs.Answers.{Stops}
use Rattle.spv_environments.specs.Scopes.{scope_of}
use Rattle.spv_statement_typing.proofs.Loops.{label_stops}
use Rattle.spv_statement_typing.proofs.labels.arm_labels.Goals as goal

pub returns-in_err-next-clause-err : goal.returns-in_err-next-clause-err
returns-in_err-next-clause-err c =
    let stopped : Stops c.in_err-next.field-0.0 (new_labels (scope_of c.args.scope.now) c.args.seen.now c.args.trees.now) =
    label_stops (new_label (scope_of c.args.scope.now)) c.loop-other.seen c.as_slice-other-items.result.now c.loop-other.other-index c.other-item.result c.in_err-next.field-0.0
    _ c.loop-other-test.true c.other-item.is c.loop-other.invariant.0 c.in_err-next.ensures.err in
    search rules
