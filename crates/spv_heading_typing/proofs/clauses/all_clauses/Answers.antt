use Rattle.spv_heading_typing.specs.Starts.{starts_of}
use Rattle.spv_heading_typing.proofs.Bridges.{if_stopped}
use Rattle.spv_heading_typing.proofs.Items.{clauses_stop}
use Rattle.spv_heading_typing.proofs.clauses.all_clauses.Goals as goal

pub returns-in_err-entry-clause-err : goal.returns-in_err-entry-clause-err
returns-in_err-entry-clause-err c =
    if_stopped c.from_residual-in_err-entry.result _ _ c.from_residual-in_err-entry.ensures.1
    (λ e is. rw is
    (clauses_stop c.args.known.now c.args.routine c.args.parameters.now c.args.of c.args.tree.now c.in_ok-globals.globals (starts_of c.in_ok-starts.starts) c.in_err-entry.field-0.0
    c.in_ok-globals.ensures.ok c.in_ok-starts.ensures.ok c.in_err-entry.ensures.err))
