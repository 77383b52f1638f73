use Rattle.spv_heading_typing.proofs.Bridges.{if_stopped}
use Rattle.spv_routine_typing.proofs.Steps.{memory_stops}
use Rattle.spv_routine_typing.proofs.row.routines.Goals as goal

pub returns-in_err-bodies-clause-err : goal.returns-in_err-bodies-clause-err
returns-in_err-bodies-clause-err c =
    if_stopped c.from_residual.result _ _ c.from_residual.ensures.1 (λ e is. rw is (memory_stops c.in_err-bodies.field-0.0 _ c.in_err-bodies.ensures.err))
