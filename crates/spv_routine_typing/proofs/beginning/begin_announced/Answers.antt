use Rattle.spv_heading_typing.proofs.Bridges.{if_stopped}
use Rattle.spv_routine_typing.proofs.Steps.{memory_stops}
use Rattle.spv_routine_typing.proofs.beginning.begin_announced.Goals as goal

pub returns-in_err-own-clause-err : goal.returns-in_err-own-clause-err
returns-in_err-own-clause-err c =
    if_stopped c.from_residual.result _ _ c.from_residual.ensures.1 (λ e is. rw is (memory_stops c.in_err-own.field-0.0 _ c.in_err-own.ensures.err))
