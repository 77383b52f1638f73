use Rattle.spv_heading_typing.proofs.Bridges.{if_stopped}
use Rattle.spv_routine_typing.proofs.Steps.{memory_stops}
use Rattle.spv_routine_typing.proofs.beginning.announce_first.Goals as goal

pub returns-in_err-heading-clause-err : goal.returns-in_err-heading-clause-err
returns-in_err-heading-clause-err c =
    if_stopped c.from_residual-in_err-heading.result _ _ c.from_residual-in_err-heading.ensures.1 (λ e is. memory_stops e _ is)

pub returns-in_err-announce-clause-err : goal.returns-in_err-announce-clause-err
returns-in_err-announce-clause-err c =
    if_stopped c.from_residual-in_err-announce.result _ _ c.from_residual-in_err-announce.ensures.1 (λ e is. memory_stops e _ is)
