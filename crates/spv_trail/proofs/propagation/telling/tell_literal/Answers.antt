use Rattle.spv_derivations.proofs.derivation.Bridges.{on_ok}
use Rattle.spv_trail.proofs.propagation.telling.tell_literal.Goals as goal

pub returns-clause-tells : goal.returns-clause-tells
returns-clause-tells c = on_ok c.tell.result c.tell.ensures.told (λ e. record { told_is = e; levels = c.tell.ensures.levels; stays = c.tell.ensures.stays })
