use Rattle.spv_trail.proofs.trail_states.Resting.{rest_is_open, rest_is_live, full_rest}
use Rattle.spv_trail.proofs.trail_states.laws.law_told_path.Goals as goal

pub returns-clause-open : goal.returns-clause-open
returns-clause-open c = rest_is_open

pub returns-clause-live : goal.returns-clause-live
returns-clause-live c = rest_is_live

pub returns-clause-full : goal.returns-clause-full
returns-clause-full c = full_rest
