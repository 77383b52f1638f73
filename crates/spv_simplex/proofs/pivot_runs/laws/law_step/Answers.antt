use Rattle.spv_simplex.proofs.pivot_runs.Making.{makes_step}
use Rattle.spv_simplex.proofs.pivot_runs.Going.{step_is_at, move_is_at}
use Rattle.spv_simplex.proofs.pivot_runs.laws.law_step.Goals as goal

pub returns-clause-step : goal.returns-clause-step
returns-clause-step c = makes_step

pub returns-clause-after : goal.returns-clause-after
returns-clause-after c = step_is_at

pub returns-clause-moved : goal.returns-clause-moved
returns-clause-moved c = move_is_at
