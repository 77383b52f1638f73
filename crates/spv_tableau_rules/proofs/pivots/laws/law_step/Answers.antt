use Rattle.spv_tableau_rules.proofs.pivots.Stepping.{step_moves, inside_moves}
use Rattle.spv_tableau_rules.proofs.pivots.laws.law_step.Goals as goal

pub returns-clause-step : goal.returns-clause-step
returns-clause-step c = step_moves

pub returns-clause-inside : goal.returns-clause-inside
returns-clause-inside c = inside_moves
