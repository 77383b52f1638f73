use Rattle.spv_simplex.proofs.pivot_runs.Placing.{placing_is_wide}
use Rattle.spv_simplex.proofs.pivot_runs.Walking.{placed_stands}
use Rattle.spv_simplex.proofs.pivot_runs.laws.law_placed.Goals as goal

pub returns-clause-stands : goal.returns-clause-stands
returns-clause-stands c = placed_stands

pub returns-clause-wide : goal.returns-clause-wide
returns-clause-wide c = placing_is_wide
