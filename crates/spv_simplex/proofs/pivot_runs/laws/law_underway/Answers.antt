use Rattle.spv_simplex.proofs.pivot_runs.Walking.{underway_stands, none_leaves_meets}
use Rattle.spv_simplex.proofs.pivot_runs.Arriving.{goes_underway, step_is_wide, stuck_is_contradiction, step_is_unfinished}
use Rattle.spv_simplex.proofs.pivot_runs.Bases.{underway_basis}
use Rattle.spv_simplex.proofs.pivot_runs.laws.law_underway.Goals as goal

pub returns-clause-underway : goal.returns-clause-underway
returns-clause-underway c = goes_underway

pub returns-clause-stands : goal.returns-clause-stands
returns-clause-stands c = underway_stands

pub returns-clause-meets : goal.returns-clause-meets
returns-clause-meets c = none_leaves_meets

pub returns-clause-contradiction : goal.returns-clause-contradiction
returns-clause-contradiction c = stuck_is_contradiction

pub returns-clause-wide : goal.returns-clause-wide
returns-clause-wide c = step_is_wide

pub returns-clause-unfinished : goal.returns-clause-unfinished
returns-clause-unfinished c = step_is_unfinished

pub returns-clause-basis : goal.returns-clause-basis
returns-clause-basis c = underway_basis
