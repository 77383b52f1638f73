use Rattle.spv_tableau_rules.proofs.pivots.Stepping.{held_point}
use Rattle.spv_tableau_rules.proofs.pivots.Points.{point_solves, only_point}
use Rattle.spv_tableau_rules.proofs.pivots.Directions.{moved_solves}
use Rattle.spv_tableau_rules.proofs.pivots.laws.law_point.Goals as goal

pub returns-clause-solves : goal.returns-clause-solves
returns-clause-solves c = point_solves

pub returns-clause-only : goal.returns-clause-only
returns-clause-only c = only_point

pub returns-clause-moved : goal.returns-clause-moved
returns-clause-moved c = moved_solves

pub returns-clause-held : goal.returns-clause-held
returns-clause-held c = held_point
