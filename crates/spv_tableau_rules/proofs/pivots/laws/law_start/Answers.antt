use Rattle.spv_tableau_rules.proofs.pivots.Starting.{rows_are_solved}
use Rattle.spv_tableau_rules.proofs.pivots.laws.law_start.Goals as goal

pub returns : goal.returns
returns c = record { rows = rows_are_solved }
