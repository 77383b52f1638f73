use Rattle.spv_tableau_rules.proofs.constraints.Placing.{place_of_row, place_there, rows_in}
use Rattle.spv_tableau_rules.proofs.constraints.laws.law_rows.Goals as goal

pub returns-clause-of_row : goal.returns-clause-of_row
returns-clause-of_row c = place_of_row

pub returns-clause-there : goal.returns-clause-there
returns-clause-there c = place_there

pub returns-clause-in_range : goal.returns-clause-in_range
returns-clause-in_range c = rows_in
