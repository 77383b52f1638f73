use Rattle.spv_tableau_rules.proofs.constraints.Bounding.{bound_is_on, bound_on_row}
use Rattle.spv_tableau_rules.proofs.constraints.laws.law_bounds.Goals as goal

pub returns-clause-on : goal.returns-clause-on
returns-clause-on c = bound_is_on

pub returns-clause-row : goal.returns-clause-row
returns-clause-row c = bound_on_row
