use Rattle.spv_tableau_rules.proofs.constraints.Values.{difference-value, row_worth}
use Rattle.std.proofs.Common.{pos}
use Rattle.spv_tableau_rules.proofs.constraints.laws.law_difference.Goals as goal

pub returns-clause-difference : goal.returns-clause-difference
returns-clause-difference c = λ value s t n. difference-value value s t (pos n)

pub returns-clause-row : goal.returns-clause-row
returns-clause-row c = row_worth
