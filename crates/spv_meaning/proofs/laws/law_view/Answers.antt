use Rattle.spv_meaning.proofs.Puts.{below_variable, below_cell}
use Rattle.spv_meaning.proofs.laws.law_view.Goals as goal

pub returns-clause-variables : goal.returns-clause-variables
returns-clause-variables c = below_variable

pub returns-clause-cells : goal.returns-clause-cells
returns-clause-cells c = below_cell
