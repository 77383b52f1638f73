use Rattle.spv_tableau_rules.proofs.pivots.Directions.{one_solved_form}
use Rattle.spv_tableau_rules.proofs.pivots.laws.law_unique.Goals as goal

pub returns : goal.returns
returns c = record { one_form = one_solved_form }
