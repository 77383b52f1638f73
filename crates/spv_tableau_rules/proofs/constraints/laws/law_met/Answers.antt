use Rattle.spv_tableau_rules.proofs.constraints.Meeting.{met_where_true}
use Rattle.spv_tableau_rules.proofs.constraints.Standing.{true_where_standing}
use Rattle.spv_tableau_rules.proofs.constraints.laws.law_met.Goals as goal

pub returns-clause-met : goal.returns-clause-met
returns-clause-met c = met_where_true

pub returns-clause-standing : goal.returns-clause-standing
returns-clause-standing c = true_where_standing
