use Rattle.spv_tableau_rules.proofs.constraints.Standing.{equal_where_true, true_where_equal}
use Rattle.spv_tableau_rules.proofs.constraints.laws.law_equal.Goals as goal

pub returns-clause-equal : goal.returns-clause-equal
returns-clause-equal c = equal_where_true

pub returns-clause-true_where : goal.returns-clause-true_where
returns-clause-true_where c = true_where_equal
