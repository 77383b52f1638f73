use Rattle.spv_assignments.proofs.monotonicity.Growing.{literals_grow, uncrossed_grow, over_grows}
use Rattle.spv_assignments.proofs.monotonicity.Valued.{values_grow, values_of_cores, literals_give_values, values_give_literals, values_have_reasons, cited_have_values, orders_make_false}
use Rattle.spv_assignments.proofs.monotonicity.laws.law_known_growth.Goals as goal

pub returns-clause-literals : goal.returns-clause-literals
returns-clause-literals c = literals_grow

pub returns-clause-uncrossed : goal.returns-clause-uncrossed
returns-clause-uncrossed c = uncrossed_grow

pub returns-clause-over : goal.returns-clause-over
returns-clause-over c = over_grows

pub returns-clause-values : goal.returns-clause-values
returns-clause-values c = values_grow

pub returns-clause-cores : goal.returns-clause-cores
returns-clause-cores c = values_of_cores

pub returns-clause-given : goal.returns-clause-given
returns-clause-given c = literals_give_values

pub returns-clause-taken : goal.returns-clause-taken
returns-clause-taken c = values_give_literals

pub returns-clause-reasons : goal.returns-clause-reasons
returns-clause-reasons c = values_have_reasons

pub returns-clause-cited : goal.returns-clause-cited
returns-clause-cited c = cited_have_values

pub returns-clause-orders : goal.returns-clause-orders
returns-clause-orders c = orders_make_false
