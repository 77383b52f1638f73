use Rattle.spv_expression_terms.proofs.term_walk.Filled.{filled_nothing}
use Rattle.spv_expression_terms.proofs.term_walk.Gathered.{value_gathered, place_gathered}
use Rattle.spv_expression_terms.proofs.term_walk.laws.law_gathered.Goals as goal

pub returns-clause-values : goal.returns-clause-values
returns-clause-values c = value_gathered

pub returns-clause-places : goal.returns-clause-places
returns-clause-places c = place_gathered

pub returns-clause-none : goal.returns-clause-none
returns-clause-none c = filled_nothing
