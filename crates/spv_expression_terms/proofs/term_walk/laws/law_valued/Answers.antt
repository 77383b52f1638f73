use Rattle.spv_expression_terms.proofs.term_walk.Values.{value_is, place_is, terms_are_present}
use Rattle.spv_expression_terms.proofs.term_walk.laws.law_valued.Goals as goal

pub returns-clause-values : goal.returns-clause-values
returns-clause-values c = value_is

pub returns-clause-places : goal.returns-clause-places
returns-clause-places c = place_is

pub returns-clause-present : goal.returns-clause-present
returns-clause-present c = terms_are_present
