use Rattle.spv_expression_terms.proofs.term_walk.Listed.{none_listed, none_in_place, makes_none, place_makes_none}
use Rattle.spv_expression_terms.proofs.term_walk.laws.law_calls.Goals as goal

pub returns-clause-expressions : goal.returns-clause-expressions
returns-clause-expressions c = λ e. (none_listed e, makes_none e)

pub returns-clause-places : goal.returns-clause-places
returns-clause-places c = λ d. (none_in_place d, place_makes_none d)
