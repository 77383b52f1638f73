use Rattle.spv_expression_terms.proofs.makeable_terms.Sorting.{formula_sorted, exit_sorted, expression_sorted, place_sorted, valued_sorted}
use Rattle.spv_expression_terms.proofs.makeable_terms.laws.law_sorted.Goals as goal

pub returns-clause-formulas : goal.returns-clause-formulas
returns-clause-formulas c = formula_sorted

pub returns-clause-exits : goal.returns-clause-exits
returns-clause-exits c = exit_sorted

pub returns-clause-expressions : goal.returns-clause-expressions
returns-clause-expressions c = expression_sorted

pub returns-clause-places : goal.returns-clause-places
returns-clause-places c = place_sorted

pub returns-clause-values : goal.returns-clause-values
returns-clause-values c = valued_sorted
