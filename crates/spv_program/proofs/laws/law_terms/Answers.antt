use Rattle.spv_program.proofs.FormulaSorting.{scope_sorted, exit_sorted}
use Rattle.spv_program.proofs.ExpressionSorting.{value_sorted, place_sorted}
use Rattle.spv_program.proofs.laws.law_terms.Goals as goal

pub returns-clause-formulas : goal.returns-clause-formulas
returns-clause-formulas c = scope_sorted

pub returns-clause-exits : goal.returns-clause-exits
returns-clause-exits c = exit_sorted

pub returns-clause-expressions : goal.returns-clause-expressions
returns-clause-expressions c = value_sorted

pub returns-clause-places : goal.returns-clause-places
returns-clause-places c = place_sorted
