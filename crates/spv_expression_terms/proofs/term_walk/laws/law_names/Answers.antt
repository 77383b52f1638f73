use Rattle.spv_expression_terms.proofs.term_walk.Tables.{tables_give_formulas, tables_give_exits, tables_give_expressions, tables_give_places}
use Rattle.spv_expression_terms.proofs.term_walk.laws.law_names.Goals as goal

pub returns-clause-formulas : goal.returns-clause-formulas
returns-clause-formulas c = tables_give_formulas

pub returns-clause-exits : goal.returns-clause-exits
returns-clause-exits c = tables_give_exits

pub returns-clause-expressions : goal.returns-clause-expressions
returns-clause-expressions c = tables_give_expressions

pub returns-clause-places : goal.returns-clause-places
returns-clause-places c = tables_give_places
