use Rattle.spv_program.specs.Terms.{formula_term}
use Rattle.spv_expression_terms.specs.term_walk.ExpressionTerms.{expression_term, place_term}
use Rattle.spv_expression_terms.proofs.term_walk.Fitting.{formula_small, expression_small, place_small, makeable}
use Rattle.spv_expression_terms.proofs.term_walk.laws.law_makeable.Goals as goal

pub returns-clause-formulas : goal.returns-clause-formulas
returns-clause-formulas c = λ shapes decls heads f n h w. makeable shapes decls (formula_term heads f) w (formula_small heads n.no_numerals f h)

pub returns-clause-expressions : goal.returns-clause-expressions
returns-clause-expressions c = λ shapes decls heads e n h w. makeable shapes decls (expression_term heads e) w (expression_small heads n.no_numerals e h)

pub returns-clause-places : goal.returns-clause-places
returns-clause-places c = λ shapes decls heads d n h w. makeable shapes decls (place_term heads d) w (place_small heads n.no_numerals d h)
