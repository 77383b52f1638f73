use Rattle.std.proofs.Common.{◌+◌, ◌*◌, drop}
use Rattle.spv_program.specs.Terms.{formula_terms}
use Rattle.spv_program.specs.typed.FormulaViews.{formulas_of}
use Rattle.spv_program.specs.typed.Model.FormulaSizes.{formula_size, formulas_size}
use Rattle.spv_expression_terms.specs.term_walk.Names.{head_in}
use Rattle.spv_expression_terms.specs.term_walk.Numerals.{FormulasFit}
use Rattle.spv_expression_terms.specs.term_walk.Written.{written_all}
use Rattle.spv_expression_terms.proofs.term_walk.Lists.{ComeTo}
use Rattle.spv_expression_terms.proofs.term_walk.formulas.+formulas.Given as goal

abbrev pub decreases-formula : goal.decreases-formula
decreases-formula l = 4 * formula_size l.f.now

abbrev pub decreases-one : goal.decreases-one
decreases-one l = 4 * formula_size l.f.now + 1

abbrev pub decreases-two : goal.decreases-two
decreases-two l = 4 * (formula_size l.f.now + formula_size l.g.now) + 1

abbrev pub decreases-different : goal.decreases-different
decreases-different l = 4 * (formula_size l.f.now + formula_size l.g.now) + 2

abbrev pub decreases-compared : goal.decreases-compared
decreases-compared l = 4 * (formula_size l.f.now + formula_size l.g.now) + 3

abbrev pub decreases-operands : goal.decreases-operands
decreases-operands l = 4 * formulas_size (formulas_of l.fs.now) + 1

abbrev pub decreases-all : goal.decreases-all
decreases-all l = 4 * formulas_size (formulas_of l.fs.now) + 2

abbrev pub invariant-operands-loop-f : goal.invariant-operands-loop-f
invariant-operands-loop-f l = record {
  writes : ComeTo (λ fs. written_all (formula_terms (head_in l.names l.starts) (formulas_of fs))) l.fs l.f-index l.initial.pieces.items l.pieces.items;
  fits : FormulasFit (formulas_of (drop l.f-index l.fs)) → FormulasFit (formulas_of l.fs);
}
