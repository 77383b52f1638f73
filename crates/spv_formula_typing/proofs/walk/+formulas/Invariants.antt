use Rattle.std.proofs.Common.{◌≡◌, ◌+◌, ◌*◌, drop}
use Rattle.spv_tree.specs.syntax.FormulaViews.{conclusion_of}
use Rattle.spv_tree.specs.syntax.Model.FormulaSizes.{more_terms_of, more_factors_of, more_formulas_of, selectors_of, formula_size, conclusion_size, relation_size, simple_size, term_size, factor_size, designator_size, selector_size, more_formulas_size, selectors_size}
use Rattle.spv_typing.specs.OperatorWalk.{more_terms_walk, more_factors_walk, selectors_walk, simple_walk, term_walk}
use Rattle.spv_formula_typing.specs.Operands.{operand_of, operands_of}
use Rattle.spv_formula_typing.specs.Arguments.{all_given}
use Rattle.spv_formula_typing.proofs.Loops.{GivenSoFar, FoundSoFar}
use Rattle.spv_formula_typing.proofs.walk.+formulas.Given as goal

abbrev pub invariant-simple-loop-operator : goal.invariant-simple-loop-operator
invariant-simple-loop-operator g l =
    more_terms_walk (g.F.Forms.forms l.forms) l.line (operand_of l.so_far) (more_terms_of (drop l.operator-index l.operator-items)) ≡ simple_walk (g.F.Forms.forms l.forms) l.tree

abbrev pub invariant-term-loop-operator : goal.invariant-term-loop-operator
invariant-term-loop-operator g l =
    more_factors_walk (g.F.Forms.forms l.forms) l.line (operand_of l.so_far) (more_factors_of (drop l.operator-index l.operator-items)) ≡ term_walk (g.F.Forms.forms l.forms) l.tree

abbrev pub invariant-selectors-loop-one : goal.invariant-selectors-loop-one
invariant-selectors-loop-one g l =
    selectors_walk (g.F.Forms.forms l.forms) l.line l.reached (selectors_of (drop l.one-index l.behind)) ≡ selectors_walk (g.F.Forms.forms l.forms) l.line l.initial.reached (selectors_of l.behind)

abbrev pub invariant-arguments-loop-other : goal.invariant-arguments-loop-other
invariant-arguments-loop-other g l =
    (l.place ≡ l.other-index)
    × GivenSoFar (g.F.Forms.forms l.forms) l.first l.more (g.F.Forms.way_of l.forms l.callee) l.other-index (all_given l.given.items)

abbrev pub invariant-operands-loop-other : goal.invariant-operands-loop-other
invariant-operands-loop-other g l = FoundSoFar (g.F.Forms.forms l.forms) l.first l.more l.other-index (operands_of l.found.items)

abbrev pub decreases-formula : goal.decreases-formula
decreases-formula g l = 5 * formula_size l.tree.now

abbrev pub decreases-implied : goal.decreases-implied
decreases-implied g l = 5 * (relation_size l.left.now + conclusion_size (conclusion_of l.right.now)) + 1

abbrev pub decreases-relation : goal.decreases-relation
decreases-relation g l = 5 * relation_size l.tree.now

abbrev pub decreases-simple : goal.decreases-simple
decreases-simple g l = 5 * simple_size l.tree.now

abbrev pub decreases-term : goal.decreases-term
decreases-term g l = 5 * term_size l.tree.now

abbrev pub decreases-factor : goal.decreases-factor
decreases-factor g l = 5 * factor_size l.tree.now

abbrev pub decreases-read : goal.decreases-read
decreases-read g l = 5 * designator_size l.tree.now

abbrev pub decreases-written : goal.decreases-written
decreases-written g l = 5 * designator_size l.tree.now

abbrev pub decreases-selectors : goal.decreases-selectors
decreases-selectors g l = 5 * selectors_size (selectors_of l.behind.now) + 1

abbrev pub decreases-selector : goal.decreases-selector
decreases-selector g l = 5 * selector_size l.tree.now

abbrev pub decreases-application : goal.decreases-application
decreases-application g l = 5 * (formula_size l.first.now + more_formulas_size (more_formulas_of l.more.now)) + 4

abbrev pub decreases-arguments : goal.decreases-arguments
decreases-arguments g l = 5 * (formula_size l.first.now + more_formulas_size (more_formulas_of l.more.now)) + 3

abbrev pub decreases-argument : goal.decreases-argument
decreases-argument g l = 5 * formula_size l.tree.now + 2

abbrev pub decreases-as_place : goal.decreases-as_place
decreases-as_place g l = 5 * formula_size l.tree.now + 1

abbrev pub decreases-operands : goal.decreases-operands
decreases-operands g l = 5 * (formula_size l.first.now + more_formulas_size (more_formulas_of l.more.now)) + 1
