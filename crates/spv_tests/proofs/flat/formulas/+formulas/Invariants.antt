use Rattle.std.proofs.Common.{◌+◌, ◌*◌}
use Rattle.spv_tree.specs.syntax.Members.{in_kinds}
use Rattle.spv_tree.specs.syntax.FormulaSpelling.{more_factors_spelling, more_formulas_spelling, more_terms_spelling, selectors_spelling}
use Rattle.spv_tree.specs.syntax.FormulaViews.{conclusion_of}
use Rattle.spv_tree.specs.syntax.Model.FormulaSizes.{more_terms_of, more_factors_of, more_formulas_of, selectors_of, formula_size, conclusion_size, relation_size, simple_size, term_size, factor_size, designator_size, selector_size, more_formulas_size, selectors_size}
use Rattle.spv_tests.proofs.flat.Loops.{ComeTo}
use Rattle.spv_tests.proofs.flat.formulas.+formulas.Given as goal

abbrev pub invariant-simple-loop-operator : goal.invariant-simple-loop-operator
invariant-simple-loop-operator l = ComeTo (λ ts. more_terms_spelling in_kinds (more_terms_of ts)) l.operator-items l.operator-index l.initial.out.items l.out.items

abbrev pub invariant-term-loop-operator : goal.invariant-term-loop-operator
invariant-term-loop-operator l = ComeTo (λ fs. more_factors_spelling in_kinds (more_factors_of fs)) l.operator-items l.operator-index l.initial.out.items l.out.items

abbrev pub invariant-more_formulas-loop-part : goal.invariant-more_formulas-loop-part
invariant-more_formulas-loop-part l = ComeTo (λ fs. more_formulas_spelling in_kinds (more_formulas_of fs)) l.more l.part-index l.initial.out.items l.out.items

abbrev pub invariant-selectors-loop-part : goal.invariant-selectors-loop-part
invariant-selectors-loop-part l = ComeTo (λ ss. selectors_spelling in_kinds (selectors_of ss)) l.behind l.part-index l.initial.out.items l.out.items

abbrev pub decreases-formula : goal.decreases-formula
decreases-formula l = 2 * formula_size l.tree.now

abbrev pub decreases-conclusion : goal.decreases-conclusion
decreases-conclusion l = 2 * conclusion_size (conclusion_of l.tree.now) + 1

abbrev pub decreases-relation : goal.decreases-relation
decreases-relation l = 2 * relation_size l.tree.now

abbrev pub decreases-simple : goal.decreases-simple
decreases-simple l = 2 * simple_size l.tree.now

abbrev pub decreases-term : goal.decreases-term
decreases-term l = 2 * term_size l.tree.now

abbrev pub decreases-factor : goal.decreases-factor
decreases-factor l = 2 * factor_size l.tree.now

abbrev pub decreases-designator : goal.decreases-designator
decreases-designator l = 2 * designator_size l.tree.now

abbrev pub decreases-selector : goal.decreases-selector
decreases-selector l = 2 * selector_size l.tree.now

abbrev pub decreases-more_formulas : goal.decreases-more_formulas
decreases-more_formulas l = 2 * more_formulas_size (more_formulas_of l.more.now) + 1

abbrev pub decreases-selectors : goal.decreases-selectors
decreases-selectors l = 2 * selectors_size (selectors_of l.behind.now) + 1
