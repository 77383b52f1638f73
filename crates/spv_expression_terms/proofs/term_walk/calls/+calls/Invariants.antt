use Rattle.std.proofs.Common.{◌≡◌, ◌+◌, ◌*◌, drop}
use Rattle.spv_program.specs.Expressions.{no_selectors}
use Rattle.spv_program.specs.typed.ExpressionViews.{selector_before, selectors_of}
use Rattle.spv_program.specs.typed.Model.ExpressionSizes.{expression_size, designator_size, selectors_size}
use Rattle.spv_expression_terms.specs.term_walk.ExpressionTerms as spec
use Rattle.spv_expression_terms.proofs.term_walk.calls.+calls.Given as goal

abbrev pub decreases-has_no_calls : goal.decreases-has_no_calls
decreases-has_no_calls l = 4 * expression_size l.e.now

abbrev pub decreases-place_has_no_calls : goal.decreases-place_has_no_calls
decreases-place_has_no_calls l = 4 * designator_size l.d.now

abbrev pub decreases-selector_has_no_calls : goal.decreases-selector_has_no_calls
decreases-selector_has_no_calls l = 4 * selectors_size (selector_before l.selector.now no_selectors) + 1

abbrev pub decreases-selectors_have_no_calls : goal.decreases-selectors_have_no_calls
decreases-selectors_have_no_calls l = 4 * selectors_size (selectors_of l.selectors.now) + 2

abbrev pub invariant-selectors_have_no_calls-loop-selector : goal.invariant-selectors_have_no_calls-loop-selector
invariant-selectors_have_no_calls-loop-selector l = spec.selectors_have_no_calls (selectors_of (drop l.selector-index l.selectors)) ≡ spec.selectors_have_no_calls (selectors_of l.selectors)
