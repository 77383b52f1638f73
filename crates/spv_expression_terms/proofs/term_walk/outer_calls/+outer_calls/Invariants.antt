use Rattle.std.proofs.Common.{◌≡◌, ◌+◌, ◌*◌, drop, length}
use Rattle.spv_program.specs.Expressions.{no_selectors}
use Rattle.spv_program.specs.typed.ExpressionViews.{selector_before, selectors_of}
use Rattle.spv_program.specs.typed.Model.ExpressionSizes.{expression_size, selectors_size}
use Rattle.spv_expression_terms.specs.term_walk.OuterCalls.{selectors_outer_calls}
use Rattle.spv_expression_terms.proofs.term_walk.outer_calls.+outer_calls.Given as goal

abbrev pub decreases-for_others : goal.decreases-for_others
decreases-for_others l = 4 * expression_size l.e.now

abbrev pub decreases-for_other_selectors : goal.decreases-for_other_selectors
decreases-for_other_selectors l = 4 * selectors_size (selector_before l.selector.now no_selectors) + 1

abbrev pub decreases-behind_selectors : goal.decreases-behind_selectors
decreases-behind_selectors l = 4 * selectors_size (selectors_of l.selectors.now) + 2

abbrev pub invariant-behind_selectors-loop-selector : goal.invariant-behind_selectors-loop-selector
invariant-behind_selectors-loop-selector l =
    drop (length (selectors_outer_calls (selectors_of (drop l.selector-index l.selectors)))) l.left
    ≡ drop (length (selectors_outer_calls (selectors_of l.selectors))) l.variables
