use Rattle.std.proofs.Common.{◌+◌, ◌*◌, drop}
use Rattle.spv_program.specs.Expressions.{no_arguments, no_selectors}
use Rattle.spv_program.specs.typed.ExpressionViews.{argument_before, arguments_of, selector_before, selectors_of}
use Rattle.spv_program.specs.typed.Model.ExpressionSizes.{arguments_size, call_size, designator_size, expression_size, selectors_size}
use Rattle.spv_assign.specs.supply.Numbers.{supply_of}
use Rattle.spv_flow_parts.proofs.calls.PlaceSteps.{begin_of}
use Rattle.spv_flow_parts.proofs.calls.SoFar.{SelectorsSoFar, ArgumentsSoFar, StepsSoFar}
use Rattle.spv_flow_parts.proofs.calls.values.+values.Given as goal

abbrev pub decreases-add_calls : goal.decreases-add_calls
decreases-add_calls l = 8 * expression_size l.e.now

abbrev pub decreases-add_value : goal.decreases-add_value
decreases-add_value l = 8 * expression_size l.e.now + 1

abbrev pub decreases-add_index_calls : goal.decreases-add_index_calls
decreases-add_index_calls l = 8 * selectors_size (selector_before l.selector.now no_selectors) + 2

abbrev pub decreases-add_selector_calls : goal.decreases-add_selector_calls
decreases-add_selector_calls l = 8 * selectors_size (selectors_of l.selectors.now) + 3

abbrev pub decreases-add_call : goal.decreases-add_call
decreases-add_call l = 8 * call_size l.call.now

abbrev pub decreases-add_argument : goal.decreases-add_argument
decreases-add_argument l = 8 * arguments_size (argument_before l.given.now no_arguments) + 4

abbrev pub decreases-add_arguments : goal.decreases-add_arguments
decreases-add_arguments l = 8 * arguments_size (arguments_of l.given.now) + 5

abbrev pub decreases-step : goal.decreases-step
decreases-step l = 8 * selectors_size (selector_before l.selector.now no_selectors) + 3

abbrev pub decreases-add_place : goal.decreases-add_place
decreases-add_place l = 8 * designator_size l.d.now + 4

abbrev pub invariant-add_selector_calls-loop-selector : goal.invariant-add_selector_calls-loop-selector
invariant-add_selector_calls-loop-selector l =
    SelectorsSoFar l.program l.body.here (selectors_of l.selectors) (selectors_of (drop l.selector-index l.selectors)) (supply_of l.fn.supply) l.fn.terms l.terms
    l.fn.variables l.variables l.fn.calls l.calls (supply_of l.supply)

abbrev pub invariant-add_arguments-loop-argument : goal.invariant-add_arguments-loop-argument
invariant-add_arguments-loop-argument l =
    ArgumentsSoFar l.program l.body.here (arguments_of l.given) (arguments_of (drop l.argument-index l.given)) (supply_of l.fn.supply) l.fn.terms l.terms
    l.arguments l.fn.calls l.calls (supply_of l.supply)

abbrev pub invariant-add_place-loop-selector : goal.invariant-add_place-loop-selector
invariant-add_place-loop-selector l =
    StepsSoFar l.program l.body.here (begin_of l.body.variables l.d) (selectors_of l.selector-items) (selectors_of (drop l.selector-index l.selector-items))
    (supply_of l.fn.supply) l.fn.terms l.terms l.way l.fn.calls l.calls (supply_of l.supply)
