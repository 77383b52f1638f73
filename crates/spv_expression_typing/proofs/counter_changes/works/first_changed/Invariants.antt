use Rattle.std.proofs.Common.{◌≡◌}
use Rattle.spv_program.specs.Lists.{first_of}
use Rattle.spv_environments.specs.Scopes.{scope_of}
use Rattle.spv_expression_typing.specs.counter_changes.Counted.{callee_counted, first_wrote, first_called}
use Rattle.spv_expression_typing.specs.counter_changes.Works.{stack_events, stack_size}
use Rattle.spv_expression_typing.proofs.counter_changes.works.first_changed.Given as goal

abbrev pub invariant-loop-work : goal.invariant-loop-work
invariant-loop-work l =
    (first_of l.found.wrote (first_wrote l.counted (stack_events l.works.items)) ≡ first_wrote l.counted (stack_events l.start))
    × (first_of l.found.called (first_called (callee_counted (scope_of l.scope) l.counted) (stack_events l.works.items))
    ≡ first_called (callee_counted (scope_of l.scope) l.counted) (stack_events l.start))

abbrev pub decreases-loop-work : goal.decreases-loop-work
decreases-loop-work l = stack_size l.works.items
