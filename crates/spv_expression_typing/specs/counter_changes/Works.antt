-- What is still to be looked at; the last of a list comes first.
use Rattle.std.specs.Prelude.{ℕ, ◌+◌, ◌*◌, ◌<◌, ◌≡◌, List, [], ◌∷◌, ◌++◌}
use Rattle.spv_logic.specs.declared.names.names.Symbol.{Symbol}
use Rattle.spv_program.specs.typed.ExpressionViews.{selectors_of, arguments_of}
use Rattle.spv_program.specs.typed.Model.ExpressionSizes.{expression_size, designator_size, selectors_size, arguments_size}
use Rattle.spv_typing.specs.Known.{Scope}
use Rattle.spv_program.specs.Lists.{first_of}
use Rattle.spv_expression_typing.specs.declared.counter_changes.works.Event.{Event}
use Rattle.spv_expression_typing.specs.declared.counter_changes.works.Work.{Work}
use Rattle.spv_expression_typing.specs.declared.counter_changes.works.Work.TheVariants as work
use Rattle.spv_expression_typing.specs.declared.counter_changes.works.Found.{Found}
use Rattle.spv_expression_typing.specs.counter_changes.Events.{expression_events, place_events, selector_events, argument_events}
use Rattle.spv_expression_typing.specs.counter_changes.Counted.{callee_counted, first_wrote, first_called}

abbrev pub work_events : Work → List Event
work_events (work.Value e) = expression_events e.now
work_events (work.Place d) = place_events d.now
work_events (work.Selectors selectors) = selector_events (selectors_of selectors.now)
work_events (work.Arguments arguments) = argument_events (arguments_of arguments.now)
work_events (work.Done e) = e ∷ []

abbrev pub stack_events : List Work → List Event
stack_events [] = []
stack_events (w ∷ works) = stack_events works ++ work_events w

abbrev pub work_size : Work → ℕ
work_size (work.Value e) = 3 * expression_size e.now
work_size (work.Place d) = 3 * designator_size d.now
work_size (work.Selectors selectors) = 3 * selectors_size (selectors_of selectors.now) + 1
work_size (work.Arguments arguments) = 3 * arguments_size (arguments_of arguments.now) + 1
work_size (work.Done e) = 1

abbrev pub stack_size : List Work → ℕ
stack_size [] = 0
stack_size (w ∷ works) = work_size w + stack_size works

-- works in place of one with these events and this size
pub record Opens (events : List Event) (size : ℕ) (old new : List Work) : Type 0 where
  pub same : stack_events new ≡ events ++ stack_events old
  pub falls : stack_size new < size + stack_size old

-- one work is done, and what was found with the works that are left is what it was
pub record IsStep (s : Scope) (counted : List Symbol) (w : Work) (before after : Found) (old new : List Work) : Type 0 where
  pub wrote : first_of after.wrote (first_wrote counted (stack_events new)) ≡ first_of before.wrote (first_wrote counted (work_events w ++ stack_events old))
  pub called :
      first_of after.called (first_called (callee_counted s counted) (stack_events new)) ≡ first_of before.called (first_called (callee_counted s counted) (work_events w ++ stack_events old))
  pub falls : stack_size new < work_size w + stack_size old
