-- What the loops over selectors and arguments have made so far.
use Rattle.std.proofs.Common.{◌≡◌, List, ◌++◌, Ok, Option}
use Rattle.spv_logic.specs.declared.operators.Head.{Head}
use Rattle.spv_logic.specs.declared.conditions.RoutineId.{RoutineId}
use Rattle.spv_term.specs.Arena.{Arena}
use Rattle.spv_program.specs.Expressions.{Selectors, Arguments, Call}
use Rattle.spv_program.specs.Programs.{Program, routine_in}
use Rattle.spv_program.specs.Places.{Target, present}
use Rattle.spv_program.specs.Supplies.{Supply}
use Rattle.spv_program.specs.Calls as spec_argument
use Rattle.spv_program.specs.ExpressionTerms.{Called, Placed, selected, argued}
use Rattle.spv_expression_terms.specs.term_walk.OuterCalls.{made_calls, selectors_outer_calls}
use Rattle.spv_assign.specs.creation_trace.Events.{Event, Walked}
use Rattle.spv_assign.specs.creation_trace.StatementEvents.{one}
use Rattle.spv_assign.specs.supply.Numbers.{AreThere}
use Rattle.spv_assign.specs.structures.Targets.{target_in}
use Rattle.spv_flow_parts.specs.declared.leaves.valued.Called as code_called
use Rattle.spv_flow_parts.specs.declared.calls.passed.Argument as code_argument
use Rattle.spv_flow_parts.specs.declared.calls.places.Way.{Way}
use Rattle.spv_flow_parts.specs.leaves.Values.{AreCalls}
use Rattle.spv_flow_parts.specs.calls.Arguments.{AddsCalls, AreArguments, AreSelectors, AreSteps, FitParameters, IsWay, placed_at}
use Rattle.spv_flow_parts.specs.calls.Events.{argument_events, calls_in_selectors, made_events}
use Rattle.spv_flow_parts.proofs.calls.Retold.{HaveNoLists}

-- the calls in the first selectors were made, and those in the others are left
pub record SelectorsSoFar (p : Program) (here : Option RoutineId) (all left : Selectors) (n : Supply) (a b : Arena) (variables others : List Head) (old new : List code_called.Called) (m : Supply) : Type 0 where
  pub done : List Call
  pub adds : AddsCalls (Ok tt) (made_calls p (routine_in p here) n done) (made_events p (routine_in p here) n done) a b variables others old new m
  pub whole : selectors_outer_calls all ≡ done ++ selectors_outer_calls left
  pub typed : AreSelectors p here left

-- the first arguments were made, and the others are left
pub record ArgumentsSoFar (p : Program) (here : Option RoutineId) (all left : Arguments) (n : Supply) (a b : Arena) (ts : List code_argument.Argument) (old new : List code_called.Called) (m : Supply) : Type 0 where
  pub events : List Event
  pub arguments : List spec_argument.Argument
  pub made : List Called
  pub walked : Walked events a b
  pub are : AreArguments b ts arguments
  pub calls : (before : List Called) → AreCalls a old before → AreCalls b new (before ++ made)
  pub there : AreThere b m
  pub whole : argued p (routine_in p here) n all ≡ record {
    arguments = arguments ++ (argued p (routine_in p here) m left).arguments;
    calls = made ++ (argued p (routine_in p here) m left).calls;
    supply = (argued p (routine_in p here) m left).supply;
  }
  pub told : argument_events p (routine_in p here) n all ≡ events ++ argument_events p (routine_in p here) m left
  pub typed : FitParameters p here left

-- the steps so far, with the calls in them
abbrev pub reached : Target → List Called → Supply → Placed
reached d calls n = record { target = d; calls = calls; supply = n }

-- the first steps were gone, and the others are left
pub record StepsSoFar (p : Program) (here : Option RoutineId) (begin : Target) (all left : Selectors) (n : Supply) (a b : Arena) (way : Way) (old new : List code_called.Called) (m : Supply) : Type 0 where
  pub events : List Event
  pub made : List Called
  pub walked : Walked (events ++ one (present (target_in b way.target))) a b
  pub alone : HaveNoLists events
  pub is_way : IsWay b way
  pub calls : (before : List Called) → AreCalls a old before → AreCalls b new (before ++ made)
  pub there : AreThere b m
  pub whole : selected p (routine_in p here) (placed_at begin n) all ≡ selected p (routine_in p here) (reached (target_in b way.target) made m) left
  pub told : calls_in_selectors p (routine_in p here) (placed_at begin n) all ≡ events ++ calls_in_selectors p (routine_in p here) (placed_at (target_in b way.target) m) left
  pub typed : AreSteps p here (target_in b way.target) left
