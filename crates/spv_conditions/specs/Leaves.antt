-- Assignments, NEW, calls and expressions of a well typed program: which are taken, and what is made for them.
use Rattle.std.specs.Prelude.{Bool, false, List, [], Option, is_some}
use Rattle.spv_logic.specs.declared.conditions.RoutineId.{RoutineId}
use Rattle.spv_program.specs.Statements.{Statement, Assign, Perform, New}
use Rattle.spv_program.specs.Programs.{Program, routine_in}
use Rattle.spv_program.specs.ExpressionTypes.{expression_sort}
use Rattle.spv_program.specs.Typing.{statement_ok}
use Rattle.spv_meaning.specs.Before.{Made}
use Rattle.spv_assign.specs.creation_trace.Events.{Event}
use Rattle.spv_flow_parts.specs.assigning.Events.{assign_events, new_events}
use Rattle.spv_flow_parts.specs.calls.Events.{perform_events, value_events}
use Rattle.spv_flow_parts.specs.leaves.Parts.{Making, Taking}

-- well typed ones
abbrev pub takes_leaf : Program → Option RoutineId → Statement → Bool
takes_leaf p here (Assign d e) = statement_ok p (routine_in p here) (Assign d e)
takes_leaf p here (Perform c) = statement_ok p (routine_in p here) (Perform c)
takes_leaf p here (New line d t) = statement_ok p (routine_in p here) (New line d t)
takes_leaf p here _ = false

abbrev pub leaf_taking : Program → Option RoutineId → Taking
leaf_taking p here = record { leaf = takes_leaf p here; test = λ e. is_some (expression_sort p (routine_in p here) e) }

abbrev pub leaf_events : Program → Option RoutineId → Statement → Made → List Event
leaf_events p here (Assign d e) q = assign_events p here d e q
leaf_events p here (Perform c) q = perform_events p here c q
leaf_events p here (New line d t) q = new_events p here d t q
leaf_events p here _ q = []

abbrev pub leaf_making : Program → Option RoutineId → Making
leaf_making p here = record { leaf = leaf_events p here; test = λ e n. value_events p (routine_in p here) n e }
