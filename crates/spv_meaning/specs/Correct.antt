-- When a program is correct.
use Rattle.std.specs.Prelude.{◌≡◌, ◌<◌, ℕ, Bool, true, List, [], ◌∷◌, Option, Some, None, IsTrue, is_some}
use Rattle.std.specs.List.{list_all}
use Rattle.std.specs.Option.{unwrap_or}
use Rattle.spv_logic.specs.declared.conditions.Kind.TheVariants as kind
use Rattle.spv_logic.specs.declared.conditions.RoutineId.{RoutineId}
use Rattle.spv_logic.specs.declared.types.Shape.{Shape}
use Rattle.spv_logic.specs.Values.{Value}
use Rattle.spv_logic.specs.Fits.{default_of}
use Rattle.spv_logic.specs.Sorts.{variable_sort}
use Rattle.spv_logic.specs.Conditions.{Meaning, Valuation, View, both, answers, holds}
use Rattle.spv_program.specs.Formulas.{Annotation}
use Rattle.spv_program.specs.Statements.{Statement, Empty}
use Rattle.spv_program.specs.Programs.{Routine, Program, shapes, routine_at}
use Rattle.spv_meaning.specs.Places.{State}
use Rattle.spv_meaning.specs.Views.{entry_view}
use Rattle.spv_meaning.specs.Outcomes.{Ended, Met}
use Rattle.spv_meaning.specs.Levels.{Here, run_body, reached_in_body, reached_entry, reached_exit}
use Rattle.spv_meaning.specs.Walks.{level}
use Rattle.spv_meaning.specs.Starts.{IsStart}

-- ---- annotations that hold

-- the valuation of what shows; what does not show has its sort's default
abbrev pub valuation_of : List Shape → View → Valuation
valuation_of shapes view h = unwrap_or (view h) (default_of shapes (variable_sort h))

-- an annotation holds in a world: it is true of what showed when its routine began and what shows now
abbrev pub met_holds : Program → Meaning → Met → Bool
met_holds p world m = holds (answers (shapes p) p.symbols world) (valuation_of (shapes p) (both m.entry m.now)) m.formula

abbrev pub all_hold : Program → Meaning → List Met → Bool
all_hold p world met = list_all (met_holds p world) met

-- ---- routines and the main block

abbrev pub routine_body : Option Routine → Statement
routine_body None = Empty
routine_body (Some r) = r.body

-- the body of a routine, or of the main block; nothing where there is no such routine
abbrev pub body_of : Program → Option RoutineId → Statement
body_of p None = p.main.body
body_of p (Some id) = routine_body (routine_at p id)

abbrev pub met_if_there : (Annotation → Met) → Option Annotation → List Met
met_if_there f None = []
met_if_there f (Some a) = f a ∷ []

-- where the body of a routine, or of the main block, runs that begins in a state
abbrev pub begun : Program → Option RoutineId → State → Here
begun p here state = record { routine = here; entry = entry_view p here state }

abbrev pub routine_entry : Program → Here → Option Routine → State → List Met
routine_entry p here None state = []
routine_entry p here (Some r) state = met_if_there (reached_entry p here r state) r.entry

-- ENTRY where there is one, in a state at the beginning
abbrev pub entry_met : Program → Option RoutineId → State → List Met
entry_met p None state = met_if_there (reached_in_body p (begun p None state) kind.Entry state) p.main.entry
entry_met p (Some id) state = routine_entry p (begun p (Some id) state) (routine_at p id) state

abbrev pub routine_exit : Program → Here → Option Routine → State → List Met
routine_exit p here None after = []
routine_exit p here (Some r) after = met_if_there (reached_exit p here r after) r.exit

-- EXIT where there is one, of what began in a state and ended in another
abbrev pub exit_met : Program → Option RoutineId → State → State → List Met
exit_met p None state after = met_if_there (reached_in_body p (begun p None state) kind.Exit after) p.main.exit
exit_met p (Some id) state after = routine_exit p (begun p (Some id) state) (routine_at p id) after

-- a start of a routine, or of the main block, that meets ENTRY
pub record Starts (p : Program) (world : Meaning) (here : Option RoutineId) (state : State) : Type 0 where
  pub is_start : IsStart p here state
  pub entry : IsTrue (all_hold p world (entry_met p here state))

-- ---- correctness

-- from every start that meets ENTRY, with so many turns and all choices, each annotation that is reached holds, and
-- where the run ended, EXIT holds
pub record CorrectWith (p : Program) (world : Meaning) (here : Option RoutineId) (turns : ℕ) : Type 0 where
  pub reached : (state : State) → Starts p world here state → (choices : List Value)
      → IsTrue (all_hold p world (run_body (level p turns) (begun p here state) (body_of p here) state choices).met)
  pub ended : (state : State) → Starts p world here state → (choices : List Value) (after : State)
      → (run_body (level p turns) (begun p here state) (body_of p here) state choices).end ≡ Ended after → IsTrue (all_hold p world (exit_met p here state after))

-- whether there is such a routine; the main block is always there
abbrev pub is_there : Program → Option RoutineId → Bool
is_there p None = true
is_there p (Some id) = is_some (routine_at p id)

-- a program is correct in a world: each routine that there is and the main block, with any number of turns
pub record Correct (p : Program) (world : Meaning) : Type 0 where
  pub each : (here : Option RoutineId) → IsTrue (is_there p here) → (turns : ℕ) → CorrectWith p world here turns

-- the same with fewer turns than a number
pub record CorrectBelow (p : Program) (world : Meaning) (number : ℕ) : Type 0 where
  pub each : (here : Option RoutineId) → IsTrue (is_there p here) → (turns : ℕ) → turns < number → CorrectWith p world here turns
