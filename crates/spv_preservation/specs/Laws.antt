-- What runs of well typed programs keep.
use Rattle.spv_meaning.specs.FrameTypes.{FrameType, IsIn}
use Rattle.std.specs.Prelude.{◌≡◌, ℕ, List, Option, IsTrue}
use Rattle.spv_logic.specs.declared.conditions.RoutineId.{RoutineId}
use Rattle.spv_logic.specs.Values.{Value}
use Rattle.spv_program.specs.Statements.{Statement}
use Rattle.spv_program.specs.Programs.{Program, routine_in}
use Rattle.spv_program.specs.Typing.{statement_ok, well_typed}
use Rattle.spv_meaning.specs.Places.{State}
use Rattle.spv_meaning.specs.Outcomes.{Ended, Jump}
use Rattle.spv_meaning.specs.Levels.{Here}
use Rattle.spv_meaning.specs.Walks.{run}
use Rattle.spv_meaning.specs.Starts.{IsStart, IsRight, IsRightFor, apart}
use Rattle.spv_meaning.specs.Correct.{begun, body_of}
use Rattle.spv_preservation.specs.Right.{Leaves, HasValues}

-- a well typed statement that ended, from a right state, leaves a right state
abbrev pub StatementsLeaveRightStates : Type 0
StatementsLeaveRightStates =
    (p : Program) → IsTrue (well_typed p) → (here : Here) (types : List FrameType) → IsIn p here.routine types
    → (s : Statement) → IsTrue (statement_ok p (routine_in p here.routine) s) → (state : State) → IsRight p types state
    → (turns : ℕ) (choices : List Value) (after : State) → (run p turns here s state choices).end ≡ Ended after
    → Leaves p types state.heap after

-- no such statement ends by a jump: labels are not in the language yet
abbrev pub StatementsJumpNowhere : Type 0
StatementsJumpNowhere =
    (p : Program) → IsTrue (well_typed p) → (here : Here) (types : List FrameType) → IsIn p here.routine types
    → (s : Statement) → IsTrue (statement_ok p (routine_in p here.routine) s) → (state : State) → IsRight p types state
    → (turns : ℕ) (choices : List Value) (label : ℕ) (at : State) → (run p turns here s state choices).end ≡ Jump label at → ⊥

-- the body of a routine, or of the main block, that ended, from a start, leaves values of their types and a right heap
abbrev pub BodiesKeepValues : Type 0
BodiesKeepValues =
    (p : Program) → IsTrue (well_typed p) → (here : Option RoutineId) (state : State) → IsStart p here state
    → (turns : ℕ) (choices : List Value) (after : State)
    → (run p turns (begun p here state) (body_of p here) state choices).end ≡ Ended after
    → HasValues p here after

-- a right state has values of their types, so where nothing overlaps it is a start
abbrev pub RightStatesHaveValues : Type 0
RightStatesHaveValues =
    (p : Program) (here : Option RoutineId) (state : State) → IsRightFor p here state → HasValues p here state

abbrev pub RightStatesAreStarts : Type 0
RightStatesAreStarts =
    (p : Program) (here : Option RoutineId) (state : State) → IsRightFor p here state
    → IsTrue (apart (routine_in p here) state) → IsStart p here state
