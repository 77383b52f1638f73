-- All frames that a run has pushed, at once.
use Rattle.std.specs.Prelude.{◌≡◌, ℕ, List, [], ◌∷◌, ◌++◌, map, Option, Some, IsTrue}
use Rattle.spv_logic.specs.declared.names.names.Symbol.{Symbol}
use Rattle.spv_logic.specs.declared.conditions.RoutineId.{RoutineId}
use Rattle.spv_logic.specs.Values.{Value}
use Rattle.spv_program.specs.Expressions.{Arguments, call}
use Rattle.spv_program.specs.Statements.{Statement}
use Rattle.spv_program.specs.Programs.{Routine, Program, routine_at, routine_in}
use Rattle.spv_program.specs.Scopes.{result_name}
use Rattle.spv_program.specs.Frames.{arguments_apart}
use Rattle.spv_program.specs.ExpressionTypes.{callee}
use Rattle.spv_program.specs.Typing.{statement_ok}
use Rattle.spv_meaning.specs.Places.{Binding, State}
use Rattle.spv_meaning.specs.Outcomes.{Ended}
use Rattle.spv_meaning.specs.Levels.{Here, Bound, choose_all, enter, push, pop}
use Rattle.spv_meaning.specs.Evaluation.{arguments}
use Rattle.spv_meaning.specs.Walks.{level, run}
use Rattle.spv_meaning.specs.FrameTypes.{FrameType, formal_slot, names_right}
use Rattle.spv_meaning.specs.Starts.{Area, IsRight, IsStart}
use Rattle.spv_writes.specs.Writes.{Writes}
use Rattle.spv_frame_law.specs.Laws.{IsFramed, below_turns}
use Rattle.spv_frame_law.specs.Frames.{call_shown}

-- where a run stands that began in a routine, or in the main block if none is named, and is in calls of these routines, the newest
-- first: each could start there, over the frames of the others. So each frame is apart, and its VAR places exist
abbrev pub AllStart : Program → Option RoutineId → List RoutineId → State → Type 0
AllStart p first [] state = IsStart p first state
AllStart p first (id ∷ calls) state = IsStart p (Some id) state × AllStart p first calls (pop state)

-- the routine that runs there
abbrev pub running : Option RoutineId → List RoutineId → Option RoutineId
running first [] = first
running first (id ∷ calls) = Some id

-- whatever is written, a part of a place or a new cell
abbrev pub WritingKeepsAll : Type 0
WritingKeepsAll =
    (p : Program) (first : Option RoutineId) (calls : List RoutineId) (state : State) → AllStart p first calls state
    → (areas : List Area) (after : State) → Writes p areas state after → AllStart p first calls after

-- a statement that ended
abbrev pub StatementsKeepAll : Type 0
StatementsKeepAll =
    (p : Program) → IsFramed p → (first : Option RoutineId) (calls : List RoutineId) (here : Here) → here.routine ≡ running first calls
    → (s : Statement) → IsTrue (statement_ok p (routine_in p here.routine) s) → (state : State) → AllStart p first calls state
    → (turns : ℕ) (choices : List Value) (after : State) → (run p turns here s state choices).end ≡ Ended after → AllStart p first calls after

-- a call, which begins its routine
abbrev pub CallsPushOne : Type 0
CallsPushOne =
    (p : Program) → IsFramed p → (first : Option RoutineId) (calls : List RoutineId) (here : Here) → here.routine ≡ running first calls
    → (state : State) → AllStart p first calls state
    → (id : RoutineId) (line : ℕ) (given : Arguments) (q : Routine) → callee p (routine_in p here.routine) (call id line given) ≡ Some q
    → IsTrue (arguments_apart p (routine_in p here.routine) (call id line given)) → IsTrue (call_shown p (routine_in p here.routine) (call id line given))
    → (turns : ℕ) (choices : List Value) (bound : Bound) → (arguments p (below_turns p turns) here q.formals given state choices).end ≡ Ended bound
    → (others : List Value) (own : List (Symbol × Binding)) → (choose_all p (result_name q.name q.result ++ q.locals) others).end ≡ Ended own
    → AllStart p first (id ∷ calls) (push id (bound.names ++ own) bound.state)

-- a call that returned
abbrev pub CallsPopOne : Type 0
CallsPopOne =
    (p : Program) → IsFramed p → (first : Option RoutineId) (calls : List RoutineId) (bound : Bound) → AllStart p first calls bound.state
    → (id : RoutineId) (q : Routine) → routine_at p id ≡ Some q → (types : List FrameType) → IsRight p types bound.state
    → IsTrue (names_right p types bound.state.heap (map formal_slot q.formals) bound.names)
    → (turns : ℕ) (choices : List Value) (after : State) → (enter p (level p turns) id (Some q) bound choices).end ≡ Ended after
    → AllStart p first calls (pop after)
