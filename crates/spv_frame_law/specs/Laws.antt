-- What is proved of what runs write.
use Rattle.std.specs.Prelude.{◌≡◌, ℕ, zero, suc, false, ◌&&◌, List, [], ◌∷◌, ◌++◌, map, Option, Some, None, IsTrue}
use Rattle.std.specs.List.{list_all}
use Rattle.spv_logic.specs.declared.names.names.Symbol.{Symbol}
use Rattle.spv_logic.specs.declared.types.TypeId.{TypeId}
use Rattle.spv_logic.specs.declared.types.Sort.{Sort}
use Rattle.spv_logic.specs.declared.conditions.RoutineId.{RoutineId}
use Rattle.spv_logic.specs.declared.operators.Head.{Head}
use Rattle.spv_logic.specs.Values.{Value}
use Rattle.spv_logic.specs.Fits.{fits}
use Rattle.spv_program.specs.Expressions.{Expression, Designator, Arguments, call}
use Rattle.spv_program.specs.Statements.{Statement}
use Rattle.spv_program.specs.Programs.{Formal, Routine, Program, shapes, routine_at, routine_in}
use Rattle.spv_program.specs.Scopes.{result_name, is_own}
use Rattle.spv_program.specs.Uses.{Root, statement_calls}
use Rattle.spv_program.specs.Frames.{root_of, place_roots, arguments_apart, framed}
use Rattle.spv_program.specs.Changes.{changed_roots}
use Rattle.spv_program.specs.ExpressionTypes.{expression_sort, designator_type, callee, arguments_fit}
use Rattle.spv_program.specs.Typing.{statement_ok, well_typed}
use Rattle.spv_meaning.specs.Places.{Place, Binding, State, put}
use Rattle.spv_meaning.specs.Views.{now_view}
use Rattle.spv_meaning.specs.Outcomes.{Ended, Jump}
use Rattle.spv_meaning.specs.Levels.{Here, Level, Bound, choose_all, enter, push, pop}
use Rattle.spv_meaning.specs.Evaluation.{Got, Fixed, evaluate, fix, arguments}
use Rattle.spv_meaning.specs.Walks.{level, run}
use Rattle.spv_meaning.specs.FrameTypes.{FrameType, IsIn, formal_slot, names_right}
use Rattle.spv_meaning.specs.Starts.{Area, IsRight, IsRightFor, IsStart, apart}
use Rattle.spv_meaning.specs.Correct.{begun, body_of, is_there}
use Rattle.spv_preservation.specs.facts.Places.{IsPlace}
use Rattle.spv_writes.specs.Writes.{Writes, is_in_one}
use Rattle.spv_frame_law.specs.Frames.{root_areas, areas_of, refer_in_turn, call_areas, routine_areas, root_shown, is_of_one, call_shown}

-- the programs that the frame law is about
pub record IsFramed (p : Program) : Type 0 where
  pub typed : IsTrue (well_typed p)
  pub framed : IsTrue (framed p)

-- what there is with one turn less than so many
abbrev pub below_turns : Program → ℕ → Option Level
below_turns p zero = None
below_turns p (suc n) = Some (level p n)

-- ---- the frame law

-- a statement that ended wrote in the areas of the roots that it changes, calls and all, as they were where it began
abbrev pub StatementsWriteWhatTheyChange : Type 0
StatementsWriteWhatTheyChange =
    (p : Program) → IsFramed p → (here : Here) (types : List FrameType) → IsIn p here.routine types
    → (s : Statement) → IsTrue (statement_ok p (routine_in p here.routine) s) → (state : State) → IsRight p types state
    → (turns : ℕ) (choices : List Value) (after : State) → (run p turns here s state choices).end ≡ Ended after
    → Writes p (areas_of state.frames (changed_roots p (routine_in p here.routine) s)) state after

-- and so did one that ended by a jump, in the state that it jumped in; nothing jumps as long as there are no labels
abbrev pub JumpsWriteWhatTheyChange : Type 0
JumpsWriteWhatTheyChange =
    (p : Program) → IsFramed p → (here : Here) (types : List FrameType) → IsIn p here.routine types
    → (s : Statement) → IsTrue (statement_ok p (routine_in p here.routine) s) → (state : State) → IsRight p types state
    → (turns : ℕ) (choices : List Value) (label : ℕ) (at : State) → (run p turns here s state choices).end ≡ Jump label at
    → Writes p (areas_of state.frames (changed_roots p (routine_in p here.routine) s)) state at

-- an expression leaves the state as it was, whatever functions it calls
abbrev pub ExpressionsLeaveTheState : Type 0
ExpressionsLeaveTheState =
    (p : Program) → IsFramed p → (here : Here) (types : List FrameType) → IsIn p here.routine types
    → (e : Expression) (s : Sort) → expression_sort p (routine_in p here.routine) e ≡ Some s → (state : State) → IsRight p types state
    → (turns : ℕ) (choices : List Value) (got : Got) → (evaluate p (below_turns p turns) here e state choices).end ≡ Ended got
    → got.state ≡ state

-- a place that is fixed lies in the areas of its designator's root, and the state is as it was
pub record IsFixedIn (p : Program) (here : Here) (state : State) (d : Designator) (fixed : Fixed) : Type 0 where
  pub same : fixed.state ≡ state
  pub inside : IsTrue (is_in_one state.heap (root_areas state.frames (root_of (is_own (routine_in p here.routine)) d)) fixed.place)

abbrev pub PlacesAreFixedInTheirAreas : Type 0
PlacesAreFixedInTheirAreas =
    (p : Program) → IsFramed p → (here : Here) (types : List FrameType) → IsIn p here.routine types
    → (d : Designator) (t : TypeId) → designator_type p (routine_in p here.routine) d ≡ Some t → (state : State) → IsRight p types state
    → (turns : ℕ) (choices : List Value) (fixed : Fixed) → (fix p (below_turns p turns) here d state choices).end ≡ Ended fixed
    → IsFixedIn p here state d fixed

-- parameters that are bound: the state is as it was, and VAR parameters refer in turn into the areas of the roots of their
-- arguments
pub record IsBoundIn (p : Program) (here : Here) (state : State) (given : Arguments) (bound : Bound) : Type 0 where
  pub same : bound.state ≡ state
  pub names : IsTrue (refer_in_turn state.heap state.frames bound.names (place_roots (is_own (routine_in p here.routine)) given))

abbrev pub ArgumentsReferIntoTheirAreas : Type 0
ArgumentsReferIntoTheirAreas =
    (p : Program) → IsFramed p → (here : Here) (types : List FrameType) → IsIn p here.routine types
    → (formals : List Formal) (given : Arguments) → IsTrue (arguments_fit p (routine_in p here.routine) formals given) → (state : State) → IsRight p types state
    → (turns : ℕ) (choices : List Value) (bound : Bound) → (arguments p (below_turns p turns) here formals given state choices).end ≡ Ended bound
    → IsBoundIn p here state given bound

-- the body of a routine that ended wrote in what the names of its frame cover, its VAR places among them, and in the items
-- of its VAR groups: it changed nothing else, and it added cells only of their types
abbrev pub RoutinesWriteWhatTheyMay : Type 0
RoutinesWriteWhatTheyMay =
    (p : Program) → IsFramed p → (id : RoutineId) (r : Routine) → routine_at p id ≡ Some r → (state : State) → IsRightFor p (Some id) state
    → (turns : ℕ) (choices : List Value) (after : State) → (run p turns (begun p (Some id) state) r.body state choices).end ≡ Ended after
    → Writes p (routine_areas r state) state after

-- the body of a function changed nothing but its own frame
abbrev pub FunctionsChangeTheirFramesAlone : Type 0
FunctionsChangeTheirFramesAlone =
    (p : Program) → IsFramed p → (id : RoutineId) (r : Routine) (t : TypeId) → routine_at p id ≡ Some r → r.result ≡ Some t → (state : State) → IsRightFor p (Some id) state
    → (turns : ℕ) (choices : List Value) (after : State) → (run p turns (begun p (Some id) state) r.body state choices).end ≡ Ended after
    → pop after ≡ pop state

-- a called routine whose run ended wrote, below its frame, in the places that its VAR parameters refer to, and in the items of
-- its VAR groups
abbrev pub CalledRoutinesWriteWhatTheyMay : Type 0
CalledRoutinesWriteWhatTheyMay =
    (p : Program) → IsFramed p → (id : RoutineId) (q : Routine) → routine_at p id ≡ Some q → (types : List FrameType) (bound : Bound) → IsRight p types bound.state
    → IsTrue (names_right p types bound.state.heap (map formal_slot q.formals) bound.names)
    → (turns : ℕ) (choices : List Value) (after : State) → (enter p (level p turns) id (Some q) bound choices).end ≡ Ended after
    → Writes p (call_areas bound.names q) bound.state (pop after)

-- ---- what stays apart

-- where nothing overlaps that a routine has, nothing overlaps after writing
abbrev pub WritingKeepsApart : Type 0
WritingKeepsApart =
    (p : Program) (here : Option RoutineId) (state : State) → IsRightFor p here state → IsTrue (apart (routine_in p here) state)
    → (areas : List Area) (after : State) → Writes p areas state after → IsTrue (apart (routine_in p here) after)

-- writing leaves starts
abbrev pub WritingLeavesStarts : Type 0
WritingLeavesStarts =
    (p : Program) (here : Option RoutineId) (state : State) → IsStart p here state
    → (areas : List Area) (after : State) → Writes p areas state after → IsStart p here after

-- a statement that ended, from a start, ended in a start
abbrev pub StatementsLeaveStarts : Type 0
StatementsLeaveStarts =
    (p : Program) → IsFramed p → (here : Here) (s : Statement) → IsTrue (statement_ok p (routine_in p here.routine) s) → (state : State) → IsStart p here.routine state
    → (turns : ℕ) (choices : List Value) (after : State) → (run p turns here s state choices).end ≡ Ended after → IsStart p here.routine after

-- from a start, a call whose VAR arguments have different roots, none of them an item of the callee's list, begins its
-- routine in a start: the callee's frame is apart, and its VAR places exist
abbrev pub CallsBeginInStarts : Type 0
CallsBeginInStarts =
    (p : Program) → IsFramed p → (here : Here) (state : State) → IsStart p here.routine state
    → (id : RoutineId) (line : ℕ) (given : Arguments) (q : Routine) → callee p (routine_in p here.routine) (call id line given) ≡ Some q
    → IsTrue (arguments_apart p (routine_in p here.routine) (call id line given)) → IsTrue (call_shown p (routine_in p here.routine) (call id line given))
    → (turns : ℕ) (choices : List Value) (bound : Bound) → (arguments p (below_turns p turns) here q.formals given state choices).end ≡ Ended bound
    → (others : List Value) (own : List (Symbol × Binding)) → (choose_all p (result_name q.name q.result ++ q.locals) others).end ≡ Ended own
    → IsStart p (Some id) (push id (bound.names ++ own) bound.state)

-- each call in the body of a routine, or of the main block, is such
abbrev pub BodiesCallSo : Type 0
BodiesCallSo =
    (p : Program) → IsFramed p → (here : Option RoutineId) → IsTrue (is_there p here)
    → IsTrue (list_all (λ c. arguments_apart p (routine_in p here) c && call_shown p (routine_in p here) c) (statement_calls (body_of p here)))

-- ---- views

-- after writing in the areas of roots that show, from a start, every other name and class of the view shows what it did
abbrev pub OtherNamesShowWhatTheyDid : Type 0
OtherNamesShowWhatTheyDid =
    (p : Program) (here : Option RoutineId) (state : State) → IsStart p here state
    → (roots : List Root) → IsTrue (list_all (root_shown (routine_in p here)) roots)
    → (after : State) → Writes p (areas_of state.frames roots) state after
    → (h : Head) → is_of_one (routine_in p here) roots h ≡ false → now_view p here after h ≡ now_view p here state h

-- a put at or below one name of the view, or in a cell of one class, changes that name alone, or that class
abbrev pub PutChangesOneOfTheView : Type 0
PutChangesOneOfTheView =
    (p : Program) (here : Option RoutineId) (state : State) → IsStart p here state
    → (root : Root) → IsTrue (root_shown (routine_in p here) root)
    → (a : Place) (e : Sort) (v : Value) → IsPlace (shapes p) state a e → IsTrue (fits (shapes p) v e) → IsTrue (is_in_one state.heap (root_areas state.frames root) a)
    → (h : Head) → is_of_one (routine_in p here) (root ∷ []) h ≡ false → now_view p here (put state a v) h ≡ now_view p here state h

-- what the body of a routine, or of the main block, changes shows
abbrev pub BodiesChangeWhatShows : Type 0
BodiesChangeWhatShows =
    (p : Program) → IsFramed p → (here : Option RoutineId) → IsTrue (is_there p here)
    → IsTrue (list_all (root_shown (routine_in p here)) (changed_roots p (routine_in p here) (body_of p here)))

-- after a statement that ended, from a start, whose changes show, every name and class that it does not change shows what it
-- did
abbrev pub StatementsChangeWhatTheyMay : Type 0
StatementsChangeWhatTheyMay =
    (p : Program) → IsFramed p → (here : Here) (s : Statement) → IsTrue (statement_ok p (routine_in p here.routine) s)
    → IsTrue (list_all (root_shown (routine_in p here.routine)) (changed_roots p (routine_in p here.routine) s))
    → (state : State) → IsStart p here.routine state
    → (turns : ℕ) (choices : List Value) (after : State) → (run p turns here s state choices).end ≡ Ended after
    → (h : Head) → is_of_one (routine_in p here.routine) (changed_roots p (routine_in p here.routine) s) h ≡ false
    → now_view p here.routine after h ≡ now_view p here.routine state h
