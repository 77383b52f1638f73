-- Calls: what levels keep, and the run of a routine.
use Rattle.spv_meaning.proofs.RightFrames.{names_append}
use Rattle.spv_meaning.specs.FrameTypes.{FrameType, IsIn, formal_slot, frame_of, in_routine, names_right, own_slot, place_sort}
use Rattle.std.proofs.Common.{◌≡◌, true, false, List, ◌∷◌, ◌++◌, map, ap, ◌∙◌, Option, Some, ℤ, option_map}
use Rattle.std.specs.List.{list_all, list_any}
use Rattle.spv_logic.proofs.list.Tests.{left_true, right_true}
use Rattle.spv_logic.specs.declared.names.names.Symbol.{Symbol}
use Rattle.spv_logic.specs.declared.types.TypeId.{TypeId}
use Rattle.spv_logic.specs.declared.types.Sort.{Sort}
use Rattle.spv_logic.specs.declared.types.Sort.TheVariants as sort
use Rattle.spv_logic.specs.declared.conditions.RoutineId.{RoutineId}
use Rattle.spv_logic.specs.Values.{Value}
use Rattle.spv_logic.specs.Fits.{fits}
use Rattle.spv_program.specs.Lists.{same_name, all_differ}
use Rattle.spv_program.specs.Types.{sort_of, type_exists, same_item}
use Rattle.spv_program.specs.Programs.{Formal, Routine, Program, shapes, routine_at, routine_in}
use Rattle.spv_program.specs.Scopes.{result_name, name_type, entry_scope, exit_scope}
use Rattle.spv_program.specs.FormulaTypes.{annotation_ok}
use Rattle.spv_program.specs.Statements.{Statement}
use Rattle.spv_program.specs.Typing.{well_typed, declarations_ok, heading_ok, item_exists, types_exist, result_ok, may_be_initial, routine_ok, scope_names, statement_ok}
use Rattle.spv_meaning.specs.Places.{HeapRow, State}
use Rattle.spv_meaning.specs.Outcomes.{meets}
use Rattle.spv_meaning.specs.Levels.{Here, Loop, Level, Bound, choose_all, push, run_routine, enter, reached_entry, reached_exit}
use Rattle.spv_meaning.specs.Views.{entry_view}
use Rattle.spv_meaning.specs.Evaluation.{Got, Fixed}
use Rattle.spv_meaning.proofs.Differing.{first_differs, others_differ, differ_left, none_left}
use Rattle.spv_meaning.proofs.RoutineStarts.{item_passes}
use Rattle.spv_preservation.specs.Right.{Leaves}
use Rattle.spv_preservation.proofs.Outcomes.{IfEnded, if_then, if_meets}
use Rattle.spv_preservation.proofs.Frames.{all_chosen, pushed}

-- what an expression gives: a value of a sort, and a right state
pub record GotRight (p : Program) (types : List FrameType) (before : List HeapRow) (s : Sort) (got : Got) : Type 0 where
  pub leaves : Leaves p types before got.state
  pub fit : fits (shapes p) got.value s ≡ true

-- a place of a type's sort, and a right state
pub record FixedRight (p : Program) (types : List FrameType) (before : List HeapRow) (t : TypeId) (fixed : Fixed) : Type 0 where
  pub leaves : Leaves p types before fixed.state
  pub place : place_sort p types fixed.state.heap fixed.place ≡ Some (sort_of p.forms t)

-- parameters that are rightly bound, and a right state
pub record BoundRight (p : Program) (types : List FrameType) (before : List HeapRow) (formals : List Formal) (bound : Bound) : Type 0 where
  pub leaves : Leaves p types before bound.state
  pub names : names_right p types bound.state.heap (map formal_slot formals) bound.names ≡ true

-- the variable of a FOR is a number
pub record Counts (p : Program) (here : Option RoutineId) (x : Symbol) : Type 0 where
  pub type : TypeId
  pub is : name_type p (routine_in p here) x ≡ Some type
  pub number : sort_of p.forms type ≡ sort.Int

-- what there is with one turn less leaves right states
pub record LevelKeeps (p : Program) (level : Level) : Type 0 where
  pub run : (here : Here) (types : List FrameType) → IsIn p here.routine types → (s : Statement) → statement_ok p (routine_in p here.routine) s ≡ true → (before : List HeapRow) (state : State) → Leaves p types before state → (choices : List Value)
      → IfEnded (Leaves p types before) (level.run here s state choices)
  pub next : (here : Here) (types : List FrameType) → IsIn p here.routine types → (loop : Loop) → Counts p here.routine loop.count.variable → statement_ok p (routine_in p here.routine) loop.body ≡ true → (end candidate : ℤ) (before : List HeapRow) (state : State) → Leaves p types before state → (choices : List Value)
      → IfEnded (Leaves p types before) (level.next here loop end candidate state choices)

-- ---- what a well typed program says of its routines

pub record RoutineRight (p : Program) (r : Routine) : Type 0 where
  pub body : statement_ok p (Some r) r.body ≡ true
  pub result : list_any (same_name r.name) (map (λ f. f.name) r.formals) ≡ false

pub names_differ : (p : Program) → well_typed p ≡ true → (id : RoutineId) (r : Routine) → routine_at p id ≡ Some r → all_differ same_name (scope_names r) ≡ true
names_differ p typed id r there =
    let ok = item_passes (routine_ok p) p.routines id.0 r (left_true (list_all (routine_ok p) p.routines) _ (right_true (declarations_ok p) _ typed)) there in
    right_true (list_all (λ i. may_be_initial r i.1) r.initial) _
    (right_true (all_differ same_item (map (λ g. g.item) r.globals)) _
    (right_true (list_all (λ g. item_exists p g.item) r.globals) _
    (right_true (types_exist p r.locals) _
    (right_true (result_ok p r.result) _
    (right_true (list_all (λ f. type_exists p.forms f.of) r.formals) _ (left_true (heading_ok p r) _ ok))))))

-- the names of the parameters differ
pub formals_differ : (p : Program) → well_typed p ≡ true → (id : RoutineId) (r : Routine) → routine_at p id ≡ Some r → all_differ same_name (map (λ f. f.name) r.formals) ≡ true
formals_differ p typed id r there = differ_left same_name (map (λ f. f.name) r.formals) _ (others_differ same_name r.name _ (names_differ p typed id r there))

pub routine_right : (p : Program) → well_typed p ≡ true → (id : RoutineId) (r : Routine) → routine_at p id ≡ Some r → RoutineRight p r
routine_right p typed id r there =
    let ok = item_passes (routine_ok p) p.routines id.0 r (left_true (list_all (routine_ok p) p.routines) _ (right_true (declarations_ok p) _ typed)) there in
    record {
      body = right_true (annotation_ok p (exit_scope p r) r.exit) _ (right_true (annotation_ok p (entry_scope p r) r.entry) _ (right_true (heading_ok p r) _ ok));
      result = none_left (same_name r.name) (map (λ f. f.name) r.formals) _ (first_differs same_name r.name _ (names_differ p typed id r there));
    }

-- ---- the run of a routine

module _ (p : Program) (typed : well_typed p ≡ true) (level : Level) (keeps : LevelKeeps p level) (id : RoutineId) (r : Routine) (there : routine_at p id ≡ Some r) (types : List FrameType) (before : List HeapRow) where
  abbrev inner : List FrameType
  inner = frame_of id r ∷ types

  body_ok : statement_ok p (routine_in p (Some id)) r.body ≡ true
  body_ok = ap (λ o. statement_ok p o r.body) there ∙ (routine_right p typed id r there).body

  routine_runs : (state : State) → Leaves p inner before state → (choices : List Value) → IfEnded (Leaves p inner before) (run_routine p level id r state choices)
  routine_runs state leaves choices =
      let here : Here = record { routine = Some id; entry = entry_view p (Some id) state } in
      if_then (Leaves p inner before) (Leaves p inner before) (meets (option_map (reached_entry p here r state) r.entry) state choices) _ (if_meets (Leaves p inner before) (option_map (reached_entry p here r state) r.entry) state choices leaves) (λ begun rest at_begin.
      if_then (Leaves p inner before) (Leaves p inner before) (level.run here r.body begun rest) _ (keeps.run here inner (in_routine id r types there) r.body body_ok before begun at_begin rest) (λ after last at_end.
      if_meets (Leaves p inner before) (option_map (reached_exit p here r after) r.exit) after last at_end))

  -- a call with parameters that are rightly bound
  pub entered : (bound : Bound) → BoundRight p types before r.formals bound → (choices : List Value) → IfEnded (Leaves p inner before) (enter p level id (Some r) bound choices)
  entered bound right choices =
      if_then (λ own. names_right p types bound.state.heap (map own_slot (result_name r.name r.result ++ r.locals)) own ≡ true) (Leaves p inner before) (choose_all p (result_name r.name r.result ++ r.locals) choices) _
      (all_chosen p types bound.state.heap (result_name r.name r.result ++ r.locals) choices) (λ own rest chosen.
      routine_runs (push id (bound.names ++ own) bound.state)
      (pushed p id r types before bound.state (bound.names ++ own) right.leaves
      (names_append p types bound.state.heap (map formal_slot r.formals) (map own_slot (result_name r.name r.result ++ r.locals)) bound.names own right.names chosen)) rest)
