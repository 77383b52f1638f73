-- What the run of a called routine writes.
use Rattle.std.proofs.Common.{◌≡◌, ℕ, Bool, true, false, cond, not, List, [], ◌∷◌, ◌++◌, map, filter, length, refl, sym, ap, subst, ◌∙◌, Some, option_map}
use Rattle.std.specs.List.{list_any}
use Rattle.spv_logic.proofs.list.Tests.{left_true, right_true, left_false, right_false}
use Rattle.spv_logic.specs.declared.names.names.Symbol.{Symbol}
use Rattle.spv_logic.specs.declared.types.TypeId.{TypeId}
use Rattle.spv_logic.specs.declared.conditions.RoutineId.{RoutineId}
use Rattle.spv_logic.specs.Values.{Value}
use Rattle.spv_program.specs.Programs.{GlobalItem, Routine, Program, routine_at, routine_in}
use Rattle.spv_program.specs.Scopes.{result_name}
use Rattle.spv_program.specs.Uses.{Root}
use Rattle.spv_program.specs.Frames.{changes_nothing}
use Rattle.spv_program.specs.Changes.{var_items, changed_roots}
use Rattle.spv_program.specs.Typing.{well_typed, statement_ok}
use Rattle.spv_meaning.specs.Places.{Binding, HeapRow, State}
use Rattle.spv_meaning.specs.Views.{entry_view}
use Rattle.spv_meaning.specs.Outcomes.{meets}
use Rattle.spv_meaning.specs.Levels.{Here, Level, Bound, push, pop, choose_all, run_routine, enter, reached_entry, reached_exit}
use Rattle.spv_meaning.specs.FrameTypes.{FrameType, frame_of, formal_slot, in_routine, names_right, own_slot}
use Rattle.spv_meaning.specs.Starts.{Area, IsRight}
use Rattle.spv_meaning.proofs.Differing.{not_true}
use Rattle.spv_meaning.proofs.RightFrames.{names_append}
use Rattle.spv_preservation.proofs.Outcomes.{IfEnded, if_then, if_meets}
use Rattle.spv_preservation.proofs.Growing.{grows_not}
use Rattle.spv_preservation.proofs.Frames.{all_chosen, pushed}
use Rattle.spv_preservation.proofs.Calls.{BoundRight, LevelKeeps, routine_right}
use Rattle.spv_writes.specs.Writes.{Writes, without_frame}
use Rattle.spv_frame_law.specs.Frames.{area_of_item, areas_of, referred, call_areas}
use Rattle.spv_writes.proofs.Lists.{any_left, any_right, any_of_two}
use Rattle.spv_writes.proofs.Kept.{widen}
use Rattle.spv_writes.proofs.Popped.{popped}
use Rattle.spv_frame_law.proofs.Covering.{covered_by, left_areas, referred_front}
use Rattle.spv_frame_law.proofs.Names.{none_referred, own_by_value, formals_by_place}
use Rattle.spv_frame_law.proofs.Records.{ChangesAmong, changes_itself, KeepsTo, Wrote, LevelWrites, if_as}

module _ (p : Program) (typed : well_typed p ≡ true) (level : Level) (keeps : LevelKeeps p level) (writes : LevelWrites p level) (id : RoutineId) (q : Routine) (there : routine_at p id ≡ Some q) (to : KeepsTo p q) (types : List FrameType) where
  abbrev inner : List FrameType
  inner = frame_of id q ∷ types

  abbrev roots : List Root
  roots = changed_roots p (Some q) q.body

  body_ok : statement_ok p (routine_in p (Some id)) q.body ≡ true
  body_ok = ap (λ o. statement_ok p o q.body) there ∙ (routine_right p typed id q there).body

  body_changes : ChangesAmong p (routine_in p (Some id)) roots q.body
  body_changes = subst (λ o. ChangesAmong p o roots q.body) (sym there) (changes_itself p (Some q) q.body)

  -- the run of the routine in a state whose newest frame is its own
  pub routine_writes : (state : State) → IsRight p inner state → (choices : List Value) → IfEnded (Wrote p inner roots state) (run_routine p level id q state choices)
  routine_writes state right choices =
      let here : Here = record { routine = Some id; entry = entry_view p (Some id) state } in
      if_then (λ x. x ≡ state) (Wrote p inner roots state) (meets (option_map (reached_entry p here q state) q.entry) state choices) _ (if_meets (λ x. x ≡ state) (option_map (reached_entry p here q state) q.entry) state choices refl) (λ begun rest same.
      if_then (Wrote p inner roots state) (Wrote p inner roots state) (level.run here q.body begun rest) _
      (subst (λ x. IfEnded (Wrote p inner roots state) (level.run here q.body x rest)) (sym same) (writes.run here inner (in_routine id q types there) q.body body_ok roots body_changes state right rest)) (λ after last wrote.
      if_meets (Wrote p inner roots state) (option_map (reached_exit p here q after) q.exit) after last wrote))

  -- what it wrote, below its frame
  below_frame : (bound : Bound) (own : List (Symbol × Binding)) (after : State) → referred own ≡ [] → Wrote p inner roots (push id (bound.names ++ own) bound.state) after → Writes p (call_areas bound.names q) bound.state (pop after)
  below_frame bound own after none wrote =
      let number : ℕ = length bound.state.frames in
      let areas : List Area = areas_of (push id (bound.names ++ own) bound.state).frames roots in
      widen p (without_frame number areas) (call_areas bound.names q) bound.state.heap
      (covered_by bound.state.heap (without_frame number areas) (call_areas bound.names q) (λ f h. without_own f (left_areas f (record { routine = id; names = bound.names ++ own }) bound.state.frames (var_items q.globals) roots to.body h)))
      bound.state (pop after) (popped p areas number (push id (bound.names ++ own) bound.state) after wrote.writes refl) (grows_not bound.state.heap)
    where
      without_own : (f : Area → Bool) → list_any f (referred (bound.names ++ own) ++ map area_of_item (var_items q.globals)) ≡ true → list_any f (call_areas bound.names q) ≡ true
      without_own f h =
          any_of_two f (referred (bound.names ++ own)) (map area_of_item (var_items q.globals)) (list_any f (call_areas bound.names q) ≡ true) h
          (λ k. any_left f (referred bound.names) (map area_of_item (var_items q.globals)) (referred_front f bound.names own none k))
          (λ k. any_right f (referred bound.names) (map area_of_item (var_items q.globals)) k)

  -- a call with parameters that are rightly bound
  pub entered_writes : (before : List HeapRow) (bound : Bound) → BoundRight p types before q.formals bound → (choices : List Value) → IfEnded (λ after. Writes p (call_areas bound.names q) bound.state (pop after)) (enter p level id (Some q) bound choices)
  entered_writes before bound right choices =
      let names : List (Symbol × TypeId) = result_name q.name q.result ++ q.locals in
      if_then (λ own. names_right p types bound.state.heap (map own_slot names) own ≡ true) (λ after. Writes p (call_areas bound.names q) bound.state (pop after)) (choose_all p names choices) _
      (all_chosen p types bound.state.heap names choices) (λ own rest chosen.
      let state : State = push id (bound.names ++ own) bound.state in
      let left = pushed p id q types before bound.state (bound.names ++ own) right.leaves (names_append p types bound.state.heap (map formal_slot q.formals) (map own_slot names) bound.names own right.names chosen) in
      if_as (Wrote p inner roots state) (λ after. Writes p (call_areas bound.names q) bound.state (pop after)) (run_routine p level id q state rest)
      (λ after wrote. below_frame bound own after (none_referred p types bound.state.heap (map own_slot names) own (own_by_value names) chosen) wrote)
      (routine_writes state left.right rest))

-- a call of what changes nothing writes nothing
pub no_items : (globals : List GlobalItem) → list_any (λ g. g.is_var) globals ≡ false → var_items globals ≡ []
no_items [] none = refl
no_items (g ∷ globals) none =
    ap (λ b. map (λ g. g.item) (cond b (g ∷ filter (λ g. g.is_var) globals) (filter (λ g. g.is_var) globals))) (left_false g.is_var (list_any (λ g. g.is_var) globals) none)
    ∙ no_items globals (right_false g.is_var (list_any (λ g. g.is_var) globals) none)

pub nothing_called : (p : Program) (types : List FrameType) (heap : List HeapRow) (q : Routine) (names : List (Symbol × Binding)) → changes_nothing q ≡ true → names_right p types heap (map formal_slot q.formals) names ≡ true → call_areas names q ≡ []
nothing_called p types heap q names quiet right =
    let values = not_true (list_any (λ f. f.by_place) q.formals) (left_true (not (list_any (λ f. f.by_place) q.formals)) _ quiet) in
    let groups = not_true (list_any (λ g. g.is_var) q.globals) (right_true (not (list_any (λ f. f.by_place) q.formals)) _ quiet) in
    let one : referred names ≡ [] = none_referred p types heap (map formal_slot q.formals) names (formals_by_place q.formals ∙ values) right in
    let two : var_items q.globals ≡ [] = no_items q.globals groups in
    λ i. one i ++ map area_of_item (two i)
