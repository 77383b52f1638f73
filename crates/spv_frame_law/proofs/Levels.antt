-- What runs with any number of turns write.
use Rattle.std.proofs.Common.{◌≡◌, ℕ, zero, suc, Bool, true, false, cond, not, List, [], ◌∷◌, ◌++◌, map, drop, ◌||◌, length, refl, sym, ap, subst, ◌∙◌, Option, Some, None, is_some}
use Rattle.std.specs.List.{list_all, list_any}
use Rattle.std.proofs.lemmas.Bool.{false≢true}
use Rattle.spv_logic.proofs.list.Tests.{left_true, right_true}
use Rattle.spv_logic.specs.declared.names.names.Symbol.{Symbol}
use Rattle.spv_logic.specs.declared.types.TypeId.{TypeId}
use Rattle.spv_logic.specs.declared.types.Sort.{Sort}
use Rattle.spv_logic.specs.declared.conditions.RoutineId.{RoutineId}
use Rattle.spv_logic.specs.Values.{Value}
use Rattle.spv_program.specs.declared.types.Item.{Item}
use Rattle.spv_program.specs.Lists.{same_name, found}
use Rattle.spv_program.specs.Expressions.{Expression, Designator, Arguments}
use Rattle.spv_program.specs.Statements.{Statement}
use Rattle.spv_program.specs.Programs.{Formal, Routine, Program, routine_at, routine_in}
use Rattle.spv_program.specs.Scopes.{result_name}
use Rattle.spv_program.specs.Uses.{Root, Own, Shared}
use Rattle.spv_program.specs.Frames.{changes_nothing}
use Rattle.spv_program.specs.Changes.{var_items, changed_roots}
use Rattle.spv_program.specs.ExpressionTypes.{expression_sort, designator_type, arguments_fit}
use Rattle.spv_program.specs.Typing.{statement_ok, well_typed}
use Rattle.spv_program.proofs.SortFacts.{nothing_there, some_is}
use Rattle.spv_meaning.specs.Places.{Binding, Frame, State}
use Rattle.spv_meaning.specs.Outcomes.{Jump, Ended}
use Rattle.spv_meaning.specs.Levels.{Here, Level, Bound, enter, pop}
use Rattle.spv_meaning.specs.Evaluation.{Got, Fixed, evaluate, fix, arguments}
use Rattle.spv_meaning.specs.Walks.{level_over, level, run}
use Rattle.spv_meaning.specs.FrameTypes.{FrameType, IsIn, formal_slot, frame_of, frames_right, in_routine, names_right, own_slot, slots_of}
use Rattle.spv_meaning.specs.Starts.{Area, IsRight, IsRightFor, bound_area, frame_areas}
use Rattle.spv_meaning.specs.Correct.{begun}
use Rattle.spv_meaning.proofs.Differing.{not_true, none_both}
use Rattle.spv_meaning.proofs.Maps.{same_names}
use Rattle.spv_preservation.proofs.Growing.{grows_not}
use Rattle.spv_preservation.proofs.Roots.{first_frame}
use Rattle.spv_preservation.proofs.Frames.{leaves_now}
use Rattle.spv_preservation.proofs.Calls.{BoundRight, LevelKeeps, routine_right}
use Rattle.spv_preservation.proofs.Expressions.{binds_rightly}
use Rattle.spv_preservation.proofs.Levels.{statement_jumps, level_keeps}
use Rattle.spv_writes.specs.Writes.{Writes, without_frame}
use Rattle.spv_writes.proofs.Lists.{or_right, any_left, any_right, any_of_two}
use Rattle.spv_writes.proofs.Kept.{widen, unwritten}
use Rattle.spv_writes.proofs.Popped.{popped}
use Rattle.spv_frame_law.specs.Frames.{area_of_item, bound_areas, root_areas, areas_of, referred, call_areas, routine_areas}
use Rattle.spv_frame_law.specs.Laws.{IsFramed, IsFixedIn, IsBoundIn, below_turns}
use Rattle.spv_frame_law.proofs.Covering.{covered_by, item_among, is_own_or, left_areas}
use Rattle.spv_frame_law.proofs.Names.{none_referred, own_by_value, formals_by_place}
use Rattle.spv_frame_law.proofs.Records.{AllKeepTo, LevelWrites, changes_itself}
use Rattle.spv_frame_law.proofs.Entering.{no_items, entered_writes}
use Rattle.spv_frame_law.proofs.Evaluating.{evaluates_same, fixes_in, binds_same}
use Rattle.spv_frame_law.proofs.Running.{runs_write, counting}
use Rattle.spv_frame_law.proofs.Sharing.{keeps_to}

-- ---- levels

over_writes : (p : Program) → well_typed p ≡ true → AllKeepTo p → (below : Option Level) → ((level : Level) → below ≡ Some level → LevelKeeps p level) → ((level : Level) → below ≡ Some level → LevelWrites p level) → LevelWrites p (level_over p below)
over_writes p typed to below keeps writes = record {
  run = λ here types inside s ok roots changes state right choices. runs_write p typed to below keeps writes here types inside roots s ok changes state right choices;
  next = λ here types inside loop counts body roots among changes end candidate state right choices. counting p typed to below keeps writes here types inside roots loop counts body among changes end candidate state right choices;
}

pub below_keeps : (p : Program) → well_typed p ≡ true → (turns : ℕ) (l : Level) → below_turns p turns ≡ Some l → LevelKeeps p l
below_keeps p typed zero l e = absurd (nothing_there e)
below_keeps p typed (suc n) l e = subst (LevelKeeps p) (some_is e) (level_keeps p typed n)

level_writes : (p : Program) → well_typed p ≡ true → AllKeepTo p → (turns : ℕ) → LevelWrites p (level p turns)
level_writes p typed to zero = over_writes p typed to None (below_keeps p typed zero) (λ l e. absurd (nothing_there e))
level_writes p typed to (suc n) = over_writes p typed to (Some (level p n)) (below_keeps p typed (suc n)) (λ l e. subst (LevelWrites p) (some_is e) (level_writes p typed to n))

below_writes : (p : Program) → well_typed p ≡ true → AllKeepTo p → (turns : ℕ) (l : Level) → below_turns p turns ≡ Some l → LevelWrites p l
below_writes p typed to zero l e = absurd (nothing_there e)
below_writes p typed to (suc n) l e = subst (LevelWrites p) (some_is e) (level_writes p typed to n)

-- ---- the frame law

pub all_keep : (p : Program) → IsFramed p → AllKeepTo p
all_keep p f = keeps_to p f.typed f.framed

pub statement_writes : (p : Program) → IsFramed p → (here : Here) (types : List FrameType) → IsIn p here.routine types → (s : Statement) → statement_ok p (routine_in p here.routine) s ≡ true → (state : State) → IsRight p types state
    → (turns : ℕ) (choices : List Value) (after : State) → (run p turns here s state choices).end ≡ Ended after → Writes p (areas_of state.frames (changed_roots p (routine_in p here.routine) s)) state after
statement_writes p f here types inside s ok state right turns choices after ended =
    (((level_writes p f.typed (all_keep p f) turns).run here types inside s ok (changed_roots p (routine_in p here.routine) s) (changes_itself p (routine_in p here.routine) s) state right choices).holds after ended).writes

pub jump_writes : (p : Program) → IsFramed p → (here : Here) (types : List FrameType) → IsIn p here.routine types → (s : Statement) → statement_ok p (routine_in p here.routine) s ≡ true → (state : State) → IsRight p types state
    → (turns : ℕ) (choices : List Value) (label : ℕ) (at : State) → (run p turns here s state choices).end ≡ Jump label at → Writes p (areas_of state.frames (changed_roots p (routine_in p here.routine) s)) state at
jump_writes p f here types inside s ok state right turns choices label at jumped = absurd (statement_jumps p f.typed here types inside s ok state right turns choices label at jumped)

pub expression_same : (p : Program) → IsFramed p → (here : Here) (types : List FrameType) → IsIn p here.routine types → (e : Expression) (s : Sort) → expression_sort p (routine_in p here.routine) e ≡ Some s → (state : State) → IsRight p types state
    → (turns : ℕ) (choices : List Value) (got : Got) → (evaluate p (below_turns p turns) here e state choices).end ≡ Ended got → got.state ≡ state
expression_same p f here types inside e s told state right turns choices got ended =
    ((evaluates_same p f.typed (all_keep p f) (below_turns p turns) (below_keeps p f.typed turns) (below_writes p f.typed (all_keep p f) turns) here types inside e s told state right choices).holds got ended).same

pub place_fixed : (p : Program) → IsFramed p → (here : Here) (types : List FrameType) → IsIn p here.routine types → (d : Designator) (t : TypeId) → designator_type p (routine_in p here.routine) d ≡ Some t → (state : State) → IsRight p types state
    → (turns : ℕ) (choices : List Value) (fixed : Fixed) → (fix p (below_turns p turns) here d state choices).end ≡ Ended fixed → IsFixedIn p here state d fixed
place_fixed p f here types inside d t told state right turns choices fixed ended =
    let q = (fixes_in p f.typed (all_keep p f) (below_turns p turns) (below_keeps p f.typed turns) (below_writes p f.typed (all_keep p f) turns) here types inside d t told state right choices).holds fixed ended in
    record { same = q.same; inside = q.inside }

pub arguments_bound : (p : Program) → IsFramed p → (here : Here) (types : List FrameType) → IsIn p here.routine types → (formals : List Formal) (given : Arguments) → arguments_fit p (routine_in p here.routine) formals given ≡ true → (state : State) → IsRight p types state
    → (turns : ℕ) (choices : List Value) (bound : Bound) → (arguments p (below_turns p turns) here formals given state choices).end ≡ Ended bound → IsBoundIn p here state given bound
arguments_bound p f here types inside formals given fit state right turns choices bound ended =
    let q = (binds_same p f.typed (all_keep p f) (below_turns p turns) (below_keeps p f.typed turns) (below_writes p f.typed (all_keep p f) turns) here types inside formals given fit state right choices).holds bound ended in
    record { same = q.same; names = q.names }

-- parameters are rightly bound
pub bound_rightly : (p : Program) → IsFramed p → (here : Here) (types : List FrameType) → IsIn p here.routine types → (formals : List Formal) (given : Arguments) → arguments_fit p (routine_in p here.routine) formals given ≡ true → (state : State) → IsRight p types state
    → (turns : ℕ) (choices : List Value) (bound : Bound) → (arguments p (below_turns p turns) here formals given state choices).end ≡ Ended bound → BoundRight p types state.heap formals bound
bound_rightly p f here types inside formals given fit state right turns choices bound ended =
    (binds_rightly p f.typed (below_turns p turns) (below_keeps p f.typed turns) here types inside formals given fit state.heap state (leaves_now p types state right) choices).holds bound ended

-- a called routine
pub called_writes : (p : Program) → IsFramed p → (id : RoutineId) (q : Routine) → routine_at p id ≡ Some q → (types : List FrameType) (bound : Bound) → IsRight p types bound.state → names_right p types bound.state.heap (map formal_slot q.formals) bound.names ≡ true
    → (turns : ℕ) (choices : List Value) (after : State) → (enter p (level p turns) id (Some q) bound choices).end ≡ Ended after → Writes p (call_areas bound.names q) bound.state (pop after)
called_writes p f id q there types bound right names turns choices after ended =
    (entered_writes p f.typed (level p turns) (level_keeps p f.typed turns) (level_writes p f.typed (all_keep p f) turns) id q there ((all_keep p f).each id q there) types bound.state.heap bound
    (record { leaves = leaves_now p types bound.state right; names = names }) choices).holds after ended

-- ---- routines

-- what an own name covers is among what the frame covers
bound_member : (f : Area → Bool) (number : ℕ) (names : List (Symbol × Binding)) (x : Symbol) → list_any f (bound_areas number x (found names x)) ≡ true → list_any f (map (bound_area number) names) ≡ true
bound_member f number [] x h = h
bound_member f number (n ∷ names) x h = by_name (same_name n.0 x) refl h (bound_member f number names x)
  where
    by_case : (b : Bool) → (b || false) ≡ true → (b || list_any f (map (bound_area number) names)) ≡ true
    by_case true h = refl
    by_case false h = absurd (false≢true h)

    by_name : (b : Bool) → same_name n.0 x ≡ b → list_any f (bound_areas number x (cond b (Some n.1) (found names x))) ≡ true
        → (list_any f (bound_areas number x (found names x)) ≡ true → list_any f (map (bound_area number) names) ≡ true)
        → list_any f (map (bound_area number) (n ∷ names)) ≡ true
    by_name true e h later = by_case (f (bound_area number n)) (ap (λ y. f (bound_area number (y, n.1)) || false) (same_names n.0 x e) ∙ h)
    by_name false e h later = or_right (f (bound_area number n)) (list_any f (map (bound_area number) names)) (later h)

frame_member : (f : Area → Bool) (frames : List Frame) (items : List Item) (roots : List Root) → list_all (is_own_or items) roots ≡ true → list_any f (areas_of frames roots) ≡ true → list_any f (frame_areas frames ++ map area_of_item items) ≡ true
frame_member f frames items [] all h = absurd (false≢true h)
frame_member f frames items (root ∷ roots) all h =
    any_of_two f (root_areas frames root) (areas_of frames roots) (list_any f (frame_areas frames ++ map area_of_item items) ≡ true) h
    (by_root frames root (left_true (is_own_or items root) (list_all (is_own_or items) roots) all))
    (frame_member f frames items roots (right_true (is_own_or items root) (list_all (is_own_or items) roots) all))
  where
    only : (b : Bool) → (b || false) ≡ true → b ≡ true
    only true h = refl
    only false h = h

    by_root : (frames : List Frame) (root : Root) → is_own_or items root ≡ true → list_any f (root_areas frames root) ≡ true → list_any f (frame_areas frames ++ map area_of_item items) ≡ true
    by_root [] (Own x) ok h = absurd (false≢true h)
    by_root (g ∷ frames) (Own x) ok h = any_left f (map (bound_area (length frames)) g.names) (map area_of_item items) (bound_member f (length frames) g.names x h)
    by_root frames (Shared i) ok h = any_right f (frame_areas frames) (map area_of_item items) (item_among f i items ok (only (f (area_of_item i)) h))

module _ (p : Program) (f : IsFramed p) (id : RoutineId) (r : Routine) (there : routine_at p id ≡ Some r) where
  -- what the body wrote
  body_writes : (types : List FrameType) → IsIn p (Some id) types → (state : State) → IsRight p types state → (turns : ℕ) (choices : List Value) (after : State) → (run p turns (begun p (Some id) state) r.body state choices).end ≡ Ended after
      → Writes p (areas_of state.frames (changed_roots p (Some r) r.body)) state after
  body_writes types inside state right turns choices after ended =
      subst (λ o. Writes p (areas_of state.frames (changed_roots p o r.body)) state after) there
      (statement_writes p f (begun p (Some id) state) types inside r.body (ap (λ o. statement_ok p o r.body) there ∙ (routine_right p f.typed id r there).body) state right turns choices after ended)

  pub routine_writes : (state : State) → IsRightFor p (Some id) state → (turns : ℕ) (choices : List Value) (after : State) → (run p turns (begun p (Some id) state) r.body state choices).end ≡ Ended after → Writes p (routine_areas r state) state after
  routine_writes state right turns choices after ended =
      let roots : List Root = changed_roots p (Some r) r.body in
      widen p (areas_of state.frames roots) (routine_areas r state) state.heap
      (covered_by state.heap (areas_of state.frames roots) (routine_areas r state) (λ g h. frame_member g state.frames (var_items r.globals) roots ((all_keep p f).each id r there).body h))
      state after (body_writes right.types right.inside state right.right turns choices after ended) (grows_not state.heap)

  -- no name of a function's frame refers to a place
  slots_by_value : changes_nothing r ≡ true → list_any (λ s. s.by_place) (slots_of r) ≡ false
  slots_by_value quiet =
      none_both (λ s. s.by_place) (map formal_slot r.formals) (map own_slot (result_name r.name r.result ++ r.locals))
      (formals_by_place r.formals ∙ not_true (list_any (λ g. g.by_place) r.formals) (left_true (not (list_any (λ g. g.by_place) r.formals)) _ quiet))
      (own_by_value (result_name r.name r.result ++ r.locals))

  pub function_alone : (t : TypeId) → r.result ≡ Some t → (state : State) → IsRightFor p (Some id) state → (turns : ℕ) (choices : List Value) (after : State) → (run p turns (begun p (Some id) state) r.body state choices).end ≡ Ended after → pop after ≡ pop state
  function_alone t is state right turns choices after ended =
      by_types right.types right.inside right.right (body_writes right.types right.inside state right.right turns choices after ended)
    where
      quiet : changes_nothing r ≡ true
      quiet = ((all_keep p f).each id r there).function (ap is_some is)

      items : var_items r.globals ≡ []
      items = no_items r.globals (not_true (list_any (λ g. g.is_var) r.globals) (right_true (not (list_any (λ g. g.by_place) r.formals)) _ quiet))

      none : (names : List (Symbol × Binding)) → referred names ≡ [] → referred names ++ map area_of_item (var_items r.globals) ≡ []
      none names e = λ i. e i ++ map area_of_item (items i)

      by_frames : (older : List FrameType) (x : State) (frames : List Frame) → x.frames ≡ frames → frames_right p (frame_of id r ∷ older) x.heap frames ≡ true → Writes p (areas_of x.frames (changed_roots p (Some r) r.body)) x after → pop after ≡ pop x
      by_frames older x [] same h written = absurd (false≢true h)
      by_frames older x (g ∷ frames) same h written =
          let roots : List Root = changed_roots p (Some r) r.body in
          let names = none_referred p older x.heap (slots_of r) g.names (slots_by_value quiet) (first_frame p (frame_of id r) older x.heap g frames h).names in
          let left : List Area = without_frame (length frames) (areas_of (g ∷ frames) roots) in
          unwritten p (pop x) (pop after)
          (widen p left [] x.heap
          (covered_by x.heap left [] (λ test k. sym (ap (list_any test) (none g.names names)) ∙ left_areas test g frames (var_items r.globals) roots ((all_keep p f).each id r there).body k))
          (pop x) (pop after)
          (popped p (areas_of (g ∷ frames) roots) (length frames) x after (subst (λ k. Writes p (areas_of k roots) x after) same written) (ap (λ k. length (drop 1 k)) same)) (grows_not x.heap))

      by_types : (types : List FrameType) → IsIn p (Some id) types → IsRight p types state → Writes p (areas_of state.frames (changed_roots p (Some r) r.body)) state after → pop after ≡ pop state
      by_types _ (in_routine _ q older found) h written =
          by_frames older state state.frames refl (subst (λ k. frames_right p (frame_of id k ∷ older) state.heap state.frames ≡ true) (some_is (sym found ∙ there)) h.frames) written
