-- Statements write in the areas of the roots that they change.
use Rattle.std.proofs.Common.{◌≡◌, ℕ, Bool, true, false, cond, ◌&&◌, List, [], ◌∷◌, ◌++◌, map, refl, sym, ap, subst, ◌∙◌, Option, Some, None, ℤ, option_map}
use Rattle.std.specs.List.{list_all, list_any}
use Rattle.std.specs.Ordering.{int_eq}
use Rattle.std.specs.Cmp.Derive.{both_true}
use Rattle.std.proofs.lemmas.Bool.{false≢true, eq-eqb}
use Rattle.spv_logic.proofs.list.Tests.{left_true, right_true}
use Rattle.spv_logic.specs.declared.names.names.Symbol.{Symbol}
use Rattle.spv_logic.specs.declared.types.TypeId.{TypeId}
use Rattle.spv_logic.specs.declared.types.Sort.{Sort}
use Rattle.spv_logic.specs.declared.types.Sort.TheVariants as sort
use Rattle.spv_logic.specs.declared.conditions.RoutineId.{RoutineId}
use Rattle.spv_logic.specs.declared.conditions.Kind.TheVariants as kind
use Rattle.spv_logic.specs.Values.{Value, Number, number_of, truth_of, pointer_of}
use Rattle.spv_logic.specs.Fits.{fits}
use Rattle.spv_program.specs.declared.types.Item.TheVariants.{Class}
use Rattle.spv_program.specs.Lists.{all_differ}
use Rattle.spv_program.specs.Types.{form_at, sort_of, target_of, takes_value}
use Rattle.spv_program.specs.Expressions.{Expression, Designator, Arguments, call}
use Rattle.spv_program.specs.Formulas.{Annotation}
use Rattle.spv_program.specs.Statements.{Counting, Statement, Arms, Empty, Assign, Perform, New, Sequence, If, Case, While, Repeat, For, Assert, no_arms, arm}
use Rattle.spv_program.specs.Programs.{Routine, Program, shapes, routine_in}
use Rattle.spv_program.specs.Scopes.{is_own, name_type, body_scope}
use Rattle.spv_program.specs.Uses.{Root, Shared, name_root, annotation_uses, expression_uses, designator_uses, argument_uses, statement_uses, arms_uses, expression_calls, argument_calls, statement_calls, arms_calls}
use Rattle.spv_program.specs.Frames.{root_of, place_roots}
use Rattle.spv_program.specs.Changes.{changed_by_call, var_items, items_of_callee}
use Rattle.spv_program.specs.FormulaTypes.{is_sort, same_sort, annotation_ok}
use Rattle.spv_program.specs.ExpressionTypes.{may_write, sort_of_type, expression_sort, designator_type, callee}
use Rattle.spv_program.specs.Typing.{well_typed, is_type, leads_to, labels_in, is_procedure, may_count, counting_ok, statement_ok, arms_ok}
use Rattle.spv_program.proofs.SortFacts.{is_sort-true, some_is, Behind}
use Rattle.spv_program.proofs.ExpressionSorting.{same_types, target_there, mapped}
use Rattle.spv_meaning.specs.declared.faults.Fault.TheVariants as fault
use Rattle.spv_meaning.specs.Places.{Binding, Holding, Referring, Place, HeapRow, State, put}
use Rattle.spv_meaning.specs.Outcomes.{Outcome, ends, and_then, stops_unless, take_choice}
use Rattle.spv_meaning.specs.Levels.{Here, Run, Loop, Level, Bound, with_turn, reached_in_body, pop, enter}
use Rattle.spv_meaning.specs.Evaluation.{Fixed, evaluate, fix, arguments, formals_of}
use Rattle.spv_meaning.specs.Walks.{is_new, with_new_cell, create, reaches, is_past, next_candidate, counter_place, counter_takes, count_on, walk, walk_arms}
use Rattle.spv_meaning.specs.FrameTypes.{FrameType, IsIn, place_sort}
use Rattle.spv_meaning.specs.Starts.{Area, IsRight}
use Rattle.spv_preservation.specs.facts.Places.{IsPlace}
use Rattle.spv_preservation.specs.Right.{Leaves}
use Rattle.spv_preservation.proofs.Outcomes.{IfEnded, if_ends, if_stops, if_then, if_unless, if_turn, if_taken, if_meets}
use Rattle.spv_preservation.proofs.Growing.{grows_not}
use Rattle.spv_preservation.proofs.Roots.{place_there}
use Rattle.spv_preservation.proofs.Puts.{put_right}
use Rattle.spv_preservation.proofs.Names.{name_place}
use Rattle.spv_preservation.proofs.Frames.{leaves_now}
use Rattle.spv_preservation.proofs.Calls.{GotRight, FixedRight, BoundRight, Counts, LevelKeeps}
use Rattle.spv_preservation.proofs.Expressions.{IsCallee, is_callee, evaluates, fixes, binds_rightly}
use Rattle.spv_preservation.proofs.Statements.{walks}
use Rattle.spv_writes.specs.Writes.{Writes, nothing, creates, is_in, is_in_one, is_cells_of}
use Rattle.spv_frame_law.specs.Frames.{area_of_item, root_areas, areas_of, referred, call_areas}
use Rattle.spv_writes.proofs.Lists.{or_left, all_left, all_right}
use Rattle.spv_writes.proofs.Places.{below_itself}
use Rattle.spv_writes.proofs.Steps.{new_grows, new_root}
use Rattle.spv_writes.proofs.Kept.{IsCovered, widen, one_put}
use Rattle.spv_frame_law.proofs.Covering.{among_areas, roots_among, items_among, refers_into, in_turn_all, referred_covered, covered_both, covered_by, later_one}
use Rattle.spv_frame_law.proofs.Names.{name_in}
use Rattle.spv_frame_law.proofs.Records.{is_among, use_among, call_among, ChangesAmong, AllKeepTo, And, if_and, if_as, moved, Wrote, wrote_on, GotSame, FixedSame, BoundSame, LevelWrites}
use Rattle.spv_frame_law.proofs.Uses.{written_root, place_roots_kept}
use Rattle.spv_frame_law.proofs.Entering.{entered_writes}
use Rattle.spv_frame_law.proofs.Evaluating.{evaluates_same, fixes_in, binds_same}

-- ---- places in areas of roots

in_roots : (heap : List HeapRow) (state : State) (root : Root) (roots : List Root) (a : Place) → is_among roots root ≡ true → is_in_one heap (root_areas state.frames root) a ≡ true → is_in_one heap (areas_of state.frames roots) a ≡ true
in_roots heap state root roots a among h = among_areas (is_in heap a) state.frames root roots among h

-- names that refer into some areas refer into wider ones
wider_names : (heap : List HeapRow) (areas others : List Area) (names : List (Symbol × Binding)) → ((a : Place) → is_in_one heap areas a ≡ true → is_in_one heap others a ≡ true) → list_all (refers_into heap areas) names ≡ true → list_all (refers_into heap others) names ≡ true
wider_names heap areas others [] wider all = refl
wider_names heap areas others ((x, Holding v) ∷ names) wider all = wider_names heap areas others names wider all
wider_names heap areas others ((x, Referring a) ∷ names) wider all =
    both_true (wider a (left_true (is_in_one heap areas a) (list_all (refers_into heap areas) names) all))
    (wider_names heap areas others names wider (right_true (is_in_one heap areas a) (list_all (refers_into heap areas) names) all))

-- the type of a place that takes values of a sort
record Same (p : Program) (o : Option TypeId) (s : Option Sort) : Type 0 where
  type : TypeId
  is : o ≡ Some type
  value : s ≡ Some (sort_of p.forms type)

-- ---- statements

module _ (p : Program) (typed : well_typed p ≡ true) (to : AllKeepTo p) (below : Option Level) (keeps : (level : Level) → below ≡ Some level → LevelKeeps p level) (writes : (level : Level) → below ≡ Some level → LevelWrites p level) (here : Here) (types : List FrameType) (inside : IsIn p here.routine types) (roots : List Root) where
  abbrev r : Option Routine
  r = routine_in p here.routine

  abbrev own : Symbol → Bool
  own = is_own r

  abbrev Done : State → State → Type 0
  Done state = Wrote p types roots state

  -- a run writes in the areas of the roots
  abbrev pub Runs : Run → Type 0
  Runs go = (state : State) → IsRight p types state → (choices : List Value) → IfEnded (Wrote p types roots state) (go state choices)

  abbrev Writing : State → State → Type 0
  Writing state = Writes p (areas_of state.frames roots) state

  -- with what is known of right states, writing is all
  full : (s : Statement) → statement_ok p r s ≡ true → (state : State) → IsRight p types state → (choices : List Value) → IfEnded (Writing state) (walk p below here s state choices) → IfEnded (Done state) (walk p below here s state choices)
  full s ok state right choices written =
      if_as (And (Leaves p types state.heap) (Writing state)) (Done state) (walk p below here s state choices) (λ after h. record { right = h.one.right; writes = h.two })
      (if_and (Leaves p types state.heap) (Writing state) (walk p below here s state choices) (walks p typed below keeps here types inside s ok state.heap state (leaves_now p types state right) choices) written)

  unwritten_yet : (state : State) → IsRight p types state → Done state state
  unwritten_yet state right = record { right = right; writes = nothing state }

  -- what goes on from a right state
  goes_on : (state mid : State) → Done state mid → (go : Run) → Runs go → (choices : List Value) → IfEnded (Done state) (go mid choices)
  goes_on state mid wrote go runs choices =
      if_as (Done mid) (Done state) (go mid choices) (λ after more. wrote_on p types roots state mid after wrote more) (runs mid wrote.right choices)

  -- what goes on from a state that is the same
  on_same : (state x : State) → x ≡ state → (go : Run) → Runs go → IsRight p types state → (choices : List Value) → IfEnded (Done state) (go x choices)
  on_same state x same go runs right choices = moved (λ x. IfEnded (Done state) (go x choices)) x state same (runs state right choices)

  tested : (e : Expression) (s : Sort) → is_sort s (expression_sort p r e) ≡ true → (state : State) → IsRight p types state → (choices : List Value) → IfEnded (GotSame state) (evaluate p below here e state choices)
  tested e s h state right choices = evaluates_same p typed to below keeps writes here types inside e s (is_sort-true s (expression_sort p r e) h) state right choices

  reached_same : (f : Option Annotation) (showing state : State) (rest : List Value) → IfEnded (λ x. x ≡ state) (reaches p here f showing state rest)
  reached_same f showing state rest = if_meets (λ x. x ≡ state) (option_map _ f) state rest refl

  -- ---- assignments and NEW

  -- a put at a fixed place
  put_written : (state : State) (x : State) → x ≡ state → IsRight p types state → (root : Root) → is_among roots root ≡ true → (a : Place) → is_in_one state.heap (root_areas state.frames root) a ≡ true → (s : Sort) → place_sort p types state.heap a ≡ Some s → (v : Value) → fits (shapes p) v s ≡ true → Writing state (put x a v)
  put_written state x same right root among a lies s told v fit =
      moved (λ x. Writing state (put x a v)) x state same
      (one_put p (areas_of state.frames roots) state a s v (place_there p types state right a s told) fit (in_roots state.heap state root roots a among lies))

  assigned : (d : Designator) (e : Expression) → (may_write r d && same_sort (sort_of_type p (designator_type p r d)) (expression_sort p r e)) ≡ true → is_among roots (root_of own d) ≡ true → (state : State) → IsRight p types state → (choices : List Value) → IfEnded (Writing state) (walk p below here (Assign d e) state choices)
  assigned d e ok among state right choices =
      let q = sorts (designator_type p r d) (expression_sort p r e) (right_true (may_write r d) _ ok) in
      let leaves = leaves_now p types state right in
      if_then (And (FixedRight p types state.heap q.type) (FixedSame state (root_of own d))) (Writing state) (fix p below here d state choices) _
      (if_and (FixedRight p types state.heap q.type) (FixedSame state (root_of own d)) (fix p below here d state choices) (fixes p typed below keeps here types inside d q.type q.is state.heap state leaves choices)
      (fixes_in p typed to below keeps writes here types inside d q.type q.is state right choices)) (λ fixed rest f.
      if_then (And (GotRight p types state.heap (sort_of p.forms q.type)) (GotSame state)) (Writing state) (evaluate p below here e fixed.state rest) _
      (moved (λ x. IfEnded (And (GotRight p types state.heap (sort_of p.forms q.type)) (GotSame state)) (evaluate p below here e x rest)) fixed.state state f.two.same
      (if_and (GotRight p types state.heap (sort_of p.forms q.type)) (GotSame state) (evaluate p below here e state rest) (evaluates p typed below keeps here types inside e (sort_of p.forms q.type) q.value state.heap state leaves rest)
      (evaluates_same p typed to below keeps writes here types inside e (sort_of p.forms q.type) q.value state right rest))) (λ got last g.
      if_unless (Writing state) (takes_value p.forms fixed.type got.value) fault.Range _ last (λ passes.
      put_written state got.state g.two.same right (root_of own d) among fixed.place f.two.inside (sort_of p.forms q.type)
      (ap (λ (x : State). place_sort p types x.heap fixed.place) (sym f.two.same) ∙ f.one.place) got.value g.one.fit)))
    where
      sorts : (o : Option TypeId) (s : Option Sort) → same_sort (sort_of_type p o) s ≡ true → Same p o s
      sorts None s h = absurd (false≢true h)
      sorts (Some t) s h = record { type = t; is = refl; value = is_sort-true (sort_of p.forms t) s h }

  -- a new cell, and a put of its pointer
  created : (d : Designator) (t q : TypeId) → is_among roots (root_of own d) ≡ true → is_among roots (Shared (Class t)) ≡ true → target_of (form_at p.forms q.0) ≡ Some t → (state : State) → IsRight p types state → (fixed : Fixed) → FixedRight p types state.heap q fixed → FixedSame state (root_of own d) fixed → (rest : List Value) → IfEnded (Writing state) (create p t fixed rest)
  created d t q among grows target state right fixed f g rest =
      if_then (λ v. fits (shapes p) v (sort.Ptr t) ≡ true) (Writing state) (take_choice (shapes p) (sort.Ptr t) rest) _ (if_taken (shapes p) (sort.Ptr t) rest) (λ chosen more fit.
      if_then (λ c. (is_new fixed.state.heap (pointer_of c) && fits (shapes p) c (sort.Ptr t)) ≡ true) (Writing state) (stops_unless (is_new fixed.state.heap (pointer_of chosen)) fault.Choice chosen more) _
      (if_unless (λ c. (is_new fixed.state.heap (pointer_of c) && fits (shapes p) c (sort.Ptr t)) ≡ true) (is_new fixed.state.heap (pointer_of chosen)) fault.Choice chosen more (λ new. both_true new fit)) (λ cell last is.
      if_then (λ v. fits (shapes p) v (sort_of p.forms t) ≡ true) (Writing state) (take_choice (shapes p) (sort_of p.forms t) last) _ (if_taken (shapes p) (sort_of p.forms t) last) (λ v end fits_v.
      if_ends (Writing state) _ end
      (moved (λ x. is_new x.heap (pointer_of cell) ≡ true → place_sort p types x.heap fixed.place ≡ Some (sort_of p.forms q) → Writing state (put (with_new_cell (pointer_of cell) t v x) fixed.place cell)) fixed.state state g.same
      (λ new told. made cell v new fits_v told (ap (fits (shapes p) cell) (target_there (form_at p.forms q.0) q t target) ∙ right_true (is_new fixed.state.heap (pointer_of cell)) _ is))
      (left_true (is_new fixed.state.heap (pointer_of cell)) _ is) f.place))))
    where
      made : (cell v : Value) → is_new state.heap (pointer_of cell) ≡ true → fits (shapes p) v (sort_of p.forms t) ≡ true → place_sort p types state.heap fixed.place ≡ Some (sort_of p.forms q) → fits (shapes p) cell (sort_of p.forms q) ≡ true → Writing state (put (with_new_cell (pointer_of cell) t v state) fixed.place cell)
      made cell v new fits_v told fits_cell =
          let areas : List Area = areas_of state.frames roots in
          let x : State = with_new_cell (pointer_of cell) t v state in
          let place = place_there p types state right fixed.place (sort_of p.forms q) told in
          let there : IsPlace (shapes p) x fixed.place (sort_of p.forms q) = record { whole = place.whole; sort = place.sort; is = new_root state (pointer_of cell) t v new fixed.place.root place.whole place.is; fit = place.fit; leads = place.leads } in
          let lies = in_roots state.heap state (root_of own d) roots fixed.place among g.inside in
          creates state (put x fixed.place cell) (pointer_of cell) t v new fits_v
          (among_areas (is_cells_of t) state.frames (Shared (Class t)) roots grows (or_left _ false (eq-eqb t.0 t.0 refl)))
          (one_put p areas x fixed.place (sort_of p.forms q) cell there fits_cell
          (later_one state.heap x.heap (new_grows state (pointer_of cell) t v new) fixed.place fixed.place (below_itself fixed.place) areas lies))

  creating : (line : ℕ) (d : Designator) (t : TypeId) → (may_write r d && leads_to p t (designator_type p r d)) ≡ true → is_among roots (root_of own d) ≡ true → is_among roots (Shared (Class t)) ≡ true → (state : State) → IsRight p types state → (choices : List Value) → IfEnded (Writing state) (walk p below here (New line d t) state choices)
  creating line d t ok among grows state right choices =
      let q = pointer (designator_type p r d) (right_true (may_write r d) _ ok) in
      if_then (And (FixedRight p types state.heap q.item) (FixedSame state (root_of own d))) (Writing state) (fix p below here d state choices) _
      (if_and (FixedRight p types state.heap q.item) (FixedSame state (root_of own d)) (fix p below here d state choices) (fixes p typed below keeps here types inside d q.item q.is state.heap state (leaves_now p types state right) choices)
      (fixes_in p typed to below keeps writes here types inside d q.item q.is state right choices)) (λ fixed rest f.
      created d t q.item among grows q.gives state right fixed f.one f.two rest)
    where
      pointer : (o : Option TypeId) → leads_to p t o ≡ true → Behind (λ q. target_of (form_at p.forms q.0)) o t
      pointer None h = absurd (false≢true h)
      pointer (Some q) h = by_target (target_of (form_at p.forms q.0)) refl h
        where
          by_target : (o : Option TypeId) → target_of (form_at p.forms q.0) ≡ o → is_type t o ≡ true → Behind (λ q. target_of (form_at p.forms q.0)) (Some q) t
          by_target None is h = absurd (false≢true h)
          by_target (Some u) is h = record { item = q; is = refl; gives = is ∙ ap Some (sym (same_types t u h)) }

  -- ---- calls

  abbrev perform_run : Option Routine → RoutineId → Arguments → State → List Value → Outcome State
  perform_run o id given state choices =
      with_turn below choices (λ level.
      and_then (arguments p below here (formals_of o) given state choices) (λ bound rest.
      and_then (enter p level id o bound rest) (λ after last. ends (pop after) last)))

  -- what a call writes lies in the areas of the roots
  call_covered : (q : Routine) (given : Arguments) (state : State) (bound : Bound) → list_all (is_among roots) (place_roots own given) ≡ true → list_all (is_among roots) (map Shared (var_items q.globals)) ≡ true → BoundSame state (place_roots own given) bound → IsCovered state.heap (call_areas bound.names q) (areas_of state.frames roots)
  call_covered q given state bound placed items b =
      covered_both state.heap (referred bound.names) (map area_of_item (var_items q.globals)) (areas_of state.frames roots)
      (referred_covered state.heap (areas_of state.frames roots) bound.names
      (wider_names state.heap (areas_of state.frames (place_roots own given)) (areas_of state.frames roots) bound.names
      (λ a h. roots_among (is_in state.heap a) state.frames (place_roots own given) roots placed h) (in_turn_all state.heap state.frames bound.names (place_roots own given) b.names)))
      (covered_by state.heap (map area_of_item (var_items q.globals)) (areas_of state.frames roots) (λ f h. items_among f state.frames (var_items q.globals) roots items h))

  called : (id : RoutineId) (given : Arguments) (q : Routine) → IsCallee p r id given q → list_all (is_among roots) (place_roots own given) ≡ true → list_all (is_among roots) (map Shared (var_items q.globals)) ≡ true → (state : State) → IsRight p types state → (choices : List Value) → IfEnded (Writing state) (perform_run (Some q) id given state choices)
  called id given q is placed items state right choices =
      if_turn (Writing state) below choices _ (λ level has.
      if_then (And (BoundRight p types state.heap q.formals) (BoundSame state (place_roots own given))) (Writing state) (arguments p below here q.formals given state choices) _
      (if_and (BoundRight p types state.heap q.formals) (BoundSame state (place_roots own given)) (arguments p below here q.formals given state choices)
      (binds_rightly p typed below keeps here types inside q.formals given is.fit state.heap state (leaves_now p types state right) choices)
      (binds_same p typed to below keeps writes here types inside q.formals given is.fit state right choices)) (λ bound rest b.
      if_then (λ after. Writes p (call_areas bound.names q) bound.state (pop after)) (Writing state) (enter p level id (Some q) bound rest) _ (entered_writes p typed level (keeps level has) (writes level has) id q is.there (to.each id q is.there) types state.heap bound b.one rest) (λ after last written.
      if_ends (Writing state) (pop after) last
      (widen p (call_areas bound.names q) (areas_of state.frames roots) state.heap (call_covered q given state bound placed items b.two) state (pop after)
      (subst (λ x. Writes p (call_areas bound.names q) x (pop after)) b.two.same written) (grows_not state.heap)))))

  performed : (id : RoutineId) (line : ℕ) (given : Arguments) → is_procedure (callee p r (call id line given)) ≡ true → list_all (use_among roots) (argument_uses own given) ≡ true → list_all (is_among roots) (changed_by_call p (call id line given)) ≡ true → (state : State) → IsRight p types state → (choices : List Value) → IfEnded (Writing state) (walk p below here (Perform (call id line given)) state choices)
  performed id line given ok uses items state right choices = by_callee (callee p r (call id line given)) refl ok
    where
      by_callee : (o : Option Routine) → callee p r (call id line given) ≡ o → is_procedure o ≡ true → IfEnded (Writing state) (walk p below here (Perform (call id line given)) state choices)
      by_callee None is h = absurd (false≢true h)
      by_callee (Some q) is h =
          let found = is_callee p r id line given q is in
          subst (λ o. IfEnded (Writing state) (perform_run o id given state choices)) (sym found.there)
          (called id given q found (place_roots_kept (is_among roots) own given uses) (ap (λ o. list_all (is_among roots) (map Shared (items_of_callee o))) (sym found.there) ∙ items) state right choices)

  -- ---- FOR

  pub counting : (loop : Loop) → Counts p here.routine loop.count.variable → statement_ok p r loop.body ≡ true → is_among roots (name_root own loop.count.variable) ≡ true → ChangesAmong p r roots loop.body → (end candidate : ℤ) → Runs (count_on p below here loop end candidate)
  counting loop counts body among changes end candidate state right choices =
      if_turn (Done state) below choices _ (λ level has.
      if_then (λ x. x ≡ state) (Done state) (reaches p here loop.invariant (put state (counter_place here loop state) (Number candidate)) state choices) _ (reached_same loop.invariant (put state (counter_place here loop state) (Number candidate)) state choices) (λ now rest same.
      moved (λ now. IfEnded (Done state) (turn level now rest (is_past loop.count.direction end candidate))) now state same (by_past level has rest (is_past loop.count.direction end candidate))))
    where
      turn : Level → State → List Value → Bool → Outcome State
      turn level now rest b = cond b
          (and_then (take_choice (shapes p) sort.Int rest) (λ v last. ends (put now (counter_place here loop now) v) last))
          (and_then (stops_unless (counter_takes p here loop candidate) fault.Range (put now (counter_place here loop now) (Number candidate)) rest) (λ set more.
          and_then (level.run here loop.body set more) (λ after last. level.next here loop end (next_candidate loop.count.direction candidate) after last)))

      place : place_sort p types state.heap (counter_place here loop state) ≡ Some sort.Int
      place = name_place p here.routine types inside state right loop.count.variable counts.type counts.is ∙ ap Some counts.number

      set_done : (v : Value) → fits (shapes p) v sort.Int ≡ true → Done state (put state (counter_place here loop state) v)
      set_done v fit = record {
        right = (put_right p types state right (counter_place here loop state) sort.Int v place fit).right;
        writes = put_written state state refl right (name_root own loop.count.variable) among (counter_place here loop state) (name_in p here.routine types inside state right loop.count.variable) sort.Int place v fit;
      }

      by_past : (level : Level) → below ≡ Some level → (rest : List Value) → (b : Bool) → IfEnded (Done state) (turn level state rest b)
      by_past level has rest true =
          if_then (λ v. fits (shapes p) v sort.Int ≡ true) (Done state) (take_choice (shapes p) sort.Int rest) _ (if_taken (shapes p) sort.Int rest) (λ v last fit.
          if_ends (Done state) _ last (set_done v fit))
      by_past level has rest false =
          if_then (Done state) (Done state) (stops_unless (counter_takes p here loop candidate) fault.Range (put state (counter_place here loop state) (Number candidate)) rest) _
          (if_unless (Done state) (counter_takes p here loop candidate) fault.Range (put state (counter_place here loop state) (Number candidate)) rest (λ passes. set_done (Number candidate) refl)) (λ set more done_set.
          if_then (Done state) (Done state) (level.run here loop.body set more) _
          (goes_on state set done_set (level.run here loop.body) (λ x right choices. (writes level has).run here types inside loop.body body roots changes x right choices) more) (λ after last done_after.
          goes_on state after done_after (level.next here loop end (next_candidate loop.count.direction candidate))
          (λ x right choices. (writes level has).next here types inside loop counts body roots among changes end (next_candidate loop.count.direction candidate) x right choices) last))

  -- ---- statements by their parts

  one_of_two : (state : State) (b : Bool) (x y : Outcome State) → IfEnded (Done state) x → IfEnded (Done state) y → IfEnded (Done state) (cond b x y)
  one_of_two state true x y h k = h
  one_of_two state false x y h k = k

  looped : (line : ℕ) (f : Option Annotation) (e : Expression) (s : Statement) → statement_ok p r (While line f e s) ≡ true → ChangesAmong p r roots (While line f e s) → ChangesAmong p r roots s → Runs (walk p below here (While line f e s))
  looped line f e s ok whole part state right choices =
      let parts = right_true (annotation_ok p (body_scope p r) f) (is_sort sort.Bool (expression_sort p r e) && statement_ok p r s) ok in
      if_turn (Done state) below choices _ (λ level has.
      if_then (λ x. x ≡ state) (Done state) (reaches p here f state state choices) _ (reached_same f state state choices) (λ now rest same.
      if_then (GotSame state) (Done state) (evaluate p below here e now rest) _ (moved (λ x. IfEnded (GotSame state) (evaluate p below here e x rest)) now state same (tested e sort.Bool (left_true (is_sort sort.Bool (expression_sort p r e)) _ parts) state right rest)) (λ got more g.
      one_of_two state (truth_of got.value) _ _
      (if_then (Done state) (Done state) (level.run here s got.state more) _
      (on_same state got.state g.same (level.run here s) (λ x right choices. (writes level has).run here types inside s (right_true (is_sort sort.Bool (expression_sort p r e)) _ parts) roots part x right choices) right more) (λ after last wrote.
      goes_on state after wrote (level.run here (While line f e s)) (λ x right choices. (writes level has).run here types inside (While line f e s) ok roots whole x right choices) last))
      (if_ends (Done state) got.state more (moved (Done state) got.state state g.same (unwritten_yet state right))))))

  repeated : (line : ℕ) (f : Option Annotation) (s : Statement) (e : Expression) → statement_ok p r (Repeat line f s e) ≡ true → ChangesAmong p r roots (Repeat line f s e) → ChangesAmong p r roots s → Runs (walk p below here (Repeat line f s e))
  repeated line f s e ok whole part state right choices =
      let parts = right_true (annotation_ok p (body_scope p r) f) (is_sort sort.Bool (expression_sort p r e) && statement_ok p r s) ok in
      if_turn (Done state) below choices _ (λ level has.
      if_then (λ x. x ≡ state) (Done state) (reaches p here f state state choices) _ (reached_same f state state choices) (λ now rest same.
      if_then (Done state) (Done state) (level.run here s now rest) _
      (on_same state now same (level.run here s) (λ x right choices. (writes level has).run here types inside s (right_true (is_sort sort.Bool (expression_sort p r e)) _ parts) roots part x right choices) right rest) (λ after more wrote.
      if_then (GotSame after) (Done state) (evaluate p below here e after more) _ (tested e sort.Bool (left_true (is_sort sort.Bool (expression_sort p r e)) _ parts) after wrote.right more) (λ got last g.
      one_of_two state (truth_of got.value) _ _ (if_ends (Done state) got.state last (moved (Done state) got.state after g.same wrote))
      (goes_on state got.state (moved (Done state) got.state after g.same wrote) (level.run here (Repeat line f s e)) (λ x right choices. (writes level has).run here types inside (Repeat line f s e) ok roots whole x right choices) last)))))

  for_runs : (line : ℕ) (f : Option Annotation) (count : Counting) (s : Statement) → statement_ok p r (For line f count s) ≡ true → is_among roots (name_root own count.variable) ≡ true → ChangesAmong p r roots s → Runs (walk p below here (For line f count s))
  for_runs line f count s ok among part state right choices =
      let parts = right_true (annotation_ok p (body_scope p r) f) (counting_ok p r count s && statement_ok p r s) ok in
      let head = right_true (may_count r count.variable) _ (left_true (counting_ok p r count s) _ parts) in
      let number = mapped (sort_of p.forms) (name_type p r count.variable) sort.Int (is_sort-true sort.Int _ (left_true (is_sort sort.Int (sort_of_type p (name_type p r count.variable))) _ head)) in
      let ends_are = right_true (is_sort sort.Int (sort_of_type p (name_type p r count.variable))) _ head in
      if_then (GotSame state) (Done state) (evaluate p below here count.first state choices) _ (tested count.first sort.Int (left_true (is_sort sort.Int (expression_sort p r count.first)) _ ends_are) state right choices) (λ first rest g.
      if_then (GotSame state) (Done state) (evaluate p below here count.last first.state rest) _
      (moved (λ x. IfEnded (GotSame state) (evaluate p below here count.last x rest)) first.state state g.same (tested count.last sort.Int (left_true (is_sort sort.Int (expression_sort p r count.last)) _ (right_true (is_sort sort.Int (expression_sort p r count.first)) _ ends_are)) state right rest)) (λ end more k.
      on_same state end.state k.same (count_on p below here (record { invariant = f; count = count; body = s }) (number_of end.value) (number_of first.value))
      (counting (record { invariant = f; count = count; body = s }) (record { type = number.item; is = number.is; number = some_is number.gives })
      (right_true (counting_ok p r count s) _ parts) among part (number_of end.value) (number_of first.value)) right more))

  mutual
    pub runs_write : (s : Statement) → statement_ok p r s ≡ true → ChangesAmong p r roots s → Runs (walk p below here s)
    runs_write Empty ok h state right choices = if_ends (Done state) state choices (unwritten_yet state right)
    runs_write (Assign d e) ok h state right choices =
        full (Assign d e) ok state right choices (assigned d e ok (written_root (is_among roots) own d (all_left (use_among roots) (designator_uses own true d) (expression_uses own e) h.uses)) state right choices)
    runs_write (Perform (call id line given)) ok h state right choices =
        full (Perform (call id line given)) ok state right choices
        (performed id line given ok h.uses (left_true (list_all (is_among roots) (changed_by_call p (call id line given))) true (all_right (call_among p roots) (argument_calls given) (call id line given ∷ []) h.calls)) state right choices)
    runs_write (New line d t) ok h state right choices =
        full (New line d t) ok state right choices
        (creating line d t ok (written_root (is_among roots) own d (all_left (use_among roots) (designator_uses own true d) _ h.uses))
        (left_true (is_among roots (Shared (Class t))) true (all_right (use_among roots) (designator_uses own true d) (record { root = Shared (Class t); changes = true; line = line } ∷ []) h.uses)) state right choices)
    runs_write (Sequence a b) ok h state right choices =
        if_then (Done state) (Done state) (walk p below here a state choices) _
        (runs_write a (left_true (statement_ok p r a) _ ok) (record { uses = all_left (use_among roots) (statement_uses own a) (statement_uses own b) h.uses; calls = all_left (call_among p roots) (statement_calls a) (statement_calls b) h.calls }) state right choices) (λ after rest wrote.
        goes_on state after wrote (walk p below here b)
        (runs_write b (right_true (statement_ok p r a) _ ok) (record { uses = all_right (use_among roots) (statement_uses own a) (statement_uses own b) h.uses; calls = all_right (call_among p roots) (statement_calls a) (statement_calls b) h.calls })) rest)
    runs_write (If line e a b) ok h state right choices =
        let parts = right_true (is_sort sort.Bool (expression_sort p r e)) (statement_ok p r a && statement_ok p r b) ok in
        let uses = all_right (use_among roots) (expression_uses own e) (statement_uses own a ++ statement_uses own b) h.uses in
        let calls = all_right (call_among p roots) (expression_calls e) (statement_calls a ++ statement_calls b) h.calls in
        if_then (GotSame state) (Done state) (evaluate p below here e state choices) _ (tested e sort.Bool (left_true (is_sort sort.Bool (expression_sort p r e)) _ ok) state right choices) (λ got rest g.
        one_of_two state (truth_of got.value) _ _
        (on_same state got.state g.same (walk p below here a) (runs_write a (left_true (statement_ok p r a) _ parts) (record { uses = all_left (use_among roots) (statement_uses own a) (statement_uses own b) uses; calls = all_left (call_among p roots) (statement_calls a) (statement_calls b) calls })) right rest)
        (on_same state got.state g.same (walk p below here b) (runs_write b (right_true (statement_ok p r a) _ parts) (record { uses = all_right (use_among roots) (statement_uses own a) (statement_uses own b) uses; calls = all_right (call_among p roots) (statement_calls a) (statement_calls b) calls })) right rest))
    runs_write (Case line e arms) ok h state right choices =
        let parts = right_true (is_sort sort.Int (expression_sort p r e)) (all_differ int_eq (labels_in arms) && arms_ok p r arms) ok in
        if_then (GotSame state) (Done state) (evaluate p below here e state choices) _ (tested e sort.Int (left_true (is_sort sort.Int (expression_sort p r e)) _ ok) state right choices) (λ got rest g.
        on_same state got.state g.same (walk_arms p below here (number_of got.value) arms)
        (arms_write arms (right_true (all_differ int_eq (labels_in arms)) _ parts) (all_right (use_among roots) (expression_uses own e) (arms_uses own arms) h.uses) (all_right (call_among p roots) (expression_calls e) (arms_calls arms) h.calls) (number_of got.value)) right rest)
    runs_write (While line f e s) ok h state right choices =
        looped line f e s ok h (record {
          uses = all_right (use_among roots) (expression_uses own e) (statement_uses own s) (all_right (use_among roots) (annotation_uses own f) (expression_uses own e ++ statement_uses own s) h.uses);
          calls = all_right (call_among p roots) (expression_calls e) (statement_calls s) h.calls;
        }) state right choices
    runs_write (Repeat line f s e) ok h state right choices =
        repeated line f s e ok h (record {
          uses = all_left (use_among roots) (statement_uses own s) (expression_uses own e) (all_right (use_among roots) (annotation_uses own f) (statement_uses own s ++ expression_uses own e) h.uses);
          calls = all_left (call_among p roots) (statement_calls s) (expression_calls e) h.calls;
        }) state right choices
    runs_write (For line f count s) ok h state right choices =
        let uses = all_right (use_among roots) (annotation_uses own f) (record { root = name_root own count.variable; changes = true; line = line } ∷ (expression_uses own count.first ++ (expression_uses own count.last ++ statement_uses own s))) h.uses in
        for_runs line f count s ok (left_true (is_among roots (name_root own count.variable)) _ uses) (record {
          uses = all_right (use_among roots) (expression_uses own count.last) (statement_uses own s)
              (all_right (use_among roots) (expression_uses own count.first) (expression_uses own count.last ++ statement_uses own s) (right_true (is_among roots (name_root own count.variable)) _ uses));
          calls = all_right (call_among p roots) (expression_calls count.last) (statement_calls s) (all_right (call_among p roots) (expression_calls count.first) (expression_calls count.last ++ statement_calls s) h.calls);
        }) state right choices
    runs_write (Assert a) ok h state right choices = if_meets (Done state) (Some (reached_in_body p here kind.Assert state a)) state choices (unwritten_yet state right)

    arms_write : (arms : Arms) → arms_ok p r arms ≡ true → list_all (use_among roots) (arms_uses own arms) ≡ true → list_all (call_among p roots) (arms_calls arms) ≡ true → (z : ℤ) → Runs (walk_arms p below here z arms)
    arms_write no_arms ok uses calls z state right choices = if_stops (Done state) fault.Case choices
    arms_write (arm labels s others) ok uses calls z state right choices =
        one_of_two state (list_any (int_eq z) labels) _ _
        (runs_write s (left_true (statement_ok p r s) _ ok) (record { uses = all_left (use_among roots) (statement_uses own s) (arms_uses own others) uses; calls = all_left (call_among p roots) (statement_calls s) (arms_calls others) calls }) state right choices)
        (arms_write others (right_true (statement_ok p r s) _ ok) (all_right (use_among roots) (statement_uses own s) (arms_uses own others) uses) (all_right (call_among p roots) (statement_calls s) (arms_calls others) calls) z state right choices)
