-- Expressions leave the state as it was, and designators are fixed in the areas of their roots.
use Rattle.std.proofs.Common.{◌≡◌, Bool, true, false, cond, ◌&&◌, not, List, [], ◌∷◌, ◌++◌, refl, sym, ap, subst, ◌∙◌, Option, Some, None, is_some}
use Rattle.std.specs.Option.{option_and_then, unwrap_or}
use Rattle.std.specs.Cmp.Derive.{both_true}
use Rattle.std.proofs.lemmas.Bool.{false≢true}
use Rattle.spv_logic.proofs.list.Tests.{left_true, right_true}
use Rattle.spv_logic.specs.declared.names.names.Symbol.{Symbol}
use Rattle.spv_logic.specs.declared.types.TypeId.{TypeId}
use Rattle.spv_logic.specs.declared.types.Sort.{Sort}
use Rattle.spv_logic.specs.declared.types.Sort.TheVariants as sort
use Rattle.spv_logic.specs.declared.conditions.RoutineId.{RoutineId}
use Rattle.spv_logic.specs.Values.{Value, number_of, pointer_of}
use Rattle.spv_program.specs.declared.types.Item.TheVariants.{Class}
use Rattle.spv_program.specs.Types.{same_type, form_at, sort_of, element_of, field_of, target_of, takes_index, takes_value}
use Rattle.spv_program.specs.Expressions.{Expression, Designator, Selectors, Call, Arguments, Numeral, Boolean, NilOf, Read, Result, Through, Negative, Calculated, Compared, Negated, Joined, designator, no_selectors, at_index, at_field, at_cell, call, no_arguments, by_value, by_place}
use Rattle.spv_program.specs.Programs.{Formal, Routine, Program, routine_at, routine_in}
use Rattle.spv_program.specs.Scopes.{is_own, name_type}
use Rattle.spv_program.specs.Uses.{Root, Shared, name_root}
use Rattle.spv_program.specs.Frames.{root_behind, root_of, place_roots}
use Rattle.spv_program.specs.FormulaTypes.{is_sort}
use Rattle.spv_program.specs.ExpressionTypes.{is_nil, may_read, may_write, sort_of_type, result_type, stands_for, expression_sort, designator_type, selected_type, callee, arguments_fit}
use Rattle.spv_program.specs.Typing.{well_typed}
use Rattle.spv_program.proofs.SortFacts.{is_sort-true, Behind, behind, passed, chosen, failed}
use Rattle.spv_program.proofs.FormulaSorting.{two_truths, two_numbers, one_of}
use Rattle.spv_program.proofs.ExpressionSorting.{same_types, mapped}
use Rattle.spv_meaning.specs.declared.faults.Fault.TheVariants as fault
use Rattle.spv_meaning.specs.Places.{PathStep, Place, Binding, HeapRow, State, CellOf, IndexStep, FieldStep, Holding, Referring, whole, row_of}
use Rattle.spv_meaning.specs.Outcomes.{Outcome, and_then}
use Rattle.spv_meaning.specs.Levels.{Here, Level, Bound, with_turn, pop, enter, result_in}
use Rattle.spv_meaning.specs.Evaluation.{Got, Fixed, gives, to_element, to_field, is_cell_of, to_cell, holds_now, bind, for_parameter, formals_of, evaluate, fix, select, result, arguments}
use Rattle.spv_meaning.specs.FrameTypes.{FrameType, IsIn}
use Rattle.spv_meaning.specs.Starts.{Area, At, CellsOf, IsRight}
use Rattle.spv_preservation.proofs.Outcomes.{IfEnded, if_ends, if_then, if_unless, if_turn}
use Rattle.spv_preservation.proofs.Frames.{leaves_now}
use Rattle.spv_preservation.proofs.Calls.{BoundRight, LevelKeeps}
use Rattle.spv_preservation.proofs.Expressions.{is_callee, compares, binds_rightly}
use Rattle.spv_writes.specs.Writes.{Writes, is_in, is_in_one}
use Rattle.spv_frame_law.specs.Frames.{root_areas, refer_in_turn, call_areas}
use Rattle.spv_writes.proofs.Lists.{or_left, any_passes}
use Rattle.spv_writes.proofs.Places.{path_further}
use Rattle.spv_writes.proofs.Kept.{unwritten}
use Rattle.spv_frame_law.proofs.Names.{name_in}
use Rattle.spv_frame_law.proofs.Records.{AllKeepTo, And, if_and, moved, GotSame, FixedSame, BoundSame, LevelWrites}
use Rattle.spv_frame_law.proofs.Entering.{entered_writes, nothing_called}

-- ---- places further

further_in : (heap : List HeapRow) (areas : List Area) (a : Place) (s : PathStep) → is_in_one heap areas a ≡ true → is_in_one heap areas (record { root = a.root; path = a.path ++ s ∷ [] }) ≡ true
further_in heap areas a s h = any_passes (is_in heap a) (is_in heap (record { root = a.root; path = a.path ++ s ∷ [] })) each areas h
  where
    each : (area : Area) → is_in heap a area ≡ true → is_in heap (record { root = a.root; path = a.path ++ s ∷ [] }) area ≡ true
    each (At b) k = both_true (left_true _ _ k) (path_further a.path (s ∷ []) b.path (right_true _ _ k))
    each (CellsOf t) k = k

-- ---- expressions

module _ (p : Program) (typed : well_typed p ≡ true) (to : AllKeepTo p) (below : Option Level) (keeps : (level : Level) → below ≡ Some level → LevelKeeps p level) (writes : (level : Level) → below ≡ Some level → LevelWrites p level) (here : Here) (types : List FrameType) (inside : IsIn p here.routine types) where
  abbrev r : Option Routine
  r = routine_in p here.routine

  abbrev own : Symbol → Bool
  own = is_own r

  -- an expression leaves the state as it was
  abbrev pub Evaluates : Expression → Type 0
  Evaluates e = (state : State) → IsRight p types state → (choices : List Value) → IfEnded (GotSame state) (evaluate p below here e state choices)

  -- behind a state that is the same
  on_got : (state : State) (e : Expression) → Evaluates e → IsRight p types state → (x : State) → x ≡ state → (rest : List Value) → IfEnded (GotSame state) (evaluate p below here e x rest)
  on_got state e goes right x same rest = moved (λ x. IfEnded (GotSame state) (evaluate p below here e x rest)) x state same (goes state right rest)

  -- a cell that a pointer leads to
  cell_in : (state : State) (t : TypeId) (v : Value) (x : State) → x ≡ state → (rest : List Value) → IfEnded (FixedSame state (Shared (Class t))) (to_cell t v x rest)
  cell_in state t v x same rest =
      if_unless (FixedSame state (Shared (Class t))) (is_cell_of t (row_of x.heap (pointer_of v))) fault.Nil (record { place = whole (CellOf (pointer_of v)); type = t; state = x }) rest
      (λ is. record { same = same; inside = or_left _ false (ap (λ (y : State). is_cell_of t (row_of y.heap (pointer_of v))) (sym same) ∙ is) })

  further_same : (state : State) (root : Root) (fixed : Fixed) → FixedSame state root fixed → (s : PathStep) (t : TypeId) (x : State) → x ≡ state → FixedSame state root (record { place = record { root = fixed.place.root; path = fixed.place.path ++ s ∷ [] }; type = t; state = x })
  further_same state root fixed q s t x same = record { same = same; inside = further_in state.heap (root_areas state.frames root) fixed.place s q.inside }

  abbrev result_run : Option Routine → RoutineId → Arguments → State → List Value → Outcome Got
  result_run o id given state choices =
      with_turn below choices (λ level.
      and_then (arguments p below here (formals_of o) given state choices) (λ bound rest.
      and_then (enter p level id o bound rest) (λ after last. gives (result_in o after.frames) (pop after) last)))

  -- a function's call
  result_called : (id : RoutineId) (given : Arguments) (q : Routine) (t : TypeId) → routine_at p id ≡ Some q → q.result ≡ Some t → (state : State) (choices : List Value) → IfEnded (And (BoundRight p types state.heap q.formals) (BoundSame state (place_roots own given))) (arguments p below here q.formals given state choices)
      → IfEnded (GotSame state) (result_run (Some q) id given state choices)
  result_called id given q t there is state choices bound_right =
      if_turn (GotSame state) below choices _ (λ level has.
      if_then (And (BoundRight p types state.heap q.formals) (BoundSame state (place_roots own given))) (GotSame state) (arguments p below here q.formals given state choices) _ bound_right (λ bound rest b.
      if_then (λ after. Writes p (call_areas bound.names q) bound.state (pop after)) (GotSame state) (enter p level id (Some q) bound rest) _ (entered_writes p typed level (keeps level has) (writes level has) id q there (to.each id q there) types state.heap bound b.one rest) (λ after last written.
      if_ends (GotSame state) (record { value = result_in (Some q) after.frames; state = pop after }) last
      (record { same = unwritten p bound.state (pop after) (subst (λ areas. Writes p areas bound.state (pop after)) (none bound b.one) written) ∙ b.two.same }))))
    where
      none : (bound : Bound) → BoundRight p types state.heap q.formals bound → call_areas bound.names q ≡ []
      none bound b = nothing_called p types bound.state.heap q bound.names ((to.each id q there).function (ap is_some is)) b.names

  -- parameters with one more in front
  bound_first : (state : State) (x : Symbol) (b : Binding) (roots more : List Root) → (others : Outcome Bound) → IfEnded (BoundSame state roots) others
      → ((names : List (Symbol × Binding)) → refer_in_turn state.heap state.frames names roots ≡ true → refer_in_turn state.heap state.frames ((x, b) ∷ names) more ≡ true)
      → IfEnded (BoundSame state more) (bind x b others)
  bound_first state x b roots more others rest_same first =
      if_then (BoundSame state roots) (BoundSame state more) others _ rest_same (λ bound rest q.
      if_ends (BoundSame state more) (record { names = (x, b) ∷ bound.names; state = bound.state }) rest
      (record { same = q.same; names = first bound.names q.names }))

  mutual
    pub evaluates_same : (e : Expression) (s : Sort) → expression_sort p r e ≡ Some s → Evaluates e
    evaluates_same (Numeral z) s h state right choices = if_ends (GotSame state) _ choices (record { same = refl })
    evaluates_same (Boolean b) s h state right choices = if_ends (GotSame state) _ choices (record { same = refl })
    evaluates_same (NilOf t) s h state right choices = if_ends (GotSame state) _ choices (record { same = refl })
    evaluates_same (Read d) s h state right choices =
        let t = mapped (sort_of p.forms) (designator_type p r d) s (chosen (may_read r d) _ s h) in
        if_then (FixedSame state (root_of own d)) (GotSame state) (fix p below here d state choices) _ (fixes_in d t.item t.is state right choices)
        (λ fixed rest q. if_ends (GotSame state) _ rest (record { same = q.same }))
    evaluates_same (Result c) s h state right choices =
        let t = mapped (sort_of p.forms) (option_and_then result_type (callee p r c)) s h in
        results_same c t.item t.is state right choices
    evaluates_same (Through c line t others) s h state right choices =
        let given = sort_of_type p (option_and_then result_type (callee p r c)) in
        let pointer = is_sort-true (sort.Ptr t) given (passed (is_sort (sort.Ptr t) given) _ s h) in
        let q = mapped (sort_of p.forms) (option_and_then result_type (callee p r c)) (sort.Ptr t) pointer in
        let u = mapped (sort_of p.forms) (selected_type p r t others) s (chosen (is_sort (sort.Ptr t) given) _ s h) in
        if_then (GotSame state) (GotSame state) (result p below here c state choices) _ (results_same c q.item q.is state right choices) (λ got rest g.
        if_then (FixedSame state (Shared (Class t))) (GotSame state) (to_cell t got.value got.state rest) _ (cell_in state t got.value got.state g.same rest) (λ cell last k.
        if_then (FixedSame state (root_behind (Shared (Class t)) others)) (GotSame state) (select p below here others cell last) _ (selects_in others t u.item u.is state right (Shared (Class t)) cell k last)
        (λ fixed end f. if_ends (GotSame state) _ end (record { same = f.same }))))
    evaluates_same (Negative e) s h state right choices =
        one_of sort.Int sort.Int (expression_sort p r e) s (IfEnded (GotSame state) (evaluate p below here (Negative e) state choices))
        (λ is told. if_then (GotSame state) (GotSame state) (evaluate p below here e state choices) _ (evaluates_same e sort.Int is state right choices)
        (λ got rest g. if_ends (GotSame state) _ rest (record { same = g.same }))) h
    evaluates_same (Calculated o a b) s h state right choices =
        two_numbers (expression_sort p r a) (expression_sort p r b) s (IfEnded (GotSame state) (evaluate p below here (Calculated o a b) state choices))
        (λ x y told. if_then (GotSame state) (GotSame state) (evaluate p below here a state choices) _ (evaluates_same a sort.Int x state right choices) (λ left rest g.
        if_then (GotSame state) (GotSame state) (evaluate p below here b left.state rest) _ (on_got state b (evaluates_same b sort.Int y) right left.state g.same rest)
        (λ got last k. if_unless (GotSame state) _ fault.Zero _ last (λ passes. record { same = k.same })))) h
    evaluates_same (Compared o a b) s h state right choices =
        let c = compares o (expression_sort p r a) (expression_sort p r b) s (failed (is_nil a && is_nil b) _ s h) in
        if_then (GotSame state) (GotSame state) (evaluate p below here a state choices) _ (evaluates_same a c.left c.left_is state right choices) (λ left rest g.
        if_then (GotSame state) (GotSame state) (evaluate p below here b left.state rest) _ (on_got state b (evaluates_same b c.right c.right_is) right left.state g.same rest)
        (λ got last k. if_ends (GotSame state) _ last (record { same = k.same })))
    evaluates_same (Negated e) s h state right choices =
        one_of sort.Bool sort.Bool (expression_sort p r e) s (IfEnded (GotSame state) (evaluate p below here (Negated e) state choices))
        (λ is told. if_then (GotSame state) (GotSame state) (evaluate p below here e state choices) _ (evaluates_same e sort.Bool is state right choices)
        (λ got rest g. if_ends (GotSame state) _ rest (record { same = g.same }))) h
    evaluates_same (Joined o a b) s h state right choices =
        two_truths (expression_sort p r a) (expression_sort p r b) s (IfEnded (GotSame state) (evaluate p below here (Joined o a b) state choices))
        (λ x y told. if_then (GotSame state) (GotSame state) (evaluate p below here a state choices) _ (evaluates_same a sort.Bool x state right choices) (λ left rest g.
        if_then (GotSame state) (GotSame state) (evaluate p below here b left.state rest) _ (on_got state b (evaluates_same b sort.Bool y) right left.state g.same rest)
        (λ got last k. if_ends (GotSame state) _ last (record { same = k.same })))) h

    pub fixes_in : (d : Designator) (t : TypeId) → designator_type p r d ≡ Some t → (state : State) → IsRight p types state → (choices : List Value) → IfEnded (FixedSame state (root_of own d)) (fix p below here d state choices)
    fixes_in (designator line x others) t h state right choices =
        let q = behind (λ t. selected_type p r t others) (name_type p r x) t h in
        selects_in others q.item t q.gives state right (name_root own x) _ (record { same = refl; inside = name_in p here.routine types inside state right x }) choices

    pub selects_in : (others : Selectors) (t u : TypeId) → selected_type p r t others ≡ Some u → (state : State) → IsRight p types state → (root : Root) (fixed : Fixed) → FixedSame state root fixed → (choices : List Value) → IfEnded (FixedSame state (root_behind root others)) (select p below here others fixed choices)
    selects_in no_selectors t u h state right root fixed q choices = if_ends (FixedSame state root) fixed choices q
    selects_in (at_index a e others) t u h state right root fixed q choices =
        let test = same_type a t && is_sort sort.Int (expression_sort p r e) in
        let int = is_sort-true sort.Int (expression_sort p r e) (right_true (same_type a t) _ (passed test _ u h)) in
        let k = behind (λ u. selected_type p r u others) (element_of (form_at p.forms t.0)) u (chosen test _ u h) in
        if_then (GotSame state) (FixedSame state (root_behind root others)) (evaluate p below here e fixed.state choices) _ (on_got state e (evaluates_same e sort.Int int) right fixed.state q.same choices) (λ index rest g.
        if_then (FixedSame state root) (FixedSame state (root_behind root others)) (to_element p a fixed.place index rest) _
        (if_unless (FixedSame state root) (takes_index p.forms a index.value) fault.Index _ rest (λ passes. further_same state root fixed q (IndexStep (number_of index.value)) _ index.state g.same))
        (λ next last n. selects_in others k.item u k.gives state right root next n last))
    selects_in (at_field a f others) t u h state right root fixed q choices =
        let k = behind (λ u. selected_type p r u others) (field_of (form_at p.forms t.0) f) u (chosen (same_type a t) _ u h) in
        selects_in others k.item u k.gives state right root (to_field p a f fixed) (further_same state root fixed q (FieldStep f) _ fixed.state q.same) choices
    selects_in (at_cell line c others) t u h state right root fixed q choices =
        let k = behind (λ v. cond (same_type c v) (selected_type p r v others) None) (target_of (form_at p.forms t.0)) u h in
        let same = same_types c k.item (passed (same_type c k.item) _ u k.gives) in
        if_then (FixedSame state (Shared (Class c))) (FixedSame state (root_behind (Shared (Class c)) others)) (to_cell c (holds_now fixed) fixed.state choices) _ (cell_in state c (holds_now fixed) fixed.state q.same choices)
        (λ next rest n. selects_in others c u (ap (λ v. selected_type p r v others) same ∙ chosen (same_type c k.item) _ u k.gives) state right (Shared (Class c)) next n rest)

    pub results_same : (c : Call) (t : TypeId) → option_and_then result_type (callee p r c) ≡ Some t → (state : State) → IsRight p types state → (choices : List Value) → IfEnded (GotSame state) (result p below here c state choices)
    results_same (call id line given) t h state right choices =
        let q = behind result_type (callee p r (call id line given)) t h in
        let is = is_callee p r id line given q.item q.is in
        subst (λ o. IfEnded (GotSame state) (result_run o id given state choices)) (sym is.there)
        (result_called id given q.item t is.there q.gives state choices
        (if_and (BoundRight p types state.heap q.item.formals) (BoundSame state (place_roots own given)) (arguments p below here q.item.formals given state choices)
        (binds_rightly p typed below keeps here types inside q.item.formals given is.fit state.heap state (leaves_now p types state right) choices)
        (binds_same q.item.formals given is.fit state right choices)))

    pub binds_same : (formals : List Formal) (given : Arguments) → arguments_fit p r formals given ≡ true → (state : State) → IsRight p types state → (choices : List Value) → IfEnded (BoundSame state (place_roots own given)) (arguments p below here formals given state choices)
    binds_same [] no_arguments fit state right choices = if_ends (BoundSame state []) _ choices (record { same = refl; names = refl })
    binds_same [] (by_value e others) fit state right choices = absurd (false≢true fit)
    binds_same [] (by_place d others) fit state right choices = absurd (false≢true fit)
    binds_same (f ∷ formals) no_arguments fit state right choices = absurd (false≢true fit)
    binds_same (f ∷ formals) (by_value e others) fit state right choices =
        let rest_fit = right_true (not f.by_place) _ fit in
        let s = is_sort-true (sort_of p.forms f.of) (expression_sort p r e) (left_true (is_sort (sort_of p.forms f.of) (expression_sort p r e)) _ rest_fit) in
        let roots = place_roots own others in
        if_then (GotSame state) (BoundSame state roots) (evaluate p below here e state choices) _ (evaluates_same e (sort_of p.forms f.of) s state right choices) (λ got rest g.
        if_then (GotSame state) (BoundSame state roots) (for_parameter p f got rest) _ (if_unless (GotSame state) (takes_value p.forms f.of got.value) fault.Range got rest (λ passes. g)) (λ taken last k.
        bound_first state f.name (Holding taken.value) roots roots (arguments p below here formals others taken.state last)
        (moved (λ x. IfEnded (BoundSame state roots) (arguments p below here formals others x last)) taken.state state k.same
        (binds_same formals others (right_true (is_sort (sort_of p.forms f.of) (expression_sort p r e)) _ rest_fit) state right last))
        (λ names all. all)))
    binds_same (f ∷ formals) (by_place d others) fit state right choices =
        let rest_fit = right_true (may_write r d) _ (right_true f.by_place _ fit) in
        let u = stands (designator_type p r d) (left_true (stands_for p f.of (designator_type p r d)) _ rest_fit) in
        let root = root_of own d in
        let roots = place_roots own others in
        if_then (FixedSame state root) (BoundSame state (root ∷ roots)) (fix p below here d state choices) _ (fixes_in d u.item u.is state right choices) (λ fixed rest q.
        bound_first state f.name (Referring fixed.place) roots (root ∷ roots) (arguments p below here formals others fixed.state rest)
        (moved (λ x. IfEnded (BoundSame state roots) (arguments p below here formals others x rest)) fixed.state state q.same
        (binds_same formals others (right_true (stands_for p f.of (designator_type p r d)) _ rest_fit) state right rest))
        (λ names all. both_true q.inside all))
      where
        stands : (o : Option TypeId) → stands_for p f.of o ≡ true → Behind (λ u. Some u) o (unwrap_or o f.of)
        stands None h = absurd (false≢true h)
        stands (Some u) h = record { item = u; is = refl; gives = refl }
