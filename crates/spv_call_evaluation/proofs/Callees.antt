-- What the view of a called routine has in common with that of its caller.
use Rattle.std.proofs.Common.{◌≡◌, ℕ, Bool, true, false, cond, not, ◌&&◌, ◌||◌, List, [], ◌∷◌, ◌++◌, map, length, refl, sym, ap, subst, ◌∙◌, nat_eq, Option, Some, None, option_map}
use Rattle.std.specs.Prelude.{is_some}
use Rattle.std.specs.List.{list_all, list_any}
use Rattle.std.specs.Option.{option_and_then, unwrap_or}
use Rattle.std.proofs.lemmas.Bool.{false≢true, eqb-true, eq-eqb}
use Rattle.spv_logic.proofs.list.Tests.{left_true, right_true, left_false, right_false}
use Rattle.spv_logic.specs.declared.names.names.Symbol.{Symbol}
use Rattle.spv_logic.specs.declared.types.TypeId.{TypeId}
use Rattle.spv_logic.specs.declared.types.Sort.{Sort}
use Rattle.spv_logic.specs.declared.conditions.RoutineId.{RoutineId}
use Rattle.spv_logic.specs.declared.operators.Head.{Head}
use Rattle.spv_logic.specs.declared.operators.Head.TheVariants as head
use Rattle.spv_logic.specs.Values.{Value}
use Rattle.spv_logic.specs.Terms.{Term, sort_eq, head_eq}
use Rattle.spv_logic.specs.Substitution.{is_variable, substitute, value_under, under}
use Rattle.spv_logic.specs.Conditions.{Meaning, Valuation, IsValuation, View, Shows, both}
use Rattle.spv_logic.proofs.Equality.{sort_eq-true, sort_eq-refl, head_eq-refl}
use Rattle.spv_logic.proofs.Substitution.{worth-variable}
use Rattle.spv_logic.specs.Fits.{fits, default_of}
use Rattle.spv_logic.specs.Sorts.{variable_sort}
use Rattle.spv_program.specs.declared.types.Item.{Item}
use Rattle.spv_program.specs.declared.types.Item.TheVariants.{Variable, Class}
use Rattle.spv_program.specs.Lists.{same_name, found, first_of, all_differ}
use Rattle.spv_program.specs.Types.{sort_of}
use Rattle.spv_program.specs.Programs.{Formal, Routine, Program, shapes, lists, routine_at, routine_in}
use Rattle.spv_program.specs.Scopes.{name_type, is_own, own_names, own_names_in, sort_or_int, item_sort, result_name, parameters_of, with_sorts_of, initial_names, entry_scope, exit_scope, is_value_parameter}
use Rattle.spv_program.specs.Uses.{Own, Shared, name_root, annotation_uses}
use Rattle.spv_program.specs.Frames.{is_formal, is_initial, use_allowed, routine_uses, changes_nothing, routine_framed}
use Rattle.spv_program.specs.Supplies.{Supply}
use Rattle.spv_program.specs.Calls.{Argument, replacing, at_call, starts_at_call, initial_at_call}
use Rattle.spv_program.specs.Terms.{alone, item_head}
use Rattle.spv_program.specs.ExpressionTerms.{sort_of_result, result_head}
use Rattle.spv_program.specs.ExpressionTypes.{sort_of_type}
use Rattle.spv_program.specs.Typing.{item_exists, types_exist, result_ok, may_be_initial, heading_ok, routine_ok, declarations_ok}
use Rattle.spv_program.specs.Types.{type_exists, same_item}
use Rattle.spv_program.proofs.SortFacts.{some_is}
use Rattle.spv_meaning.specs.Places.{Binding, Frame, State, Holding, Referring, part_at, held, own_value, frame_at, look, value_or_zero}
use Rattle.spv_meaning.specs.Views.{bound_place, place_in, place_of, sees, class_of, now_view, of_sort, parameter_sort, entry_view}
use Rattle.spv_meaning.specs.Levels.{Here, push, result_in}
use Rattle.spv_meaning.specs.FrameTypes.{FrameType, IsIn, in_routine, frame_of, slots_of, formal_slot, own_slot, slot_in, kept_type, frames_right}
use Rattle.spv_meaning.specs.Starts.{IsStart, IsRight, is_of_type}
use Rattle.spv_meaning.specs.Correct.{valuation_of}
use Rattle.spv_meaning.proofs.RoutineStarts.{item_passes}
use Rattle.spv_meaning.proofs.Differing.{not_true}
use Rattle.spv_meaning.proofs.Maps.{same_names, other_way}
use Rattle.spv_preservation.proofs.Calls.{names_differ, formals_differ, routine_right}
use Rattle.spv_preservation.proofs.Roots.{first_frame, name_there}
use Rattle.spv_preservation.proofs.Frames.{result_right, result_slot}
use Rattle.spv_rule_soundness.specs.evaluation.Laws.{root_seen}
use Rattle.spv_rule_soundness.specs.statements.Truth.{IsWindow, IsEntry, meaning_in, shown}
use Rattle.spv_rule_soundness.proofs.evaluation.Settings.{found-append, view_name}
use Rattle.spv_rule_soundness.proofs.statements.Views.{in_first}
use Rattle.spv_writes.proofs.Lists.{all_left, all_right}
use Rattle.spv_frame_law.specs.Laws.{IsFramed}
use Rattle.spv_frame_law.proofs.Sharing.{keeps_to}
use Rattle.spv_call_evaluation.specs.Known.{Knows}
use Rattle.spv_call_evaluation.specs.Lying.{AreBound}
use Rattle.spv_call_evaluation.proofs.Windows.{knows_shown}
use Rattle.spv_call_evaluation.proofs.Globals.{listed_not_own, listed_passes, shared_place, seen_not_own}
use Rattle.spv_call_evaluation.proofs.Heads.{named_at_exit, entry_test, exit_test, found-sorts, value_is_formal, formal_is_value, no_initial}
use Rattle.spv_call_evaluation.proofs.Parameters.{replacing-there, replacing-none, bound_value, no_parameter, no_such_parameter, no_start, ParameterAt, parameter_at, ArgumentOf, argument_of}
use Rattle.spv_call_evaluation.proofs.Pushed.{pushed_look}

-- what a view shows is what its valuation says
pub told : (p : Program) (view : View) (h : Head) (w : Value) → view h ≡ Some w → valuation_of (shapes p) view h ≡ w
told p view h w e = ap (λ o. unwrap_or o (default_of (shapes p) (variable_sort h))) e

all_of : (o : Option Value) → option_and_then (λ w. part_at w []) o ≡ o
all_of None = refl
all_of (Some w) = refl

-- ---- the routine

-- a routine that is called
module _ (p : Program) (f : IsFramed p) (id : RoutineId) (q : Routine) (there : routine_at p id ≡ Some q) where
  right_heading : heading_ok p q ≡ true
  right_heading = left_true (heading_ok p q) _ (item_passes (routine_ok p) p.routines id.0 q (left_true (list_all (routine_ok p) p.routines) _ (right_true (declarations_ok p) _ f.typed)) there)

  is_framed : routine_framed p q ≡ true
  is_framed = item_passes (routine_framed p) p.routines id.0 q (left_true (list_all (routine_framed p) p.routines) _ f.framed) there

  pub all_items : list_all (λ g. item_exists p g.item) q.globals ≡ true
  all_items =
      left_true (list_all (λ g. item_exists p g.item) q.globals) _
      (right_true (types_exist p q.locals) _
      (right_true (result_ok p q.result) _ (right_true (list_all (λ f. type_exists p.forms f.of) q.formals) _ right_heading)))

  pub entry_uses : list_all (λ u. use_allowed q.globals u.root u.changes) (annotation_uses (is_formal q) q.entry) ≡ true
  entry_uses = all_left (λ u. use_allowed q.globals u.root u.changes) (annotation_uses (is_formal q) q.entry) _ (left_true (list_all (λ u. use_allowed q.globals u.root u.changes) (routine_uses q)) _ (right_true (changes_nothing q || not (is_some q.result)) _ is_framed))

  pub exit_uses : list_all (λ u. use_allowed q.globals u.root u.changes) (annotation_uses (named_at_exit q) q.exit) ≡ true
  exit_uses =
      all_left (λ u. use_allowed q.globals u.root u.changes) (annotation_uses (named_at_exit q) q.exit) _
      (all_right (λ u. use_allowed q.globals u.root u.changes) (annotation_uses (is_formal q) q.entry) _ (left_true (list_all (λ u. use_allowed q.globals u.root u.changes) (routine_uses q)) _ (right_true (changes_nothing q || not (is_some q.result)) _ is_framed)))

  pub not_own : (x : Symbol) → lists q.globals (Variable x) false ≡ true → found (own_names q) x ≡ None
  not_own x listed = listed_not_own q (names_differ p f.typed id q there) x listed

  -- a variable of the list is there
  pub record Declared (x : Symbol) : Type 0 where
    pub type : TypeId
    pub is : found p.variables x ≡ Some type

  pub declared : (x : Symbol) → lists q.globals (Variable x) false ≡ true → Declared x
  declared x listed = by_type (found p.variables x) refl (listed_passes (item_exists p) q.globals (Variable x) all_items listed)
    where
      by_type : (o : Option TypeId) → found p.variables x ≡ o → is_some o ≡ true → Declared x
      by_type None e h = absurd (false≢true h)
      by_type (Some u) e h = record { type = u; is = e }

  -- the types of own names
  pub parameter_type : (x : Symbol) (u : TypeId) → found (map (λ f. (f.name, f.of)) q.formals) x ≡ Some u → found (own_names q) x ≡ Some u
  parameter_type x u e = found-append (map (λ f. (f.name, f.of)) q.formals) (result_name q.name q.result ++ q.locals) x ∙ ap (λ o. first_of o (found (result_name q.name q.result ++ q.locals) x)) e

  -- what an own name shows
  pub own_shows : (s : State) (x : Symbol) (u : TypeId) (w : Value) → found (own_names q) x ≡ Some u → look s (place_of (Some id) s x) ≡ Some w → now_view p (Some id) s (head.Var x (sort_of p.forms u) 0) ≡ Some w
  own_shows s x u w own holds =
      view_name p (Some id) s x u w (ap (λ o. name_type p o x) there ∙ ap (λ o. first_of o (found p.variables x)) own)
      (ap (λ o. root_seen o (name_root (is_own o) x)) there ∙ ap (λ o. root_seen (Some q) (cond (is_some o) (Own x) (Shared (Variable x)))) own) holds

  -- ---- a function

  module _ (t : TypeId) (result : q.result ≡ Some t) where
    quiet : changes_nothing q ≡ true
    quiet = ((keeps_to p f.typed f.framed).each id q there).function (ap is_some result)

    by_value : list_any (λ f. f.by_place) q.formals ≡ false
    by_value = not_true (list_any (λ f. f.by_place) q.formals) (left_true (not (list_any (λ f. f.by_place) q.formals)) _ quiet)

    initial : q.initial ≡ []
    initial =
        no_initial q quiet
        (left_true (list_all (λ i. may_be_initial q i.1) q.initial) _
        (right_true (all_differ same_item (map (λ g. g.item) q.globals)) _
        (right_true (list_all (λ g. item_exists p g.item) q.globals) _
        (right_true (types_exist p q.locals) _
        (right_true (result_ok p q.result) _ (right_true (list_all (λ f. type_exists p.forms f.of) q.formals) _ right_heading))))))

    -- the name of the function is its result
    result_type_own : found (own_names q) q.name ≡ Some t
    result_type_own =
        found-append (map (λ f. (f.name, f.of)) q.formals) (result_name q.name q.result ++ q.locals) q.name
        ∙ (ap (λ o. first_of o (found (result_name q.name q.result ++ q.locals) q.name)) (not_formal q.formals (routine_right p f.typed id q there).result)
        ∙ (ap (λ o. found (result_name q.name o ++ q.locals) q.name) result ∙ ap (λ b. cond b (Some t) (found q.locals q.name)) (eq-eqb q.name.0 q.name.0 refl)))
      where
        not_formal : (formals : List Formal) → list_any (same_name q.name) (map (λ f. f.name) formals) ≡ false → found (map (λ f. (f.name, f.of)) formals) q.name ≡ None
        not_formal [] none = refl
        not_formal (g ∷ formals) none =
            ap (λ b. cond b (Some g.of) (found (map (λ f. (f.name, f.of)) formals) q.name)) (other_way q.name g.name (left_false (same_name q.name g.name) _ none)) ∙ not_formal formals (right_false (same_name q.name g.name) _ none)

    -- the state shows the function's result under its name
    record ResultOf (s : State) : Type 0 where
      fit : fits (shapes p) (result_in (Some q) s.frames) (sort_of p.forms t) ≡ true
      shows : look s (place_of (Some id) s q.name) ≡ Some (result_in (Some q) s.frames)

    result_of : (s : State) → IsStart p (Some id) s → ResultOf s
    result_of s start = by_types start.right.types start.right.inside start.right.right
      where
        none : list_any (same_name q.name) (map (λ f. f.name) q.formals) ≡ false
        none = (routine_right p f.typed id q there).result

        Goal : List Frame → Type 0
        Goal frames = look (record { variables = s.variables; frames = frames; heap = s.heap }) (place_in frames q.name) ≡ Some (result_in (Some q) frames)

        by_binding : (g : Frame) (frames : List Frame) (o : Option Binding) → found g.names q.name ≡ o → is_of_type p t (option_and_then held o) ≡ true → Goal (g ∷ frames)
        by_binding g frames None e h = absurd (false≢true h)
        by_binding g frames (Some (Referring a)) e h = absurd (false≢true h)
        by_binding g frames (Some (Holding w)) e h =
            ap (λ o. look (record { variables = s.variables; frames = g ∷ frames; heap = s.heap }) (bound_place (length frames) q.name o)) e
            ∙ (all_of (option_and_then (own_value q.name) (cond (nat_eq (length frames) (length frames)) (Some g) (frame_at frames (length frames))))
            ∙ (ap (λ b. option_and_then (own_value q.name) (cond b (Some g) (frame_at frames (length frames)))) (eq-eqb (length frames) (length frames) refl)
            ∙ (ap (option_and_then held) e ∙ ap (λ o. Some (value_or_zero (option_and_then held o))) (sym e))))

        slot : option_and_then kept_type (slot_in (slots_of q) q.name) ≡ Some t
        slot =
            ap (λ o. option_and_then kept_type (slot_in (map formal_slot q.formals ++ map own_slot (result_name q.name o ++ q.locals)) q.name)) result
            ∙ result_slot q.formals q.name t q.locals none

        by_frames : (older : List FrameType) (frames : List Frame) → frames_right p (frame_of id q ∷ older) s.heap frames ≡ true → Goal frames
        by_frames older [] h = absurd (false≢true h)
        by_frames older (g ∷ frames) h =
            by_binding g frames (found g.names q.name) refl (name_there p older s.heap (slots_of q) g.names q.name t (first_frame p (frame_of id q) older s.heap g frames h).names slot)

        by_types : (types : List FrameType) → IsIn p (Some id) types → IsRight p types s → ResultOf s
        by_types _ (in_routine _ k older found_there) right =
            let same : k ≡ q = some_is (sym found_there ∙ there) in
            let moved = subst (λ (k : Routine). IsRight p (frame_of id k ∷ older) s) same right in
            record {
              fit = result_right p id q t older s result none moved;
              shows = by_frames older s.frames moved.frames;
            }

    pub result_fits : (s : State) → IsStart p (Some id) s → fits (shapes p) (result_in (Some q) s.frames) (sort_of p.forms t) ≡ true
    result_fits s start = (result_of s start).fit

  -- ---- beside the caller

  module _ (world : Meaning) (here : Here) (entry : IsEntry p here.entry) (state : State) (start : IsStart p here.routine state) (seen : list_all (λ g. sees (routine_in p here.routine) g.item) q.globals ≡ true)
      (n : Supply) (window : View) (is : IsWindow p n window) (v : Valuation) (val : IsValuation (shapes p) v) (shows : Shows (shown p here window state) v) where
    abbrev symbols : Meaning
    symbols = meaning_in p world

    knows : Knows p symbols here state window v
    knows = knows_shown p f.typed world here entry n window is state start v val shows

    -- what the caller's valuation says of items of the list
    pub caller_name : (x : Symbol) (u : TypeId) → lists q.globals (Variable x) false ≡ true → found p.variables x ≡ Some u → found state.variables x ≡ Some (v (head.Var x (sort_of p.forms u) 0))
    caller_name x u listed type =
        let r = routine_in p here.routine in
        let sees_it = listed_passes (sees r) q.globals (Variable x) seen listed in
        let other = seen_not_own p f.typed here.routine x sees_it in
        let named = knows.setting.named x u (name_told (found (own_names_in r) x) other type) (ap (λ b. root_seen r (cond b (Own x) (Shared (Variable x)))) other ∙ sees_it) in
        sym (all_of (found state.variables x)) ∙ (sym (ap (look state) (shared_place p here.routine start.right.types start.right.inside state start.right.right x other)) ∙ named)
      where
        name_told : (o : Option TypeId) → is_some o ≡ false → found p.variables x ≡ Some u → first_of o (found p.variables x) ≡ Some u
        name_told None e type = type
        name_told (Some k) e type = absurd (false≢true (sym e))

    pub caller_class : (c : TypeId) → lists q.globals (Class c) false ≡ true → v (head.ClassVar c 0) ≡ class_of (shapes p) state.heap c
    caller_class c listed =
        let sees_it = listed_passes (sees (routine_in p here.routine)) q.globals (Class c) seen listed in
        shows (head.ClassVar c 0) (class_of (shapes p) state.heap c) (in_first _ (window (head.ClassVar c 0)) _ (in_first _ (here.entry (head.ClassVar c 0)) _ (ap (λ b. cond b (Some (class_of (shapes p) state.heap c)) None) sees_it)))

    -- what the called function sees of them, in a state that has the caller's variables and cells
    module _ (s : State) (began : IsStart p (Some id) s) (variables : s.variables ≡ state.variables) (heap : s.heap ≡ state.heap) where
      pub callee_name : (x : Symbol) (u : TypeId) → lists q.globals (Variable x) false ≡ true → found p.variables x ≡ Some u → now_view p (Some id) s (head.Var x (sort_of p.forms u) 0) ≡ Some (v (head.Var x (sort_of p.forms u) 0))
      callee_name x u listed type =
          let own = not_own x listed in
          let other : is_own (routine_at p id) x ≡ false = ap (λ o. is_own o x) there ∙ ap is_some own in
          view_name p (Some id) s x u (v (head.Var x (sort_of p.forms u) 0)) (ap (λ o. name_type p o x) there ∙ (ap (λ o. first_of o (found p.variables x)) own ∙ type))
          (ap (λ o. root_seen o (name_root (is_own o) x)) there ∙ (ap (λ o. root_seen (Some q) (cond (is_some o) (Own x) (Shared (Variable x)))) own ∙ listed))
          (ap (look s) (shared_place p (Some id) began.right.types began.right.inside s began.right.right x other) ∙ (all_of (found s.variables x) ∙ (ap (λ k. found k x) variables ∙ caller_name x u listed type)))

      pub callee_class : (c : TypeId) → lists q.globals (Class c) false ≡ true → now_view p (Some id) s (head.ClassVar c 0) ≡ Some (v (head.ClassVar c 0))
      callee_class c listed =
          ap (λ o. cond (sees o (Class c)) (Some (class_of (shapes p) s.heap c)) None) there
          ∙ (ap (λ b. cond b (Some (class_of (shapes p) s.heap c)) None) listed
          ∙ (ap (λ k. Some (class_of (shapes p) k c)) heap ∙ ap Some (sym (caller_class c listed))))

    -- ---- at the beginning

    module _ (terms : List Argument) (names own : List (Symbol × Binding)) (bound : AreBound p symbols here state window q.formals terms names) where
      abbrev first : State
      first = push id (names ++ own) state

      abbrev first_view : View
      first_view = both (entry_view p (Some id) (push id (names ++ own) state)) (now_view p (Some id) (push id (names ++ own) state))

      -- a parameter, and one that is a value
      pub parameter : (x : Symbol) (u : TypeId) → found (map (λ f. (f.name, f.of)) q.formals) x ≡ Some u → ParameterAt p symbols v state q.formals terms names x u
      parameter x u e = parameter_at p symbols here state window v knows q.formals terms names bound x u e

      pub argument : (x : Symbol) (u : TypeId) → is_value_parameter q x ≡ true → found (map (λ f. (f.name, f.of)) q.formals) x ≡ Some u → ArgumentOf p symbols v q.formals terms names x u
      argument x u value e = argument_of p symbols here state window v knows q.formals terms names bound (formals_differ p f.typed id q there) x u value e

      pub parameter_held : (x : Symbol) (b : Binding) (w : Value) → found names x ≡ Some b → bound_value state b ≡ Some w → look (push id (names ++ own) state) (place_of (Some id) (push id (names ++ own) state) x) ≡ Some w
      parameter_held x b w e holds = ap (λ o. look (push id (names ++ own) state) (bound_place (length state.frames) x o)) (there_too b e) ∙ by_binding b e holds
        where
          g : Frame
          g = record { routine = id; names = names ++ own }

          there_too : (b : Binding) → found names x ≡ Some b → found (names ++ own) x ≡ Some b
          there_too b e = found-append names own x ∙ ap (λ o. first_of o (found own x)) e

          by_binding : (b : Binding) → found names x ≡ Some b → bound_value state b ≡ Some w → look (push id (names ++ own) state) (bound_place (length state.frames) x (Some b)) ≡ Some w
          by_binding (Referring a) e holds = pushed_look g state a w holds
          by_binding (Holding u) e holds =
              all_of (option_and_then (own_value x) (cond (nat_eq (length state.frames) (length state.frames)) (Some g) (frame_at state.frames (length state.frames))))
              ∙ (ap (λ b. option_and_then (own_value x) (cond b (Some g) (frame_at state.frames (length state.frames)))) (eq-eqb (length state.frames) (length state.frames) refl) ∙ (ap (option_and_then held) (there_too (Holding u) e) ∙ holds))

      -- the start of a parameter
      pub start_shown : (x : Symbol) (u : TypeId) (w : Value) → found (map (λ f. (f.name, f.of)) q.formals) x ≡ Some u → is_value_parameter q x ≡ true → found names x ≡ Some (Holding w) → entry_view p (Some id) (push id (names ++ own) state) (head.Start x (sort_of p.forms u)) ≡ Some w
      start_shown x u w type kept e =
          ap (λ o. of_sort (parameter_sort p o x) (sort_of p.forms u) (look (push id (names ++ own) state) (place_of (Some id) (push id (names ++ own) state) x))) there
          ∙ (ap (λ b. of_sort (cond b (Some (item_sort p (Some q) (Variable x))) None) (sort_of p.forms u) (look (push id (names ++ own) state) (place_of (Some id) (push id (names ++ own) state) x))) kept
          ∙ (ap (λ o. of_sort (Some (sort_or_int (option_map (sort_of p.forms) (first_of o (found p.variables x))))) (sort_of p.forms u) (look (push id (names ++ own) state) (place_of (Some id) (push id (names ++ own) state) x))) (parameter_type x u type)
          ∙ (ap (λ b. cond b (look (push id (names ++ own) state) (place_of (Some id) (push id (names ++ own) state) x)) None) (sort_eq-refl (sort_of p.forms u)) ∙ parameter_held x (Holding w) w e refl)))

      pub scope_parameter : (x : Symbol) (u : TypeId) (others : List (Symbol × Sort)) → found (map (λ f. (f.name, f.of)) q.formals) x ≡ Some u → found (parameters_of p q ++ others) x ≡ Some (sort_of p.forms u)
      scope_parameter x u others e =
          found-append (parameters_of p q) others x ∙ ap (λ o. first_of o (found others x)) (found-sorts p (map (λ f. (f.name, f.of)) q.formals) x ∙ ap (option_map (sort_of p.forms)) e)

      pub scope_other : (x : Symbol) (others : List (Symbol × Sort)) → found (map (λ f. (f.name, f.of)) q.formals) x ≡ None → found (parameters_of p q ++ others) x ≡ found others x
      scope_other x others e =
          found-append (parameters_of p q) others x ∙ ap (λ o. first_of o (found others x)) (found-sorts p (map (λ f. (f.name, f.of)) q.formals) x ∙ ap (option_map (sort_of p.forms)) e)

      -- what shows now is what the valuation of the view says, and so is a start, which never shows now
      pub now_told : (s : State) (h : Head) (w : Value) → now_view p (Some id) s h ≡ Some w → valuation_of (shapes p) (both (entry_view p (Some id) (push id (names ++ own) state)) (now_view p (Some id) s)) h ≡ w
      now_told s h w e =
          told p (both (entry_view p (Some id) (push id (names ++ own) state)) (now_view p (Some id) s)) h w (in_first (now_view p (Some id) s h) (entry_view p (Some id) (push id (names ++ own) state) h) w e)

      pub start_told : (s : State) (x : Symbol) (u : Sort) (w : Value) → entry_view p (Some id) (push id (names ++ own) state) (head.Start x u) ≡ Some w → valuation_of (shapes p) (both (entry_view p (Some id) (push id (names ++ own) state)) (now_view p (Some id) s)) (head.Start x u) ≡ w
      start_told s x u w e = told p (both (entry_view p (Some id) (push id (names ++ own) state)) (now_view p (Some id) s)) (head.Start x u) w e

      -- a head without a number, of a sort that is told
      pub at_head : (P : Head → Type 0) (x : Symbol) (s u : Sort) (m : ℕ) → s ≡ u → nat_eq m 0 ≡ true → P (head.Var x u 0) → P (head.Var x s m)
      at_head P x s u m sort zero h = subst P (sym (λ i. head.Var x (sort i) (eqb-true m 0 zero i))) h

      pub entry_same : IsStart p (Some id) (push id (names ++ own) state) → (h : Head) → entry_test p q h ≡ true → is_variable h ≡ true → valuation_of (shapes p) (both (entry_view p (Some id) (push id (names ++ own) state)) (now_view p (Some id) (push id (names ++ own) state))) h ≡ under symbols (replacing (at_call p q.formals terms)) v h
      entry_same began (head.Var x s m) passes variable =
          let more = right_true (nat_eq m 0) _ passes in
          by_formal (found (map (λ f. (f.name, f.of)) q.formals) x) refl (left_true (nat_eq m 0) _ passes) (sort_eq-true s (sort_or_int (found (entry_scope p q) x)) (left_true (sort_eq s (sort_or_int (found (entry_scope p q) x))) _ more)) (right_true (sort_eq s (sort_or_int (found (entry_scope p q) x))) _ more)
        where
          Same : Head → Type 0
          Same h = valuation_of (shapes p) (both (entry_view p (Some id) (push id (names ++ own) state)) (now_view p (Some id) (push id (names ++ own) state))) h ≡ under symbols (replacing (at_call p q.formals terms)) v h

          by_formal : (o : Option TypeId) → found (map (λ f. (f.name, f.of)) q.formals) x ≡ o → nat_eq m 0 ≡ true → s ≡ sort_or_int (found (entry_scope p q) x) → use_allowed q.globals (cond (is_some o) (Own x) (Shared (Variable x))) false ≡ true → Same (head.Var x s m)
          by_formal (Some u) e zero sort allowed =
              let a = parameter x u e in
              at_head Same x s (sort_of p.forms u) m (sort ∙ ap sort_or_int (scope_parameter x u (with_sorts_of p p.variables) e)) zero
              (now_told (push id (names ++ own) state) (head.Var x (sort_of p.forms u) 0) a.value (own_shows (push id (names ++ own) state) x u a.value (parameter_type x u e) (parameter_held x a.binding a.value a.bound a.holds))
              ∙ sym (ap (λ o. value_under symbols v o (v (head.Var x (sort_of p.forms u) 0))) a.replaced ∙ a.worth))
          by_formal None e zero sort allowed =
              let k = declared x allowed in
              at_head Same x s (sort_of p.forms k.type) m (sort ∙ ap sort_or_int (scope_other x (with_sorts_of p p.variables) e ∙ (found-sorts p p.variables x ∙ ap (option_map (sort_of p.forms)) k.is))) zero
              (now_told (push id (names ++ own) state) (head.Var x (sort_of p.forms k.type) 0) (v (head.Var x (sort_of p.forms k.type) 0)) (callee_name (push id (names ++ own) state) began refl refl x k.type allowed k.is)
              ∙ sym (ap (λ o. value_under symbols v o (v (head.Var x (sort_of p.forms k.type) 0))) (no_such_parameter p q.formals terms x (sort_of p.forms k.type) e)))
      entry_same began (head.ClassVar c m) passes variable =
          subst (λ (h : Head). valuation_of (shapes p) (both (entry_view p (Some id) (push id (names ++ own) state)) (now_view p (Some id) (push id (names ++ own) state))) h ≡ under symbols (replacing (at_call p q.formals terms)) v h) (sym (ap (head.ClassVar c) (eqb-true m 0 (left_true (nat_eq m 0) _ passes))))
          (now_told (push id (names ++ own) state) (head.ClassVar c 0) (v (head.ClassVar c 0)) (callee_class (push id (names ++ own) state) began refl refl c (right_true (nat_eq m 0) _ passes))
          ∙ sym (ap (λ o. value_under symbols v o (v (head.ClassVar c 0))) (no_parameter p q.formals terms (head.ClassVar c 0) (λ f. refl))))
      entry_same began (head.Start x s) passes variable = absurd (false≢true passes)
      entry_same began _ passes variable = absurd (false≢true variable)

      -- ---- at the end of a function

      module _ (t : TypeId) (result : q.result ≡ Some t) where
        -- the pairs of EXIT
        abbrev pairs : Term → List (Head × Term)
        pairs y = starts_at_call p q.formals terms ++ (initial_at_call p q terms ++ (result_head p q, y) ∷ [])

        no_pairs : initial_at_call p q terms ≡ []
        no_pairs = ap (map (λ (i : Symbol × Item). (head.Var i.0 (item_sort p (Some q) i.1) 0, substitute (replacing (at_call p q.formals terms)) (alone (item_head p (Some q) i.1))))) (initial t result)

        -- a head that is no start is replaced by the result alone
        replaced_else : (y : Term) (h : Head) → ((x : Symbol) (s : Sort) → head_eq h (head.Start x s) ≡ false) → replacing (starts_at_call p q.formals terms ++ (initial_at_call p q terms ++ (result_head p q, y) ∷ [])) h ≡ cond (head_eq h (result_head p q)) (Some y) None
        replaced_else y h other =
            replacing-none (starts_at_call p q.formals terms) _ h (no_start p q.formals terms h other)
            ∙ ap (λ (k : List (Head × Term)). replacing (k ++ (result_head p q, y) ∷ []) h) no_pairs

        result_sort : sort_of_result p q ≡ sort_of p.forms t
        result_sort = ap (λ o. sort_or_int (sort_of_type p o)) result

        pub exit_same : (after : State) → IsStart p (Some id) after → after.variables ≡ state.variables → after.heap ≡ state.heap → (y : Head) → is_variable y ≡ true → v y ≡ result_in (Some q) after.frames
            → (h : Head) → exit_test p q h ≡ true → is_variable h ≡ true → valuation_of (shapes p) (both (entry_view p (Some id) (push id (names ++ own) state)) (now_view p (Some id) after)) h ≡ under symbols (replacing (starts_at_call p q.formals terms ++ (initial_at_call p q terms ++ (result_head p q, alone y) ∷ []))) v h
        exit_same after ended variables heap y fresh value (head.Var x s m) passes variable =
            let one = right_true (nat_eq m 0) _ passes in
            let two = right_true (not (is_value_parameter q x)) _ one in
            by_formal (found (map (λ f. (f.name, f.of)) q.formals) x) refl (left_true (nat_eq m 0) _ passes) (left_true (not (is_value_parameter q x)) _ one)
            (sort_eq-true s (sort_or_int (found (exit_scope p q) x)) (left_true (sort_eq s (sort_or_int (found (exit_scope p q) x))) _ two)) (right_true (sort_eq s (sort_or_int (found (exit_scope p q) x))) _ two)
          where
            Same : Head → Type 0
            Same h = valuation_of (shapes p) (both (entry_view p (Some id) (push id (names ++ own) state)) (now_view p (Some id) after)) h ≡ under symbols (replacing (starts_at_call p q.formals terms ++ (initial_at_call p q terms ++ (result_head p q, alone y) ∷ []))) v h

            others : List (Symbol × Sort)
            others = initial_names p (Some q) ++ with_sorts_of p p.variables

            no_names : initial_names p (Some q) ≡ []
            no_names = ap (map (λ (i : Symbol × Item). (i.0, item_sort p (Some q) i.1))) (initial t result)

            -- another name than the function's
            shared : same_name q.name x ≡ false → nat_eq m 0 ≡ true → s ≡ sort_or_int (found (initial_names p (Some q) ++ with_sorts_of p p.variables) x) → lists q.globals (Variable x) false ≡ true → Same (head.Var x s m)
            shared other zero sort listed =
                let k = declared x listed in
                at_head Same x s (sort_of p.forms k.type) m
                (sort ∙ ap sort_or_int (ap (λ (k : List (Symbol × Sort)). found (k ++ with_sorts_of p p.variables) x) no_names ∙ (found-sorts p p.variables x ∙ ap (option_map (sort_of p.forms)) k.is))) zero
                (now_told after (head.Var x (sort_of p.forms k.type) 0) (v (head.Var x (sort_of p.forms k.type) 0)) (callee_name after ended variables heap x k.type listed k.is)
                ∙ sym (ap (λ o. value_under symbols v o (v (head.Var x (sort_of p.forms k.type) 0)))
                (replaced_else (alone y) (head.Var x (sort_of p.forms k.type) 0) (λ x s. refl) ∙ ap (λ b. cond (b && (sort_eq (sort_of p.forms k.type) (sort_of_result p q) && true)) (Some (alone y)) None) (other_way q.name x other))))

            by_name : (b : Bool) → same_name q.name x ≡ b → nat_eq m 0 ≡ true → s ≡ sort_or_int (found (with_sorts_of p (result_name q.name (Some t)) ++ (initial_names p (Some q) ++ with_sorts_of p p.variables)) x) → use_allowed q.globals (cond (is_some (cond b (Some t) None) || is_initial q x) (Own x) (Shared (Variable x))) false ≡ true → Same (head.Var x s m)
            by_name true e zero sort allowed =
                let name = same_names q.name x e in
                let r = result_of t result after ended in
                subst (λ (z : Symbol). Same (head.Var z s m)) name
                (at_head Same q.name s (sort_of p.forms t) m (sort ∙ ap sort_or_int (ap (λ b. cond b (Some (sort_of p.forms t)) (found (initial_names p (Some q) ++ with_sorts_of p p.variables) x)) e)) zero
                (now_told after (head.Var q.name (sort_of p.forms t) 0) (result_in (Some q) after.frames) (own_shows after q.name t (result_in (Some q) after.frames) (result_type_own t result) r.shows)
                ∙ sym (ap (λ o. value_under symbols v o (v (head.Var q.name (sort_of p.forms t) 0)))
                (replaced_else (alone y) (head.Var q.name (sort_of p.forms t) 0) (λ x s. refl) ∙ ap (λ b. cond b (Some (alone y)) None) (ap (λ k. head_eq (head.Var q.name k 0) (result_head p q)) (sym result_sort) ∙ head_eq-refl (result_head p q)))
                ∙ (worth-variable symbols v y [] fresh ∙ value))))
            by_name false e zero sort allowed =
                shared e zero (sort ∙ ap sort_or_int (ap (λ b. cond b (Some (sort_of p.forms t)) (found (initial_names p (Some q) ++ with_sorts_of p p.variables) x)) e))
                (ap (λ (names : List (Symbol × Item)). use_allowed q.globals (cond (is_some (found names x)) (Own x) (Shared (Variable x))) false) (sym (initial t result)) ∙ allowed)

            by_formal : (o : Option TypeId) → found (map (λ f. (f.name, f.of)) q.formals) x ≡ o → nat_eq m 0 ≡ true → not (is_value_parameter q x) ≡ true → s ≡ sort_or_int (found (exit_scope p q) x) → use_allowed q.globals (cond (is_some o || (is_some (found (result_name q.name q.result) x) || is_initial q x)) (Own x) (Shared (Variable x))) false ≡ true → Same (head.Var x s m)
            by_formal (Some u) e zero kept sort allowed = absurd (false≢true (sym (not_true (is_value_parameter q x) kept) ∙ formal_is_value q.formals (by_value t result) x (ap is_some e)))
            by_formal None e zero kept sort allowed =
                by_name (same_name q.name x) refl zero
                (sort ∙ ap sort_or_int (scope_other x _ e ∙ ap (λ o. found (with_sorts_of p (result_name q.name o) ++ (initial_names p (Some q) ++ with_sorts_of p p.variables)) x) result))
                (ap (λ o. use_allowed q.globals (cond (is_some (found (result_name q.name o) x) || is_initial q x) (Own x) (Shared (Variable x))) false) (sym result) ∙ allowed)
        exit_same after ended variables heap y fresh value (head.ClassVar c m) passes variable =
            subst (λ (h : Head). valuation_of (shapes p) (both (entry_view p (Some id) (push id (names ++ own) state)) (now_view p (Some id) after)) h ≡ under symbols (replacing (starts_at_call p q.formals terms ++ (initial_at_call p q terms ++ (result_head p q, alone y) ∷ []))) v h) (sym (ap (head.ClassVar c) (eqb-true m 0 (left_true (nat_eq m 0) _ passes))))
            (now_told after (head.ClassVar c 0) (v (head.ClassVar c 0)) (callee_class after ended variables heap c (right_true (nat_eq m 0) _ passes))
            ∙ sym (ap (λ o. value_under symbols v o (v (head.ClassVar c 0))) (replaced_else (alone y) (head.ClassVar c 0) (λ x s. refl))))
        exit_same after ended variables heap y fresh value (head.Start x s) passes variable =
            by_formal (found (map (λ f. (f.name, f.of)) q.formals) x) refl (value_is_formal q.formals x kept)
          where
            kept : is_value_parameter q x ≡ true
            kept = left_true (is_value_parameter q x) _ passes

            Same : Head → Type 0
            Same h = valuation_of (shapes p) (both (entry_view p (Some id) (push id (names ++ own) state)) (now_view p (Some id) after)) h ≡ under symbols (replacing (starts_at_call p q.formals terms ++ (initial_at_call p q terms ++ (result_head p q, alone y) ∷ []))) v h

            by_formal : (o : Option TypeId) → found (map (λ f. (f.name, f.of)) q.formals) x ≡ o → is_some o ≡ true → Same (head.Start x s)
            by_formal None e some = absurd (false≢true some)
            by_formal (Some u) e some =
                let a = argument x u kept e in
                let sort = sort_eq-true s (sort_or_int (found (exit_scope p q) x)) (right_true (is_value_parameter q x) _ passes) ∙ ap sort_or_int (scope_parameter x u _ e) in
                subst (λ (k : Sort). Same (head.Start x k)) (sym sort)
                (start_told after x (sort_of p.forms u) a.value (start_shown x u a.value e kept a.bound)
                ∙ sym (ap (λ o. value_under symbols v o (v (head.Start x (sort_of p.forms u)))) (replacing-there (starts_at_call p q.formals terms) _ (head.Start x (sort_of p.forms u)) a.term a.started) ∙ a.worth))
        exit_same after ended variables heap y fresh value _ passes variable = absurd (false≢true variable)
