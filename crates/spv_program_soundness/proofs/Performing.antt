-- Calls of procedures are right.
use Rattle.std.proofs.Common.{◌≡◌, ℕ, suc, Bool, true, false, cond, not, ◌&&◌, ◌||◌, List, [], ◌∷◌, ◌++◌, map, filter, length, refl, sym, ap, subst, ◌∙◌, nat_eq, Option, Some, None, option_map, arith, nat_lt, zero}
use Rattle.std.specs.Prelude.{is_some}
use Rattle.std.specs.List.{list_all, list_any}
use Rattle.std.specs.Option.{unwrap_or}
use Rattle.std.specs.Cmp.Derive.{both_true}
use Rattle.std.proofs.lemmas.Bool.{false≢true, eqb-true}
use Rattle.spv_logic.proofs.list.Tests.{left_true, right_true, right_false}
use Rattle.spv_logic.specs.declared.names.names.Symbol.{Symbol}
use Rattle.spv_logic.specs.declared.types.TypeId.{TypeId}
use Rattle.spv_logic.specs.declared.types.Sort.{Sort}
use Rattle.spv_logic.specs.declared.conditions.RoutineId.{RoutineId}
use Rattle.spv_logic.specs.declared.operators.Head.{Head}
use Rattle.spv_logic.specs.Values.{Value, truth_of}
use Rattle.spv_logic.specs.Terms.{Term, sort_eq, head_eq, eval}
use Rattle.spv_logic.specs.Shapes.{shapes_ok}
use Rattle.spv_logic.specs.Fits.{fits, default_of}
use Rattle.spv_logic.specs.Sorts.{variable_sort}
use Rattle.spv_logic.specs.Substitution.{is_variable, substitute, value_under, under}
use Rattle.spv_logic.specs.Conditions.{Meaning, Valuation, IsValuation, View, Shows, both, shown_or, holds, Condition}
use Rattle.spv_logic.proofs.Equality.{sort_eq-true, sort_eq-refl, head_eq-true, head_eq-refl}
use Rattle.spv_logic.proofs.Substitution.{worth-variable, eval-substitute, eval-agree}
use Rattle.spv_program.specs.declared.types.Item.{Item}
use Rattle.spv_program.specs.declared.types.Item.TheVariants.{Variable, Class}
use Rattle.spv_program.specs.Lists.{same_name, found, first_of, all_differ}
use Rattle.spv_program.specs.Types.{sort_of, same_item}
use Rattle.spv_program.specs.Formulas.{Annotation}
use Rattle.spv_program.specs.Expressions.{Arguments, call, no_arguments, by_value, by_place}
use Rattle.spv_program.specs.Programs.{Formal, Routine, Program, shapes, lists, routine_at, routine_in}
use Rattle.spv_program.specs.Scopes.{is_own, sort_or_int, item_sort, result_name, parameters_of, with_sorts_of, initial_names, entry_scope, exit_scope, is_value_parameter}
use Rattle.spv_program.specs.Uses.{Root, Own, Shared, same_root, annotation_uses, expression_uses, designator_uses, argument_uses, argument_calls}
use Rattle.spv_program.specs.Frames.{is_initial, use_allowed, is_item_of, place_roots, roots_apart, globals_of, arguments_apart, root_of}
use Rattle.spv_program.specs.Changes.{var_items, items_of_callee, changed_roots, all_roots}
use Rattle.spv_program.specs.Terms.{alone, item_head, name_at_exit, exit_term}
use Rattle.spv_program.specs.Supplies.{Supply, full_supply}
use Rattle.spv_program.specs.Calls.{Argument, Given, AtPlace, replacing, formal_head, at_call, starts_at_call, initial_at_call, exit_at_call, entry_at_call}
use Rattle.spv_program.specs.ExpressionTypes.{callee, arguments_fit, may_write, expression_sort, designator_type, stands_for}
use Rattle.spv_program.specs.Typing.{may_be_initial, is_procedure, well_typed}
use Rattle.spv_program.proofs.SortFacts.{nothing_there, some_is}
use Rattle.spv_meaning.specs.Places.{HeapRow, Place, Binding, State, Holding, Referring, look, exists}
use Rattle.spv_meaning.specs.Views.{bound_place, place_of, sees, class_of, now_view, entry_view}
use Rattle.spv_meaning.specs.Outcomes.{Ended, ends, and_then}
use Rattle.spv_meaning.specs.Levels.{Here, Bound, reached_exit, push, pop, enter}
use Rattle.spv_meaning.specs.Evaluation.{arguments, formals_of}
use Rattle.spv_meaning.specs.Walks.{level, walk}
use Rattle.spv_meaning.specs.FrameTypes.{formal_slot, names_right}
use Rattle.spv_meaning.specs.Starts.{IsStart, Area}
use Rattle.spv_meaning.specs.Starts as starts
use Rattle.spv_meaning.specs.Correct.{CorrectBelow, valuation_of, met_holds, begun, all_hold, met_if_there}
use Rattle.spv_meaning.specs.Before.{wanted_entry, renamed, changed_places, Made, before_entering, replaced, assuming_if_there, before_calls}
use Rattle.spv_meaning.proofs.Differing.{not_true, none_both}
use Rattle.spv_meaning.proofs.Maps.{same_names, other_way}
use Rattle.spv_preservation.proofs.Calls.{formals_differ}
use Rattle.spv_preservation.proofs.Expressions.{is_callee}
use Rattle.spv_rule_soundness.specs.evaluation.Laws.{uses_seen}
use Rattle.spv_rule_soundness.specs.statements.Truth.{is_new, IsLater, IsWindow, IsEntry, meaning_in, shown, IsTrueFor, Ignores, all_follow}
use Rattle.spv_rule_soundness.proofs.evaluation.Settings.{found-append, forms_right, view_name}
use Rattle.spv_rule_soundness.proofs.statements.Lists.{not_new, second_part, follow-replaced, assumed}
use Rattle.spv_rule_soundness.proofs.statements.Views.{in_first, within, laid_over}
use Rattle.spv_rule_soundness.proofs.statements.States.{shown_fit, shown_taken, at_state-valuation, at_state-shows, same_shown}
use Rattle.spv_rule_soundness.proofs.statements.Renaming.{is_name, with_fresh, fresh_else, fresh_valuation, under_there, under_else}
use Rattle.spv_writes.specs.Writes.{Writes, is_in, is_in_one}
use Rattle.spv_writes.proofs.Lists.{not_so, or_left, or_right, any_left, any_right, all_left, all_right, all_both}
use Rattle.spv_writes.proofs.Kept.{existing, widen}
use Rattle.spv_frame_law.specs.Frames.{area_of_item, areas_of, referred, refer_in_turn, call_areas, root_shown, call_shown, routine_areas}
use Rattle.spv_frame_law.specs.Laws.{IsFramed}
use Rattle.spv_frame_law.proofs.Callees.{no_items_of}
use Rattle.spv_frame_law.proofs.Levels.{arguments_bound, bound_rightly, called_writes, routine_writes}
use Rattle.spv_frame_law.proofs.Sharing.{item_itself}
use Rattle.spv_frame_law.proofs.Covering.{refers_into, in_turn_all, roots_among, items_among, referred_covered, covered_both, covered_by}
use Rattle.spv_frame_law.proofs.Starts.{start_stays}
use Rattle.spv_frame_law.proofs.Views.{place_stays}
use Rattle.spv_call_evaluation.specs.Known.{Knows, Widens}
use Rattle.spv_call_evaluation.specs.Lying.{AreBound, NoneBound, ValueBound, PlaceBound, IsBoundTo}
use Rattle.spv_call_evaluation.specs.Functions.{calls_shown}
use Rattle.spv_call_evaluation.proofs.Windows.{knows_shown, reach_with}
use Rattle.spv_call_evaluation.proofs.Heads.{entry_test, exit_test, exit_passes, formula_passes, named_at_exit, found-sorts, value_is_formal}
use Rattle.spv_call_evaluation.proofs.Parameters.{replacing-there, replacing-none, bound_value, no_start, ParameterAt, parameter_at}
use Rattle.spv_call_evaluation.proofs.Pushed.{unpopped_look}
use Rattle.spv_program_soundness.proofs.Roots.{IsRootOf, OfName, OfClass, root_is}
use Rattle.spv_program_soundness.proofs.Staying.{AreRoots, NoRoots, OneRoot, roots_joined, else_stays, all_show}
use Rattle.spv_program_soundness.proofs.Changed.{heads_changed, heads_after, item_heads, all_named, exit_renamed, fresh_worth, AreWritten, StandsAfter, places_stand, unreplaced}
use Rattle.spv_program_soundness.proofs.Touching.{place_heads, EndsAt, all_written}
use Rattle.spv_program_soundness.proofs.Entries.{listed_there, found_all, place_is_formal, all_initial, initial_hidden, initial_held, initial_shown, no_window}
use Rattle.spv_rule_soundness.specs.statements.Runs.{all_allowed, Reaches, may_change, EndsWell, IsRight}
use Rattle.spv_preservation.proofs.Growing.{grows_not}
use Rattle.spv_frame_law.proofs.Records.{all_among, is_among, call_among, changes_itself}
use Rattle.spv_program_soundness.proofs.Returning.{refers, place_changed, vars_among, var_listed, item_root, items_roots, item_apart}
use Rattle.spv_logic.specs.declared.operators.Head.TheVariants as head
use Rattle.spv_call_evaluation.proofs.Callees as callees
use Rattle.spv_call_evaluation.proofs.Functions.{defaults_right}
use Rattle.spv_call_evaluation.proofs.Functions as functions
use Rattle.std.proofs.lemmas.Bool.Decides.{nat_tests}
use Rattle.spv_program.specs.Statements.{Perform}
use Rattle.spv_program.specs.FormulaTypes.{is_sort}
use Rattle.spv_program.specs.ExpressionTerms.{Argued, valued, placed, argued}
use Rattle.spv_rule_soundness.specs.statements.Laws.{below}
use Rattle.spv_rule_soundness.proofs.evaluation.Values.{seen_left, seen_right}
use Rattle.spv_rule_soundness.proofs.statements.Reaching.{reach_then, reach_ends, reach_going, true_first}
use Rattle.spv_frame_law.proofs.Uses.{place_roots_kept}
use Rattle.spv_call_evaluation.specs.Laws.{IsReady}
use Rattle.spv_call_evaluation.proofs.Evaluating.{argued_at}
use Rattle.spv_program_soundness.specs.Calls.{CallsAreRightIn, EnteringsAreRightIn}
use Rattle.spv_program_soundness.proofs.Kept.{root_kept}

-- what a list has beside a first item, and a name with what is made of it
found_mapped : {X Y : Type 0} (g : X → Y) (entries : List (Symbol × X)) (x : Symbol) → found (map (λ n. (n.0, g n.1)) entries) x ≡ option_map g (found entries x)
found_mapped g [] x = refl
found_mapped g (n ∷ entries) x = by_name (same_name n.0 x) (found_mapped g entries x)
  where
    by_name : (b : Bool) → found (map (λ n. (n.0, g n.1)) entries) x ≡ option_map g (found entries x) → cond b (Some (g n.1)) (found (map (λ n. (n.0, g n.1)) entries) x) ≡ option_map g (cond b (Some n.1) (found entries x))
    by_name true later = refl
    by_name false later = later

-- ---- INITIAL names at a call

module _ (p : Program) (q : Routine) (by : Item → Term) where
  abbrev pairs_of : List (Symbol × Item) → List (Head × Term)
  pairs_of entries = map (λ i. (head.Var i.0 (item_sort p (Some q) i.1) 0, by i.1)) entries

  initial_pair : (entries : List (Symbol × Item)) (x : Symbol) (i : Item) → found entries x ≡ Some i → replacing (map (λ i. (head.Var i.0 (item_sort p (Some q) i.1) 0, by i.1)) entries) (head.Var x (item_sort p (Some q) i) 0) ≡ Some (by i)
  initial_pair [] x i e = absurd (nothing_there e)
  initial_pair (n ∷ entries) x i e = by_name (same_name n.0 x) refl e (initial_pair entries x i)
    where
      by_name : (b : Bool) → same_name n.0 x ≡ b → cond b (Some n.1) (found entries x) ≡ Some i → (found entries x ≡ Some i → replacing (map (λ i. (head.Var i.0 (item_sort p (Some q) i.1) 0, by i.1)) entries) (head.Var x (item_sort p (Some q) i) 0) ≡ Some (by i))
          → replacing (map (λ i. (head.Var i.0 (item_sort p (Some q) i.1) 0, by i.1)) (n ∷ entries)) (head.Var x (item_sort p (Some q) i) 0) ≡ Some (by i)
      by_name true is e later =
          let name = same_names n.0 x is in
          let item = some_is e in
          ap (λ b. cond b (Some (by n.1)) (replacing (map (λ i. (head.Var i.0 (item_sort p (Some q) i.1) 0, by i.1)) entries) (head.Var x (item_sort p (Some q) i) 0)))
          ((λ j. head_eq (head.Var x (item_sort p (Some q) i) 0) (head.Var (name j) (item_sort p (Some q) (item j)) 0)) ∙ head_eq-refl (head.Var x (item_sort p (Some q) i) 0))
          ∙ ap (λ j. Some (by j)) item
      by_name false is e later =
          ap (λ b. cond (b && (sort_eq (item_sort p (Some q) i) (item_sort p (Some q) n.1) && true)) (Some (by n.1)) (replacing (map (λ i. (head.Var i.0 (item_sort p (Some q) i.1) 0, by i.1)) entries) (head.Var x (item_sort p (Some q) i) 0))) (other_way n.0 x is)
          ∙ later e

  no_initial_name : (entries : List (Symbol × Item)) (x : Symbol) (s : Sort) → found entries x ≡ None → replacing (map (λ i. (head.Var i.0 (item_sort p (Some q) i.1) 0, by i.1)) entries) (head.Var x s 0) ≡ None
  no_initial_name [] x s e = refl
  no_initial_name (n ∷ entries) x s e = by_name (same_name n.0 x) refl e (no_initial_name entries x s)
    where
      by_name : (b : Bool) → same_name n.0 x ≡ b → cond b (Some n.1) (found entries x) ≡ None → (found entries x ≡ None → replacing (map (λ i. (head.Var i.0 (item_sort p (Some q) i.1) 0, by i.1)) entries) (head.Var x s 0) ≡ None)
          → replacing (map (λ i. (head.Var i.0 (item_sort p (Some q) i.1) 0, by i.1)) (n ∷ entries)) (head.Var x s 0) ≡ None
      by_name true is e later = absurd (nothing_there (sym e))
      by_name false is e later =
          ap (λ b. cond (b && (sort_eq s (item_sort p (Some q) n.1) && true)) (Some (by n.1)) (replacing (map (λ i. (head.Var i.0 (item_sort p (Some q) i.1) 0, by i.1)) entries) (head.Var x s 0))) (other_way n.0 x is)
          ∙ later e

  no_initial_class : (entries : List (Symbol × Item)) (c : TypeId) → replacing (map (λ i. (head.Var i.0 (item_sort p (Some q) i.1) 0, by i.1)) entries) (head.ClassVar c 0) ≡ None
  no_initial_class [] c = refl
  no_initial_class (n ∷ entries) c = no_initial_class entries c

-- ---- lists

all_members : (test : Item → Bool) (items : List Item) → ((i : Item) → list_any (same_item i) items ≡ true → test i ≡ true) → list_all test items ≡ true
all_members test [] each = refl
all_members test (i ∷ items) each = both_true (each i (or_left (same_item i i) _ (item_itself i))) (all_members test items (λ j among. each j (or_right (same_item j i) _ among)))

refers_more : (heap : List HeapRow) (one two : List Area) → ((a : Place) → is_in_one heap one a ≡ true → is_in_one heap two a ≡ true) → (names : List (Symbol × Binding)) → list_all (refers_into heap one) names ≡ true → list_all (refers_into heap two) names ≡ true
refers_more heap one two more [] all = refl
refers_more heap one two more ((x, Holding v) ∷ names) all = refers_more heap one two more names all
refers_more heap one two more ((x, Referring a) ∷ names) all = both_true (more a (left_true (is_in_one heap one a) _ all)) (refers_more heap one two more names (right_true (is_in_one heap one a) _ all))

heads_are : (p : Program) (symbols : Meaning) (here : Here) (state : State) (window : View) (q : Routine) (formals : List Formal) (terms : List Argument) (names : List (Symbol × Binding)) → AreBound p symbols here state window formals terms names → heads_after p q formals terms ≡ place_heads terms ++ item_heads p q (var_items q.globals)
heads_are p symbols here state window q _ _ _ NoneBound = refl
heads_are p symbols here state window q _ _ _ (ValueBound f t w kept sorted worth formals terms names others) = heads_are p symbols here state window q formals terms names others
heads_are p symbols here state window q _ _ _ (PlaceBound f d a placed sorted lies formals terms names others) = ap (λ (k : List Head). d.root ∷ k) (heads_are p symbols here state window q formals terms names others)

items_changed : (p : Program) (q : Routine) (formals : List Formal) (terms : List Argument) (h : Head) → list_any (head_eq h) (heads_changed p q formals terms) ≡ false → list_any (head_eq h) (item_heads p q (var_items q.globals)) ≡ false
items_changed p q [] terms h none = none
items_changed p q (f ∷ formals) [] h none = none
items_changed p q (f ∷ formals) (Given t ∷ terms) h none = items_changed p q formals terms h none
items_changed p q (f ∷ formals) (AtPlace d ∷ terms) h none = items_changed p q formals terms h (right_false (head_eq h (formal_head p f)) _ none)

-- what a root shows is what a valuation of the view says
known_root : (p : Program) (symbols : Meaning) (here : Here) (state : State) (window : View) (v : Valuation) → Knows p symbols here state window v → Shows (now_view p here.routine state) v → (root : Root) (h : Head) → IsRootOf p (routine_in p here.routine) root h → now_view p here.routine state h ≡ Some (v h)
known_root p symbols here state window v knows shows _ _ (OfName x t told seen) = view_name p here.routine state x t (v (head.Var x (sort_of p.forms t) 0)) told seen (knows.setting.named x t told seen)
known_root p symbols here state window v knows shows _ _ (OfClass c exists seen) =
    let class = ap (λ b. cond b (Some (class_of (shapes p) state.heap c)) None) seen in class ∙ ap Some (sym (shows (head.ClassVar c 0) (class_of (shapes p) state.heap c) class))

-- ---- a call that returned

module _ (p : Program) (f : IsFramed p) (world : Meaning) (here : Here) (entry : IsEntry p here.entry) (state : State) (start : IsStart p here.routine state) (k : ℕ) (correct : CorrectBelow p world (suc k))
    (id : RoutineId) (line : ℕ) (given : Arguments) (q : Routine) (called : callee p (routine_in p here.routine) (call id line given) ≡ Some q) (shown_calls : calls_shown p (routine_in p here.routine) (call id line given ∷ []) ≡ true)
    (choices : List Value) (bound : Bound) (ended : (arguments p (Some (level p k)) here q.formals given state choices).end ≡ Ended bound) (n : Supply) (window : View) (is : IsWindow p n window)
    (terms : List Argument) (binds : IsBoundTo p (meaning_in p world) here state q.formals terms window bound) (known : IsTrueFor p world (shown p here window state) (wanted_entry here.routine line (entry_at_call p q terms)))
    (are : AreRoots p here (place_roots (is_own (routine_in p here.routine)) given) (place_heads terms)) (no_result : q.result ≡ None)
    (rest : List Value) (end : State) (ran_to : (enter p (level p k) id (Some q) bound rest).end ≡ Ended end) (went : functions.Entered p f world here entry state start k correct id line given q called shown_calls choices bound ended n window is terms binds known end)
    (before : Supply) (first_window : View) (first_is : IsWindow p before first_window) (later : IsLater before n) (adds : (h : Head) → is_new before h ≡ false → window h ≡ first_window h) where
  abbrev symbols : Meaning
  symbols = meaning_in p world

  abbrev own : Symbol → Bool
  own = is_own (routine_in p here.routine)

  abbrev first : State
  first = push id (bound.names ++ went.own) state

  abbrev after : State
  after = pop end

  there : routine_at p id ≡ Some q
  there = functions.there p f world here entry state start k correct id line given q called shown_calls choices bound ended n window is terms binds

  seen : list_all (λ g. sees (routine_in p here.routine) g.item) q.globals ≡ true
  seen = functions.seen p f world here entry state start k correct id line given q called shown_calls choices bound ended n window is terms binds

  -- ---- what the call wrote

  given_fit : arguments_fit p (routine_in p here.routine) q.formals given ≡ true
  given_fit = (is_callee p (routine_in p here.routine) id line given q called).fit

  turn : refer_in_turn state.heap state.frames bound.names (place_roots (is_own (routine_in p here.routine)) given) ≡ true
  turn = (arguments_bound p f here start.right.types start.right.inside q.formals given given_fit state start.right.right (suc k) choices bound ended).names

  rightly : names_right p start.right.types bound.state.heap (map formal_slot q.formals) bound.names ≡ true
  rightly = (bound_rightly p f here start.right.types start.right.inside q.formals given given_fit state start.right.right (suc k) choices bound ended).names

  names_are_right : names_right p start.right.types state.heap (map formal_slot q.formals) bound.names ≡ true
  names_are_right = subst (λ (s : State). names_right p start.right.types s.heap (map formal_slot q.formals) bound.names ≡ true) binds.state_is rightly

  wrote : Writes p (call_areas bound.names q) state (pop end)
  wrote =
      subst (λ (s : State). Writes p (call_areas bound.names q) s (pop end)) binds.state_is
      (called_writes p f id q there start.right.types bound (subst (λ (s : State). starts.IsRight p start.right.types s) (sym binds.state_is) start.right.right) rightly k rest end ran_to)

  pub after_start : IsStart p here.routine (pop end)
  after_start = start_stays p here.routine state start (call_areas bound.names q) (pop end) wrote

  body_wrote : Writes p (routine_areas q (push id (bound.names ++ went.own) state)) (push id (bound.names ++ went.own) state) end
  body_wrote = routine_writes p f id q there (push id (bound.names ++ went.own) state) went.began.right k went.ran.taken end went.ran.ran_to

  roots_ok : roots_apart q.globals (place_roots (is_own (routine_in p here.routine)) given) ≡ true
  roots_ok = sym (ap (λ o. roots_apart (globals_of o) (place_roots (is_own (routine_in p here.routine)) given)) there) ∙ functions.apart p f world here entry state start k correct id line given q called shown_calls choices bound ended n window is terms binds

  roots_differ : all_differ same_root (place_roots (is_own (routine_in p here.routine)) given) ≡ true
  roots_differ = left_true (all_differ same_root (place_roots (is_own (routine_in p here.routine)) given)) _ roots_ok

  no_items : list_any (λ r. list_any (same_root r) (map Shared (map (λ g. g.item) q.globals))) (place_roots (is_own (routine_in p here.routine)) given) ≡ false
  no_items = no_items_of q.globals (place_roots (is_own (routine_in p here.routine)) given) (not_true (list_any (is_item_of q.globals) (place_roots (is_own (routine_in p here.routine)) given)) (right_true (all_differ same_root (place_roots (is_own (routine_in p here.routine)) given)) _ roots_ok))

  item_roots : AreRoots p here (map Shared (var_items q.globals)) (item_heads p q (var_items q.globals))
  item_roots = items_roots p f world here entry state start id q there seen (var_items q.globals) (all_members (λ i. lists q.globals i false) (var_items q.globals) (var_listed q.globals))

  -- the roots that it wrote in
  abbrev written_roots : List Root
  written_roots = place_roots (is_own (routine_in p here.routine)) given ++ map Shared (var_items q.globals)

  wrote_roots : Writes p (areas_of state.frames (place_roots (is_own (routine_in p here.routine)) given ++ map Shared (var_items q.globals))) state (pop end)
  wrote_roots =
      let places = place_roots (is_own (routine_in p here.routine)) given in
      let items = map Shared (var_items q.globals) in
      let areas = areas_of state.frames (places ++ items) in
      let places_there = all_among (places ++ items) places (λ r h. any_left (same_root r) places items h) in
      let items_there = all_among (places ++ items) items (λ r h. any_right (same_root r) places items h) in
      widen p (call_areas bound.names q) areas state.heap
      (covered_both state.heap (referred bound.names) (map area_of_item (var_items q.globals)) areas
      (referred_covered state.heap areas bound.names (refers_more state.heap (areas_of state.frames places) areas (λ a h. roots_among (is_in state.heap a) state.frames places (places ++ items) places_there h) bound.names (in_turn_all state.heap state.frames bound.names places turn)))
      (covered_by state.heap (map area_of_item (var_items q.globals)) areas (λ g h. items_among g state.frames (var_items q.globals) (places ++ items) items_there h)))
      state (pop end) wrote (grows_not state.heap)

  -- all else shows what it did
  pub rest_stays : (h : Head) → list_any (head_eq h) (heads_after p q q.formals terms) ≡ false → now_view p here.routine (pop end) h ≡ now_view p here.routine state h
  rest_stays h none =
      else_stays p here state start (place_roots (is_own (routine_in p here.routine)) given ++ map Shared (var_items q.globals)) (place_heads terms ++ item_heads p q (var_items q.globals))
      (roots_joined p here (place_roots (is_own (routine_in p here.routine)) given) (place_heads terms) are (map Shared (var_items q.globals)) (item_heads p q (var_items q.globals)) item_roots) (pop end) wrote_roots h
      (ap (list_any (head_eq h)) (sym (heads_are p symbols here state window q q.formals terms bound.names binds.names)) ∙ none)

  -- ---- under a valuation of what shows afterwards

  module _ (v : Valuation) (val : IsValuation (shapes p) v) (shows : Shows (shown p here first_window (pop end)) v) where
    abbrev heads : List Head
    heads = heads_changed p q q.formals terms

    -- what the procedure shows at its end
    abbrev source : Valuation
    source = valuation_of (shapes p) (now_view p (Some id) end)

    -- what the caller shows where the call begins
    abbrev base : Valuation
    base = within (shown p here window state) v

    -- this, where the fresh variables have the values of the end
    abbrev u : Valuation
    u = with_fresh (renamed (heads_changed p q q.formals terms) n).pairs (valuation_of (shapes p) (now_view p (Some id) end)) (within (shown p here window state) v)

    ok_forms : shapes_ok (shapes p) ≡ true
    ok_forms = forms_right p f.typed

    named : list_all is_name heads ≡ true
    named = all_named p q q.formals terms

    end_fits : (h : Head) (w : Value) → now_view p (Some id) end h ≡ Some w → fits (shapes p) w (variable_sort h) ≡ true
    end_fits h w e =
        shown_fit p ok_forms world (record { routine = Some id; entry = no_window }) (record { fit = λ h w e. absurd (nothing_there e); old = λ h w e. absurd (nothing_there e) }) full_supply no_window
        (record { fit = λ h w e. absurd (nothing_there e); taken = λ h w e. absurd (nothing_there e); fresh = λ h w e. absurd (nothing_there e) }) end went.ran.is_start h w (in_first _ None w (in_first _ None w e))

    source_right : IsValuation (shapes p) source
    source_right = laid_over p (now_view p (Some id) end) end_fits (λ h. default_of (shapes p) (variable_sort h)) (defaults_right p ok_forms)

    u_right : IsValuation (shapes p) u
    u_right = fresh_valuation p heads named n source base source_right (at_state-valuation p ok_forms world here entry n window is state start v val)

    u_else : (h : Head) → is_new n h ≡ false → u h ≡ within (shown p here window state) v h
    u_else h old = fresh_else heads named n source base h old

    u_shows : Shows (shown p here window state) u
    u_shows h w e = u_else h (shown_taken p ok_forms world here entry n window is state h w e) ∙ at_state-shows p ok_forms world here entry n window is state v h w e

    u_knows : Knows p (meaning_in p world) here state window u
    u_knows = knows_shown p f.typed world here entry n window is state start _ u_right u_shows

    u_now : Shows (now_view p here.routine state) u
    u_now h w e = u_shows h w (in_first _ (window h) w (in_first _ (here.entry h) w e))

    -- what shows the same before and after has one value
    unchanged : (h : Head) → is_new before h ≡ false → now_view p here.routine (pop end) h ≡ now_view p here.routine state h → u h ≡ v h
    unchanged h old same =
        u_else h (not_new before n h later old)
        ∙ (ap (λ o. unwrap_or (shown_or (both here.entry (now_view p here.routine state) h) o) (v h)) (adds h old)
        ∙ same_shown p ok_forms world here entry before first_window first_is state (pop end) v h same shows)

    -- ---- VAR parameters and items at the end

    record PlaceEnd (x : Symbol) (t : TypeId) (a : Place) : Type 0 where
      value : Value
      holds : look (pop end) a ≡ Some value
      there_too : now_view p (Some id) end (head.Var x (sort_of p.forms t) 0) ≡ Some value

    place_end : (x : Symbol) (t : TypeId) (a : Place) → found bound.names x ≡ Some (Referring a) → found (map (λ f. (f.name, f.of)) q.formals) x ≡ Some t → PlaceEnd x t a
    place_end x t a refer type = by_value (look (pop end) a) refl (existing p (call_areas bound.names q) state (pop end) wrote a (ap is_some held))
      where
        at : ParameterAt p (meaning_in p world) u state q.formals terms bound.names x t
        at = parameter_at p (meaning_in p world) here state window u u_knows q.formals terms bound.names binds.names x t type

        held : look state a ≡ Some at.value
        held = ap (bound_value state) (some_is (sym refer ∙ at.bound)) ∙ at.holds

        place : place_of (Some id) end x ≡ a
        place =
            place_stays p (routine_areas q first) (Some id) first end body_wrote x
            ∙ ap (bound_place (length state.frames) x) (found-append bound.names went.own x ∙ ap (λ o. first_of o (found went.own x)) refer)

        by_value : (o : Option Value) → look (pop end) a ≡ o → is_some o ≡ true → PlaceEnd x t a
        by_value None e h = absurd (false≢true h)
        by_value (Some w) e h = record {
          value = w;
          holds = e;
          there_too = callees.own_shows p f id q there end x t w (callees.parameter_type p f id q there x t type) (ap (look end) place ∙ unpopped_look end a w e);
        }

    after_knows : Knows p (meaning_in p world) here (pop end) first_window v
    after_knows = knows_shown p f.typed world here entry before first_window first_is (pop end) after_start v val shows

    item_now : (i : Item) → lists q.globals i false ≡ true → now_view p here.routine (pop end) (item_head p (Some q) i) ≡ Some (v (item_head p (Some q) i))
    item_now i listed =
        known_root p (meaning_in p world) here (pop end) first_window v after_knows (λ h w e. shows h w (in_first _ (first_window h) w (in_first _ (here.entry h) w e))) (Shared i) (item_head p (Some q) i) (item_root p f world here entry state start id q there seen i listed)

    item_end : (i : Item) → lists q.globals i false ≡ true → now_view p (Some id) end (item_head p (Some q) i) ≡ Some (v (item_head p (Some q) i))
    item_end (Class c) listed = callees.callee_class p f id q there world here entry (pop end) after_start seen before first_window first_is v val shows end went.ran.is_start refl refl c listed
    item_end (Variable x) listed =
        let d = callees.declared p f id q there x listed in
        let sort = sort_listed x listed in
        ap (λ s. now_view p (Some id) end (head.Var x s 0)) sort
        ∙ (callees.callee_name p f id q there world here entry (pop end) after_start seen before first_window first_is v val shows end went.ran.is_start refl refl x d.type listed d.is
        ∙ ap (λ s. Some (v (head.Var x s 0))) (sym sort))
      where
        sort_listed : (x : Symbol) (listed : lists q.globals (Variable x) false ≡ true) → item_sort p (Some q) (Variable x) ≡ sort_of p.forms (callees.declared p f id q there x listed).type
        sort_listed x listed = ap (λ o. sort_or_int (option_map (sort_of p.forms) (first_of o (found p.variables x)))) (callees.not_own p f id q there x listed) ∙ ap (λ o. sort_or_int (option_map (sort_of p.forms) o)) (callees.declared p f id q there x listed).is

    -- ---- what is changed, in the caller's terms

    ends_at : (x : Symbol) (t : TypeId) (a : Place) → found bound.names x ≡ Some (Referring a) → found (map (λ f. (f.name, f.of)) q.formals) x ≡ Some t → EndsAt p f here state start q bound.names (pop end) wrote world window u u_knows u_now source x t a
    ends_at x t a refer type =
        let e = place_end x t a refer type in
        record { value = e.value; holds = e.holds; is = callees.told p (now_view p (Some id) end) (head.Var x (sort_of p.forms t) 0) e.value e.there_too }

    written : AreWritten p q (meaning_in p world) u source here (pop end) q.formals terms
    written =
        all_written p f here state start q bound.names (pop end) wrote world window u u_knows u_now source ends_at
        (all_show p here (map Shared (var_items q.globals)) (item_heads p q (var_items q.globals)) item_roots) terms binds.names names_are_right (formals_differ p f.typed id q there)
        (place_roots (is_own (routine_in p here.routine)) given) are turn roots_differ (vars_among q.globals (place_roots (is_own (routine_in p here.routine)) given) no_items)

    stands : (h : Head) → list_any (head_eq h) (heads_after p q q.formals terms) ≡ true → StandsAfter p q (meaning_in p world) u source here (pop end) (changed_places p q q.formals terms n).after h
    stands h among =
        places_stand p q (meaning_in p world) u source here (pop end)
        (λ i among. let listed = var_listed q.globals i among in item_now i listed ∙ ap Some (sym (callees.told p (now_view p (Some id) end) (item_head p (Some q) i) (v (item_head p (Some q) i)) (item_end i listed))))
        q.formals terms written n
        (fresh_worth p q (meaning_in p world) u source base heads named n (λ h new. refl)) h among

    -- with the terms in their places, the valuation of the beginning is that of the end
    replaced_alike : (h : Head) → is_new before h ≡ false → v h ≡ under (meaning_in p world) (replacing (changed_places p q q.formals terms n).after) u h
    replaced_alike h old = by_head (list_any (head_eq h) (heads_after p q q.formals terms)) refl
      where
        by_head : (b : Bool) → list_any (head_eq h) (heads_after p q q.formals terms) ≡ b → v h ≡ under (meaning_in p world) (replacing (changed_places p q q.formals terms n).after) u h
        by_head true among =
            let s = stands h among in
            shows h (eval (meaning_in p world) u s.term) (in_first _ (first_window h) _ (in_first _ (here.entry h) _ s.shows))
            ∙ sym (ap (λ o. value_under (meaning_in p world) u o (u h)) s.is)
        by_head false none =
            sym (ap (λ o. value_under (meaning_in p world) u o (u h)) (unreplaced p q q.formals terms n h none) ∙ unchanged h old (rest_stays h none))

    -- ---- EXIT

    -- the pairs of EXIT, where the fresh variables are a renaming
    abbrev exit_pairs : List (Head × Term)
    exit_pairs = starts_at_call p q.formals terms ++ (initial_at_call p q terms ++ (renamed heads n).pairs)

    abbrev Same : Head → Type 0
    Same h =
        valuation_of (shapes p) (both (entry_view p (Some id) first) (now_view p (Some id) end)) h
        ≡ under (meaning_in p world) (replacing (starts_at_call p q.formals terms ++ (initial_at_call p q terms ++ (renamed heads n).pairs))) u h

    end_view : View
    end_view = both (entry_view p (Some id) first) (now_view p (Some id) end)

    now_told : (h : Head) (w : Value) → now_view p (Some id) end h ≡ Some w → valuation_of (shapes p) (both (entry_view p (Some id) first) (now_view p (Some id) end)) h ≡ w
    now_told h w e = callees.told p (both (entry_view p (Some id) first) (now_view p (Some id) end)) h w (in_first (now_view p (Some id) end h) (entry_view p (Some id) first h) w e)

    -- what is no start and no INITIAL name is replaced by a fresh variable, or stays
    beside : (h : Head) → ((x : Symbol) (s : Sort) → head_eq h (head.Start x s) ≡ false) → replacing (initial_at_call p q terms) h ≡ None
        → under (meaning_in p world) (replacing (starts_at_call p q.formals terms ++ (initial_at_call p q terms ++ (renamed heads n).pairs))) u h ≡ under (meaning_in p world) (replacing (renamed heads n).pairs) u h
    beside h other none =
        ap (λ o. value_under (meaning_in p world) u o (u h))
        (replacing-none (starts_at_call p q.formals terms) _ h (no_start p q.formals terms h other) ∙ replacing-none (initial_at_call p q terms) _ h none)

    -- what shows at the end, and has a fresh variable or shows what it did
    same_now : (h : Head) (w : Value) → ((x : Symbol) (s : Sort) → head_eq h (head.Start x s) ≡ false) → replacing (initial_at_call p q terms) h ≡ None → now_view p (Some id) end h ≡ Some w
        → (list_any (head_eq h) heads ≡ false → u h ≡ w) → Same h
    same_now h w other none now_is kept = now_told h w now_is ∙ sym (beside h other none ∙ by_head (list_any (head_eq h) heads) refl)
      where
        by_head : (b : Bool) → list_any (head_eq h) heads ≡ b → under (meaning_in p world) (replacing (renamed heads n).pairs) u h ≡ w
        by_head true among = under_there (meaning_in p world) heads named n source base h among ∙ callees.told p (now_view p (Some id) end) h w now_is
        by_head false away = under_else (meaning_in p world) heads n u h away ∙ kept away

    -- an item of the list
    same_item_end : (i : Item) → lists q.globals i false ≡ true → is_new before (item_head p (Some q) i) ≡ false → ((x : Symbol) (s : Sort) → head_eq (item_head p (Some q) i) (head.Start x s) ≡ false) → replacing (initial_at_call p q terms) (item_head p (Some q) i) ≡ None → Same (item_head p (Some q) i)
    same_item_end i listed old other none =
        same_now (item_head p (Some q) i) (v (item_head p (Some q) i)) other none (item_end i listed)
        (λ away. unchanged (item_head p (Some q) i) old
        (else_stays p here state start (place_roots (is_own (routine_in p here.routine)) given ++ map Shared (var_items q.globals)) (place_heads terms ++ item_heads p q (var_items q.globals))
        (roots_joined p here (place_roots (is_own (routine_in p here.routine)) given) (place_heads terms) are (map Shared (var_items q.globals)) (item_heads p q (var_items q.globals)) item_roots) (pop end) wrote_roots (item_head p (Some q) i)
        (none_both (head_eq (item_head p (Some q) i)) (place_heads terms) (item_heads p q (var_items q.globals))
        (item_apart p f world here entry state start id q there seen i listed (place_roots (is_own (routine_in p here.routine)) given) (place_heads terms) are no_items)
        (items_changed p q q.formals terms (item_head p (Some q) i) away))))

    at_zero : (x : Symbol) (s t : Sort) (m : ℕ) → s ≡ t → nat_eq m 0 ≡ true → Same (head.Var x t 0) → Same (head.Var x s m)
    at_zero x s t m sort none h = subst Same (sym (λ i. head.Var x (sort i) (eqb-true m 0 none i))) h

    -- ---- INITIAL names

    first_told : (h : Head) (w : Value) → now_view p (Some id) first h ≡ Some w → valuation_of (shapes p) (both (entry_view p (Some id) first) (now_view p (Some id) first)) h ≡ w
    first_told h w e = callees.told p (both (entry_view p (Some id) first) (now_view p (Some id) first)) h w (in_first (now_view p (Some id) first h) (entry_view p (Some id) first h) w e)

    item_test : (i : Item) → may_be_initial q i ≡ true → entry_test p q (item_head p (Some q) i) ≡ true
    item_test (Class c) may = listed_there q.globals (Class c) true may
    item_test (Variable x) may = by_formal (found (map (λ f. (f.name, f.of)) q.formals) x) refl
      where
        scope : found (entry_scope p q) x ≡ first_of (option_map (sort_of p.forms) (found (map (λ f. (f.name, f.of)) q.formals) x)) (option_map (sort_of p.forms) (found p.variables x))
        scope = found-append (parameters_of p q) (with_sorts_of p p.variables) x ∙ (λ i. first_of (found-sorts p (map (λ f. (f.name, f.of)) q.formals) x i) (found-sorts p p.variables x i))

        listed : (b : Bool) → list_any (λ f. same_name f.name x && f.by_place) q.formals ≡ b → found (map (λ f. (f.name, f.of)) q.formals) x ≡ None → (b || lists q.globals (Variable x) true) ≡ true → lists q.globals (Variable x) false ≡ true
        listed true e none may = absurd (false≢true (sym (ap is_some none) ∙ place_is_formal q.formals x e))
        listed false e none may = listed_there q.globals (Variable x) true may

        by_formal : (o : Option TypeId) → found (map (λ f. (f.name, f.of)) q.formals) x ≡ o → entry_test p q (item_head p (Some q) (Variable x)) ≡ true
        by_formal (Some t) e =
            let one : item_sort p (Some q) (Variable x) ≡ sort_of p.forms t = ap (λ o. sort_or_int (option_map (sort_of p.forms) (first_of o (found p.variables x)))) (callees.parameter_type p f id q there x t e) in
            let two : sort_or_int (found (entry_scope p q) x) ≡ sort_of p.forms t = ap sort_or_int (scope ∙ ap (λ o. first_of (option_map (sort_of p.forms) o) (option_map (sort_of p.forms) (found p.variables x))) e) in
            both_true ((λ i. sort_eq (one i) (two i)) ∙ sort_eq-refl (sort_of p.forms t)) (ap (λ o. use_allowed q.globals (cond (is_some o) (Own x) (Shared (Variable x))) false) e)
        by_formal None e =
            let there_listed = listed (list_any (λ f. same_name f.name x && f.by_place) q.formals) refl e may in
            let d = callees.declared p f id q there x there_listed in
            let one : item_sort p (Some q) (Variable x) ≡ sort_of p.forms d.type = ap (λ o. sort_or_int (option_map (sort_of p.forms) (first_of o (found p.variables x)))) (callees.not_own p f id q there x there_listed) ∙ ap (λ o. sort_or_int (option_map (sort_of p.forms) o)) d.is in
            let two : sort_or_int (found (entry_scope p q) x) ≡ sort_of p.forms d.type = ap sort_or_int (scope ∙ (ap (λ o. first_of (option_map (sort_of p.forms) o) (option_map (sort_of p.forms) (found p.variables x))) e ∙ ap (option_map (sort_of p.forms)) d.is)) in
            both_true ((λ i. sort_eq (one i) (two i)) ∙ sort_eq-refl (sort_of p.forms d.type)) (ap (λ o. use_allowed q.globals (cond (is_some o) (Own x) (Shared (Variable x))) false) e ∙ there_listed)

    item_is_variable : (i : Item) → is_variable (item_head p (Some q) i) ≡ true
    item_is_variable (Variable x) = refl
    item_is_variable (Class c) = refl

    same_initial : (x : Symbol) (i : Item) → found q.initial x ≡ Some i → Same (head.Var x (item_sort p (Some q) i) 0)
    same_initial x i e =
        let s = item_sort p (Some q) i in
        let h = item_head p (Some q) i in
        let first = push id (bound.names ++ went.own) state in
        let k = initial_held p f id q there first went.began x i e in
        let hidden = initial_hidden p f id q there end x s (ap is_some e) in
        let shown_there = initial_shown p f id q there first went.began x i e in
        let by = replacing (at_call p q.formals terms) in
        let t = substitute by (alone h) in
        callees.told p (both (entry_view p (Some id) first) (now_view p (Some id) end)) (head.Var x s 0) k.value (ap (λ o. shown_or o (entry_view p (Some id) first (head.Var x s 0))) hidden ∙ shown_there)
        ∙ sym (ap (λ o. value_under (meaning_in p world) u o (u (head.Var x s 0)))
        (replacing-none (starts_at_call p q.formals terms) _ (head.Var x s 0) (no_start p q.formals terms (head.Var x s 0) (λ y r. refl)) ∙ replacing-there (initial_at_call p q terms) _ (head.Var x s 0) t (initial_pair p q (λ i. substitute (replacing (at_call p q.formals terms)) (alone (item_head p (Some q) i))) q.initial x i e))
        ∙ (eval-substitute (meaning_in p world) by u (alone h)
        ∙ (worth-variable (meaning_in p world) (under (meaning_in p world) by u) h [] (item_is_variable i)
        ∙ (sym (callees.entry_same p f id q there world here entry state start seen n window is u u_right u_shows terms bound.names went.own binds.names went.began h (item_test i (found_all (may_be_initial q) q.initial x i (all_initial p f id q there) e)) (item_is_variable i))
        ∙ first_told h k.value k.shows))))

    -- ---- all heads of EXIT

    below_zero : (k : ℕ) → nat_lt k 0 ≡ false
    below_zero k = grind (arith, nat_tests)

    scope_formal : (x : Symbol) (t : TypeId) → found (map (λ f. (f.name, f.of)) q.formals) x ≡ Some t → found (exit_scope p q) x ≡ Some (sort_of p.forms t)
    scope_formal x t e = found-append (parameters_of p q) (with_sorts_of p (result_name q.name q.result) ++ (initial_names p (Some q) ++ with_sorts_of p p.variables)) x ∙ ap (λ o. first_of o (found (with_sorts_of p (result_name q.name q.result) ++ (initial_names p (Some q) ++ with_sorts_of p p.variables)) x)) (found-sorts p (map (λ f. (f.name, f.of)) q.formals) x ∙ ap (option_map (sort_of p.forms)) e)

    -- a name that is no parameter is an INITIAL name, or a variable of the program
    scope_else : (x : Symbol) → found (map (λ f. (f.name, f.of)) q.formals) x ≡ None → found (exit_scope p q) x ≡ first_of (option_map (item_sort p (Some q)) (found q.initial x)) (option_map (sort_of p.forms) (found p.variables x))
    scope_else x e =
        found-append (parameters_of p q) (with_sorts_of p (result_name q.name q.result) ++ (initial_names p (Some q) ++ with_sorts_of p p.variables)) x
        ∙ (ap (λ o. first_of o (found (with_sorts_of p (result_name q.name q.result) ++ (initial_names p (Some q) ++ with_sorts_of p p.variables)) x)) (found-sorts p (map (λ f. (f.name, f.of)) q.formals) x ∙ ap (option_map (sort_of p.forms)) e)
        ∙ (ap (λ o. found (with_sorts_of p (result_name q.name o) ++ (initial_names p (Some q) ++ with_sorts_of p p.variables)) x) no_result
        ∙ (found-append (initial_names p (Some q)) (with_sorts_of p p.variables) x
        ∙ (λ i. first_of (found_mapped (item_sort p (Some q)) q.initial x i) (found-sorts p p.variables x i)))))

    exit_same : (h : Head) → exit_test p q h ≡ true → is_variable h ≡ true → Same h
    exit_same (head.Var x s m) passes variable =
        let one = right_true (nat_eq m 0) _ passes in
        let two = right_true (not (is_value_parameter q x)) _ one in
        by_formal (found (map (λ f. (f.name, f.of)) q.formals) x) refl (left_true (nat_eq m 0) _ passes) (not_true (is_value_parameter q x) (left_true (not (is_value_parameter q x)) _ one))
        (sort_eq-true s (sort_or_int (found (exit_scope p q) x)) (left_true (sort_eq s (sort_or_int (found (exit_scope p q) x))) _ two)) (right_true (sort_eq s (sort_or_int (found (exit_scope p q) x))) _ two)
      where
        not_initial : (t : TypeId) (w : Value) → now_view p (Some id) end (head.Var x (sort_of p.forms t) 0) ≡ Some w → (o : Option Item) → found q.initial x ≡ o → o ≡ None
        not_initial t w shown_there None e = refl
        not_initial t w shown_there (Some i) e = absurd (nothing_there (sym (initial_hidden p f id q there end x (sort_of p.forms t) (ap is_some e)) ∙ shown_there))

        by_initial : (o : Option Item) → found q.initial x ≡ o → nat_eq m 0 ≡ true → s ≡ sort_or_int (first_of (option_map (item_sort p (Some q)) o) (option_map (sort_of p.forms) (found p.variables x)))
            → use_allowed q.globals (cond (is_some o) (Own x) (Shared (Variable x))) false ≡ true → Same (head.Var x s m)
        by_initial (Some i) e none sort allowed = at_zero x s (item_sort p (Some q) i) m sort none (same_initial x i e)
        by_initial None e none sort allowed =
            let d = callees.declared p f id q there x allowed in
            let item : item_sort p (Some q) (Variable x) ≡ sort_of p.forms d.type = ap (λ o. sort_or_int (option_map (sort_of p.forms) (first_of o (found p.variables x)))) (callees.not_own p f id q there x allowed) ∙ ap (λ o. sort_or_int (option_map (sort_of p.forms) o)) d.is in
            at_zero x s (item_sort p (Some q) (Variable x)) m (sort ∙ (ap (λ o. sort_or_int (option_map (sort_of p.forms) o)) d.is ∙ sym item)) none
            (same_item_end (Variable x) allowed (below_zero (before.names x)) (λ y r. refl) (no_initial_name p q (λ i. substitute (replacing (at_call p q.formals terms)) (alone (item_head p (Some q) i))) q.initial x (item_sort p (Some q) (Variable x)) e))

        by_formal : (o : Option TypeId) → found (map (λ f. (f.name, f.of)) q.formals) x ≡ o → nat_eq m 0 ≡ true → is_value_parameter q x ≡ false → s ≡ sort_or_int (found (exit_scope p q) x)
            → use_allowed q.globals (cond (is_some o || (is_some (found (result_name q.name q.result) x) || is_initial q x)) (Own x) (Shared (Variable x))) false ≡ true → Same (head.Var x s m)
        by_formal (Some t) e none kept sort allowed =
            let r = refers p (meaning_in p world) here state window q.formals terms bound.names binds.names x t e kept in
            let k = place_end x t r.place r.is e in
            at_zero x s (sort_of p.forms t) m (sort ∙ ap sort_or_int (scope_formal x t e)) none
            (same_now (head.Var x (sort_of p.forms t) 0) k.value (λ y r. refl)
            (no_initial_name p q (λ i. substitute (replacing (at_call p q.formals terms)) (alone (item_head p (Some q) i))) q.initial x (sort_of p.forms t) (not_initial t k.value k.there_too (found q.initial x) refl)) k.there_too
            (λ away. absurd (false≢true (sym away ∙ place_changed p (meaning_in p world) here state window q q.formals terms bound.names binds.names x t r.place e r.is))))
        by_formal None e none kept sort allowed =
            by_initial (found q.initial x) refl none (sort ∙ ap sort_or_int (scope_else x e))
            (ap (λ o. use_allowed q.globals (cond (is_some (found (result_name q.name o) x) || is_initial q x) (Own x) (Shared (Variable x))) false) (sym no_result) ∙ allowed)
    exit_same (head.ClassVar c m) passes variable =
        subst Same (sym (ap (head.ClassVar c) (eqb-true m 0 (left_true (nat_eq m 0) _ passes))))
        (same_item_end (Class c) (right_true (nat_eq m 0) _ passes) (below_zero (before.classes c)) (λ y r. refl) (no_initial_class p q (λ i. substitute (replacing (at_call p q.formals terms)) (alone (item_head p (Some q) i))) q.initial c))
    exit_same (head.Start x s) passes variable = by_formal (found (map (λ f. (f.name, f.of)) q.formals) x) refl (value_is_formal q.formals x (left_true (is_value_parameter q x) _ passes))
      where
        kept : is_value_parameter q x ≡ true
        kept = left_true (is_value_parameter q x) _ passes

        by_formal : (o : Option TypeId) → found (map (λ f. (f.name, f.of)) q.formals) x ≡ o → is_some o ≡ true → Same (head.Start x s)
        by_formal None e some = absurd (false≢true some)
        by_formal (Some t) e some =
            let a = callees.argument p f id q there world here entry state start seen n window is u u_right u_shows terms bound.names went.own binds.names x t kept e in
            let sort = sort_eq-true s (sort_or_int (found (exit_scope p q) x)) (right_true (is_value_parameter q x) _ passes) ∙ ap sort_or_int (scope_formal x t e) in
            subst (λ (k : Sort). Same (head.Start x k)) (sym sort)
            (callees.start_told p f id q there world here entry state start seen n window is u u_right u_shows terms bound.names went.own binds.names end x (sort_of p.forms t) a.value (callees.start_shown p f id q there world here entry state start seen n window is u u_right u_shows terms bound.names went.own binds.names x t a.value e kept a.bound)
            ∙ sym (ap (λ o. value_under (meaning_in p world) u o (u (head.Start x (sort_of p.forms t)))) (replacing-there (starts_at_call p q.formals terms) _ (head.Start x (sort_of p.forms t)) a.term a.started) ∙ a.worth))
    exit_same _ passes variable = absurd (false≢true variable)

    -- EXIT, which the procedure met, is true in the caller's terms
    exit_holds : (a : Annotation) → q.exit ≡ Some a → met_holds p world (reached_exit p (begun p (Some id) first) q end a) ≡ true
        → holds (meaning_in p world) u (substitute (replacing (starts_at_call p q.formals terms ++ (initial_at_call p q terms ++ (changed_places p q q.formals terms n).in_exit))) (exit_term p q a)) ≡ true
    exit_holds a e met =
        let pairs = starts_at_call p q.formals terms ++ (initial_at_call p q terms ++ (renamed heads n).pairs) in
        let uses = subst (λ o. list_all (λ u. use_allowed q.globals u.root u.changes) (annotation_uses (named_at_exit q) o) ≡ true) e (callees.exit_uses p f id q there) in
        let passes = formula_passes (exit_test p q) (name_at_exit p q) (named_at_exit q) q.globals (exit_passes p q) a.formula uses in
        ap (λ (k : List (Head × Term)). holds (meaning_in p world) u (substitute (replacing (starts_at_call p q.formals terms ++ (initial_at_call p q terms ++ k))) (exit_term p q a))) (exit_renamed p q q.formals terms n)
        ∙ (ap truth_of
        (eval-substitute (meaning_in p world) (replacing pairs) u (exit_term p q a)
        ∙ sym (eval-agree (meaning_in p world) (valuation_of (shapes p) (both (entry_view p (Some id) first) (now_view p (Some id) end))) (under (meaning_in p world) (replacing pairs) u) (exit_test p q) (exit_term p q a) passes exit_same))
        ∙ met)

    -- what is wanted behind the call is true
    followed : (conditions : List Condition) → all_follow (meaning_in p world) u (assuming_if_there (exit_at_call p q terms (changed_places p q q.formals terms n).in_exit) (replaced (changed_places p q q.formals terms n).after conditions)) ≡ true
        → all_follow (meaning_in p world) u (replaced (changed_places p q q.formals terms n).after conditions) ≡ true
    followed conditions = by_exit q.exit refl went.ran.exit
      where
        by_exit : (o : Option Annotation) → q.exit ≡ o → all_hold p world (met_if_there (reached_exit p (begun p (Some id) first) q end) o) ≡ true
            → all_follow (meaning_in p world) u (assuming_if_there (option_map (λ a. substitute (replacing (starts_at_call p q.formals terms ++ (initial_at_call p q terms ++ (changed_places p q q.formals terms n).in_exit))) (exit_term p q a)) o) (replaced (changed_places p q q.formals terms n).after conditions)) ≡ true
            → all_follow (meaning_in p world) u (replaced (changed_places p q q.formals terms n).after conditions) ≡ true
        by_exit None e met h = h
        by_exit (Some a) e met h = assumed (meaning_in p world) u (substitute (replacing (starts_at_call p q.formals terms ++ (initial_at_call p q terms ++ (changed_places p q q.formals terms n).in_exit))) (exit_term p q a)) (replaced (changed_places p q q.formals terms n).after conditions) (exit_holds a e (left_true _ true met)) h

    pub true_behind : (conditions : List Condition) → Ignores p world before conditions
        → IsTrueFor p world (shown p here window state) (wanted_entry here.routine line (entry_at_call p q terms) ++ assuming_if_there (exit_at_call p q terms (changed_places p q q.formals terms n).in_exit) (replaced (changed_places p q q.formals terms n).after conditions))
        → all_follow (meaning_in p world) v conditions ≡ true
    true_behind conditions ignores from =
        let entered = wanted_entry here.routine line (entry_at_call p q terms) in
        let rest = assuming_if_there (exit_at_call p q terms (changed_places p q q.formals terms n).in_exit) (replaced (changed_places p q q.formals terms n).after conditions) in
        ignores.alike v (under (meaning_in p world) (replacing (changed_places p q q.formals terms n).after) u) (λ h variable old. replaced_alike h old)
        ∙ (sym (follow-replaced (meaning_in p world) u (changed_places p q q.formals terms n).after conditions)
        ∙ followed conditions (second_part (meaning_in p world) u entered rest (from u u_right u_shows)))

-- ---- the statement

-- the roots of VAR arguments, with those of their terms
argument_roots : (p : Program) → well_typed p ≡ true → (here : Here) (formals : List Formal) (given : Arguments) → arguments_fit p (routine_in p here.routine) formals given ≡ true → uses_seen (routine_in p here.routine) (argument_uses (is_own (routine_in p here.routine)) given) ≡ true → (n : Supply)
    → AreRoots p here (place_roots (is_own (routine_in p here.routine)) given) (place_heads (argued p (routine_in p here.routine) n given).arguments)
argument_roots p typed here [] no_arguments fit uses n = NoRoots
argument_roots p typed here [] (by_value e others) fit uses n = absurd (false≢true fit)
argument_roots p typed here [] (by_place d others) fit uses n = absurd (false≢true fit)
argument_roots p typed here (f ∷ formals) no_arguments fit uses n = absurd (false≢true fit)
argument_roots p typed here (f ∷ formals) (by_value e others) fit uses n =
    let r = routine_in p here.routine in
    argument_roots p typed here formals others (right_true (is_sort (sort_of p.forms f.of) (expression_sort p r e)) _ (right_true (not f.by_place) _ fit)) (seen_right r (expression_uses (is_own r) e) (argument_uses (is_own r) others) uses) (valued p r n e).supply
argument_roots p typed here (f ∷ formals) (by_place d others) fit uses n =
    let r = routine_in p here.routine in
    let more = right_true (may_write r d) _ (right_true f.by_place _ fit) in
    by_type (designator_type p r d) refl (left_true (stands_for p f.of (designator_type p r d)) _ more)
    (argument_roots p typed here formals others (right_true (stands_for p f.of (designator_type p r d)) _ more) (seen_right r (designator_uses (is_own r) true d) (argument_uses (is_own r) others) uses) (placed p r n d).supply)
  where
    Goal : Type 0
    Goal = AreRoots p here (root_of (is_own (routine_in p here.routine)) d ∷ place_roots (is_own (routine_in p here.routine)) others) ((placed p (routine_in p here.routine) n d).target.root ∷ place_heads (argued p (routine_in p here.routine) (placed p (routine_in p here.routine) n d).supply others).arguments)

    by_type : (o : Option TypeId) → designator_type p (routine_in p here.routine) d ≡ o → stands_for p f.of o ≡ true
        → AreRoots p here (place_roots (is_own (routine_in p here.routine)) others) (place_heads (argued p (routine_in p here.routine) (placed p (routine_in p here.routine) n d).supply others).arguments) → Goal
    by_type None e h later = absurd (false≢true h)
    by_type (Some t) e h later =
        let r = routine_in p here.routine in
        OneRoot (root_of (is_own r) d) (placed p r n d).target.root (root_is p typed r d t e true (seen_left r (designator_uses (is_own r) true d) (argument_uses (is_own r) others) uses) n) (place_roots (is_own r) others) (place_heads (argued p r (placed p r n d).supply others).arguments) later

-- the heads of roots that a statement changes may be changed by it
roots_may_change : (p : Program) → well_typed p ≡ true → (here : Here) (changed : List Root) (roots : List Root) (heads : List Head) → AreRoots p here roots heads → list_all (is_among changed) roots ≡ true → (h : Head) → list_any (head_eq h) heads ≡ true
    → list_any (head_eq h) (map (λ r. r.1) (filter (λ r. is_among changed r.0) (all_roots p (routine_in p here.routine)))) ≡ true
roots_may_change p typed here changed _ _ NoRoots all h there = absurd (false≢true there)
roots_may_change p typed here changed _ _ (OneRoot root k is roots heads others) all h there =
    by_head (head_eq h k) refl there (roots_may_change p typed here changed roots heads others (right_true (is_among changed root) _ all) h)
  where
    Goal : Head → Type 0
    Goal h = list_any (head_eq h) (map (λ r. r.1) (filter (λ r. is_among changed r.0) (all_roots p (routine_in p here.routine)))) ≡ true

    by_head : (b : Bool) → head_eq h k ≡ b → (b || list_any (head_eq h) heads) ≡ true → (list_any (head_eq h) heads ≡ true → Goal h) → Goal h
    by_head true e there later = subst Goal (sym (head_eq-true h k e)) (root_kept p typed (routine_in p here.routine) (is_among changed) root k is (left_true (is_among changed root) _ all))
    by_head false e there later = later there

module _ (p : Program) (f : IsFramed p) (world : Meaning) (here : Here) (entry : IsEntry p here.entry) (id : RoutineId) (line : ℕ) (given : Arguments) (ok : is_procedure (callee p (routine_in p here.routine) (call id line given)) ≡ true)
    (calls : calls_shown p (routine_in p here.routine) (argument_calls given ++ call id line given ∷ []) ≡ true) (uses : uses_seen (routine_in p here.routine) (argument_uses (is_own (routine_in p here.routine)) given) ≡ true) where
  abbrev r : Option Routine
  r = routine_in p here.routine

  -- the procedure
  record Procedure : Type 0 where
    routine : Routine
    called : callee p (routine_in p here.routine) (call id line given) ≡ Some routine
    no_result : routine.result ≡ None

  procedure : Procedure
  procedure = by_callee (callee p (routine_in p here.routine) (call id line given)) refl ok
    where
      by_callee : (o : Option Routine) → callee p (routine_in p here.routine) (call id line given) ≡ o → is_procedure o ≡ true → Procedure
      by_callee None e h = absurd (false≢true h)
      by_callee (Some q) e h = record { routine = q; called = e; no_result = nothing q.result (not_true (is_some q.result) h) }
        where
          nothing : (o : Option TypeId) → is_some o ≡ false → o ≡ None
          nothing None h = refl
          nothing (Some t) h = absurd (false≢true (sym h))

  argument_calls_shown : calls_shown p (routine_in p here.routine) (argument_calls given) ≡ true
  argument_calls_shown = all_left (λ c. arguments_apart p (routine_in p here.routine) c && call_shown p (routine_in p here.routine) c) (argument_calls given) (call id line given ∷ []) calls

  call_itself_shown : calls_shown p (routine_in p here.routine) (call id line given ∷ []) ≡ true
  call_itself_shown = all_right (λ c. arguments_apart p (routine_in p here.routine) c && call_shown p (routine_in p here.routine) c) (argument_calls given) (call id line given ∷ []) calls

  module _ (made : Made) (ignores : Ignores p world made.supply made.conditions) (window : View) (is : IsWindow p made.supply window) (state : State) (start : IsStart p here.routine state) (k : ℕ) (correct : CorrectBelow p world (suc k)) where
    abbrev args : Argued
    args = argued p (routine_in p here.routine) made.supply given

    ready : IsReady p world here (Some (level p k)) state
    ready = record { typed = f.typed; entry = entry; start = start; functions = functions.functions_give p f world here entry (suc k) correct state start }

    module _ (q : Routine) (called : callee p (routine_in p here.routine) (call id line given) ≡ Some q) (no_result : q.result ≡ None) where
      routine_there : routine_at p id ≡ Some q
      routine_there = (is_callee p (routine_in p here.routine) id line given q called).there

      fits_formals : arguments_fit p (routine_in p here.routine) q.formals given ≡ true
      fits_formals = (is_callee p (routine_in p here.routine) id line given q called).fit

      are : AreRoots p here (place_roots (is_own (routine_in p here.routine)) given) (place_heads (argued p (routine_in p here.routine) made.supply given).arguments)
      are = argument_roots p f.typed here q.formals given fits_formals uses made.supply

      abbrev wanted : List Condition
      wanted = (before_entering p here.routine line (Some q) (argued p (routine_in p here.routine) made.supply given) made.conditions).conditions

      -- what the call may change is what the statement may change
      changes : (h : Head) → may_change p here (Perform (call id line given)) h ≡ false → (names : List (Symbol × Binding)) (wider : View) → AreBound p (meaning_in p world) here state wider q.formals (argued p (routine_in p here.routine) made.supply given).arguments names
          → list_any (head_eq h) (heads_after p q q.formals (argued p (routine_in p here.routine) made.supply given).arguments) ≡ false
      changes h leaves names wider bound =
          let r = routine_in p here.routine in
          let terms = (argued p r made.supply given).arguments in
          let changed = changed_roots p r (Perform (call id line given)) in
          let own_changes = changes_itself p r (Perform (call id line given)) in
          let places = place_roots_kept (is_among changed) (is_own r) given own_changes.uses in
          let items : list_all (is_among changed) (map Shared (var_items q.globals)) ≡ true = ap (λ o. list_all (is_among changed) (map Shared (items_of_callee o))) (sym routine_there) ∙ left_true (call_among p changed (call id line given)) true (all_right (call_among p changed) (argument_calls given) (call id line given ∷ []) own_changes.calls) in
          let seen = sym (ap (λ o. list_all (λ g. sees r g.item) (globals_of o)) routine_there) ∙ right_true (list_all (root_shown r) (place_roots (is_own r) given)) _ (right_true (arguments_apart p r (call id line given)) _ (left_true (arguments_apart p r (call id line given) && call_shown p r (call id line given)) true call_itself_shown)) in
          let roots = roots_joined p here (place_roots (is_own r) given) (place_heads terms) are (map Shared (var_items q.globals)) (item_heads p q (var_items q.globals))
          (items_roots p f world here entry state start id q routine_there seen (var_items q.globals) (all_members (λ i. lists q.globals i false) (var_items q.globals) (var_listed q.globals))) in
          ap (list_any (head_eq h)) (heads_are p (meaning_in p world) here state wider q q.formals terms names bound)
          ∙ not_so (list_any (head_eq h) (place_heads terms ++ item_heads p q (var_items q.globals)))
          (λ e. sym leaves ∙ roots_may_change p f.typed here changed (place_roots (is_own r) given ++ map Shared (var_items q.globals)) (place_heads terms ++ item_heads p q (var_items q.globals)) roots (all_both (is_among changed) (place_roots (is_own r) given) (map Shared (var_items q.globals)) places items) h e)

      -- the run of the procedure, with arguments that are bound
      enters : (choices : List Value) (bound : Bound) → (arguments p (Some (level p k)) here q.formals given state choices).end ≡ Ended bound
          → (wider : View) → Widens p world here state made.supply (argued p (routine_in p here.routine) made.supply given).supply window wider (before_entering p here.routine line (Some q) (argued p (routine_in p here.routine) made.supply given) made.conditions).conditions
          → IsBoundTo p (meaning_in p world) here state q.formals (argued p (routine_in p here.routine) made.supply given).arguments wider bound
          → (rest : List Value)
          → Reaches p world all_allowed State (EndsWell p world here window (may_change p here (Perform (call id line given))) made.conditions state) (and_then (enter p (level p k) id (Some q) bound rest) (λ after last. ends (pop after) last))
      enters choices bound ended wider widens passes rest =
          let r = routine_in p here.routine in
          let args = argued p r made.supply given in
          let terms = args.arguments in
          let fresh = changed_places p q q.formals terms args.supply in
          let entered = wanted_entry here.routine line (entry_at_call p q terms) in
          let behind = assuming_if_there (exit_at_call p q terms fresh.in_exit) (replaced fresh.after made.conditions) in
          let known = true_first p world (shown p here wider state) entered behind widens.true_there in
          reach_then p world all_allowed _ _ (enter p (level p k) id (Some q) bound rest) _
          (reach_with p world _ (enter p (level p k) id (Some q) bound rest)
          (functions.entered p f world here entry state start k correct id line given q called call_itself_shown choices bound ended args.supply wider widens.is_window terms passes known rest))
          (λ end ran last.
          reach_ends p world all_allowed _ (pop end) last
          (record {
            is_start = after_start p f world here entry state start k correct id line given q called call_itself_shown choices bound ended args.supply wider widens.is_window terms passes known are no_result rest end ran.ended ran.passes made.supply window is widens.later widens.adds;
            true_there = λ v val shows. true_behind p f world here entry state start k correct id line given q called call_itself_shown choices bound ended args.supply wider widens.is_window terms passes known are no_result rest end ran.ended ran.passes made.supply window is widens.later widens.adds v val shows made.conditions ignores widens.true_there;
            same = λ h leaves. rest_stays p f world here entry state start k correct id line given q called call_itself_shown choices bound ended args.supply wider widens.is_window terms passes known are no_result rest end ran.ended ran.passes made.supply window is widens.later widens.adds h (changes h leaves bound.names wider passes.names);
          }))

      runs : IsTrueFor p world (shown p here window state) (before_calls here.routine (argued p (routine_in p here.routine) made.supply given).calls (before_entering p here.routine line (Some q) (argued p (routine_in p here.routine) made.supply given) made.conditions).conditions) → (choices : List Value)
          → Reaches p world all_allowed State (EndsWell p world here window (may_change p here (Perform (call id line given))) made.conditions state)
          (and_then (arguments p (Some (level p k)) here q.formals given state choices) (λ bound rest. and_then (enter p (level p k) id (Some q) bound rest) (λ after last. ends (pop after) last)))
      runs from choices =
          reach_then p world all_allowed _ _ (arguments p (Some (level p k)) here q.formals given state choices) _
          (reach_with p world _ (arguments p (Some (level p k)) here q.formals given state choices)
          (argued_at p world here (Some (level p k)) state ready q.formals given fits_formals argument_calls_shown uses made.supply window wanted (record { is_window = is; true_there = from }) state refl choices))
          (λ bound given_bound rest. let at = given_bound.passes in enters choices bound given_bound.ended at.wider at.widens at.passes rest)

      runs_there : (o : Option Routine) → o ≡ Some q → IsTrueFor p world (shown p here window state) (before_calls here.routine (argued p (routine_in p here.routine) made.supply given).calls (before_entering p here.routine line o (argued p (routine_in p here.routine) made.supply given) made.conditions).conditions) → (choices : List Value)
          → Reaches p world all_allowed State (EndsWell p world here window (may_change p here (Perform (call id line given))) made.conditions state)
          (and_then (arguments p (Some (level p k)) here (formals_of o) given state choices) (λ bound rest. and_then (enter p (level p k) id o bound rest) (λ after last. ends (pop after) last)))
      runs_there o e from choices =
          subst (λ (o : Option Routine). Reaches p world all_allowed State (EndsWell p world here window (may_change p here (Perform (call id line given))) made.conditions state)
          (and_then (arguments p (Some (level p k)) here (formals_of o) given state choices) (λ bound rest. and_then (enter p (level p k) id o bound rest) (λ after last. ends (pop after) last)))) (sym e)
          (runs (subst (λ (o : Option Routine). IsTrueFor p world (shown p here window state) (before_calls here.routine (argued p (routine_in p here.routine) made.supply given).calls (before_entering p here.routine line o (argued p (routine_in p here.routine) made.supply given) made.conditions).conditions)) e from) choices)

  perform_right : (turns : ℕ) → CorrectBelow p world turns → IsRight p world all_allowed here (Perform (call id line given)) (walk p (below p turns) here (Perform (call id line given)))
  perform_right zero correct made ignores window is state start from choices = reach_going p world all_allowed _ choices
  perform_right (suc k) correct made ignores window is state start from choices =
      let q = procedure in
      runs_there made ignores window is state start k correct q.routine q.called q.no_result (routine_at p id) (is_callee p (routine_in p here.routine) id line given q.routine q.called).there from choices

-- calls of procedures are right
pub calls_right : (world : Meaning) → CallsAreRightIn world
calls_right world p f here entry (call id line given) ok calls uses turns correct = perform_right p f world here entry id line given ok calls uses turns correct

-- and so is the entering of one, behind its arguments
pub enterings_right : (world : Meaning) → EnteringsAreRightIn world
enterings_right world p f here entry id line given ok calls uses turns correct q called made ignores window is state start choices bound ended wider widens passes rest =
    enters p f world here entry id line given ok calls uses made ignores window is state start turns correct q called (no_result q called) choices bound ended wider widens passes rest
  where
    no_result : (q : Routine) → callee p (routine_in p here.routine) (call id line given) ≡ Some q → q.result ≡ None
    no_result q e = nothing q.result (not_true (is_some q.result) (subst (λ (o : Option Routine). is_procedure o ≡ true) e ok))
      where
        nothing : (o : Option TypeId) → is_some o ≡ false → o ≡ None
        nothing None h = refl
        nothing (Some t) h = absurd (false≢true (sym h))
