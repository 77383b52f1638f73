-- What shows where a routine begins, and what stands there for its INITIAL names and for the starts of its parameters.
use Rattle.std.proofs.Common.{◌≡◌, zero, suc, Bool, true, false, cond, not, ◌&&◌, ◌||◌, List, [], ◌∷◌, ◌++◌, map, filter, refl, sym, ap, subst, ◌∙◌, nat_eq, Option, Some, None, option_map}
use Rattle.std.specs.Prelude.{is_some}
use Rattle.std.specs.List.{list_all, list_any}
use Rattle.std.specs.Option.{option_and_then, unwrap_or}
use Rattle.std.specs.Cmp.Derive.{both_true}
use Rattle.std.proofs.lemmas.Bool.{false≢true, eqb-true, eq-eqb}
use Rattle.spv_logic.proofs.list.Tests.{left_true, right_true, left_false, right_false}
use Rattle.spv_logic.specs.declared.names.names.Symbol.{Symbol}
use Rattle.spv_logic.specs.declared.types.TypeId.{TypeId}
use Rattle.spv_logic.specs.declared.types.Sort.{Sort}
use Rattle.spv_logic.specs.declared.conditions.RoutineId.{RoutineId}
use Rattle.spv_logic.specs.declared.operators.Head.{Head}
use Rattle.spv_logic.specs.declared.operators.Head.TheVariants as head
use Rattle.spv_logic.specs.Values.{Value, truth_of}
use Rattle.spv_logic.specs.Terms.{Term, sort_eq, head_eq, eval}
use Rattle.spv_logic.specs.Fits.{fits, default_of}
use Rattle.spv_logic.specs.Sorts.{variable_sort}
use Rattle.spv_logic.specs.Substitution.{is_variable, value_under, under}
use Rattle.spv_logic.specs.Conditions.{Meaning, Valuation, View, Shows, both, shown_or, holds}
use Rattle.spv_logic.proofs.Equality.{sort_eq-true, sort_eq-refl, head_eq-true}
use Rattle.spv_logic.proofs.Substitution.{eval-agree}
use Rattle.spv_program.specs.declared.types.Item.{Item}
use Rattle.spv_program.specs.declared.types.Item.TheVariants.{Variable, Class}
use Rattle.spv_program.specs.Lists.{same_name, found, first_of, all_differ}
use Rattle.spv_program.specs.Types.{same_item, type_exists, sort_of}
use Rattle.spv_program.specs.Formulas.{Annotation}
use Rattle.spv_program.specs.Programs.{Formal, GlobalItem, Routine, Program, shapes, lists, routine_at}
use Rattle.spv_program.specs.Scopes.{own_names, result_name, name_type, is_own, is_value_parameter, item_sort, sort_or_int, with_sorts_of, parameters_of, entry_scope}
use Rattle.spv_program.specs.Uses.{Own, Shared, name_root, annotation_uses}
use Rattle.spv_program.specs.Frames.{is_formal, use_allowed, routine_uses, changes_nothing, routine_framed}
use Rattle.spv_program.specs.Supplies.{full_supply}
use Rattle.spv_program.specs.Terms.{alone, item_head, name_in, entry_term}
use Rattle.spv_program.specs.Calls.{replacing, formal_head}
use Rattle.spv_program.specs.Typing.{item_exists, types_exist, result_ok, may_be_initial, variables_among, scope_names, heading_ok, routine_ok, declarations_ok}
use Rattle.spv_program.proofs.SortFacts.{nothing_there, some_is, passed, chosen}
use Rattle.spv_meaning.specs.Places.{State, look}
use Rattle.spv_meaning.specs.Views.{place_of, sees, class_of, of_sort, shown_type, now_view, item_value, initial_item, parameter_sort, entry_view}
use Rattle.spv_meaning.specs.Levels.{reached_entry}
use Rattle.spv_meaning.specs.Starts.{IsStart, is_of_type}
use Rattle.spv_meaning.specs.Correct.{valuation_of, met_holds, begun}
use Rattle.spv_meaning.specs.ProgramConditions.{initial_pairs, start_pairs}
use Rattle.spv_meaning.proofs.Differing.{first_differs, others_differ, differ_left, differ_right, none_right, none_both}
use Rattle.spv_meaning.proofs.Heaps.{class_fits}
use Rattle.spv_meaning.proofs.MainViews.{entry-main}
use Rattle.spv_meaning.proofs.Maps.{same_names}
use Rattle.spv_meaning.proofs.RoutineStarts.{item_passes, found_passes}
use Rattle.spv_preservation.proofs.Calls.{names_differ, formals_differ}
use Rattle.spv_rule_soundness.specs.evaluation.Laws.{root_seen}
use Rattle.spv_rule_soundness.specs.statements.Truth.{is_new, IsEntry, meaning_in, shown}
use Rattle.spv_rule_soundness.proofs.evaluation.Settings.{found-append, forms_right, view_name, shown as shown_with}
use Rattle.spv_rule_soundness.proofs.statements.Views.{in_first}
use Rattle.spv_writes.proofs.Lists.{all_left, any_left, any_right, any_passes, or_left, or_right}
use Rattle.spv_frame_law.specs.Laws.{IsFramed}
use Rattle.spv_call_evaluation.proofs.Globals.{among_variables, listed_passes, listed_not_own}
use Rattle.spv_call_evaluation.proofs.Heads.{entry_test, entry_passes, formula_passes, found-sorts, value_is_formal}

-- ---- names that differ

pub found_none : {X : Type 0} (entries : List (Symbol × X)) (x : Symbol) → list_any (same_name x) (map (λ n. n.0) entries) ≡ false → found entries x ≡ None
found_none [] x none = refl
found_none {X} (n ∷ entries) x none = by_name (same_name n.0 x) refl (found_none entries x (right_false (same_name x n.0) _ none))
  where
    by_name : (b : Bool) → same_name n.0 x ≡ b → found entries x ≡ None → cond b (Some n.1) (found entries x) ≡ None
    by_name true same later =
        absurd (false≢true (sym (left_false (same_name x n.0) _ none) ∙ (ap (same_name x) (same_names n.0 x same) ∙ eq-eqb x.0 x.0 refl)))
    by_name false same later = later

first_found : {X : Type 0} (n : Symbol × X) (entries : List (Symbol × X)) → found (n ∷ entries) n.0 ≡ Some n.1
first_found n entries = ap (λ b. cond b (Some n.1) (found entries n.0)) (eq-eqb n.0.0 n.0.0 refl)

-- what is found behind a name that is not there is found with it
found_later : {X : Type 0} (n : Symbol × X) (entries : List (Symbol × X)) (x : Symbol) (i : X) → list_any (same_name n.0) (map (λ n. n.0) entries) ≡ false → found entries x ≡ Some i → found (n ∷ entries) x ≡ Some i
found_later {X} n entries x i other e = by_name (same_name n.0 x) refl
  where
    by_name : (b : Bool) → same_name n.0 x ≡ b → cond b (Some n.1) (found entries x) ≡ Some i
    by_name true same =
        absurd (nothing_there (sym (found_none entries x (ap (λ k. list_any (same_name k) (map (λ n. n.0) entries)) (sym (same_names n.0 x same)) ∙ other)) ∙ e))
    by_name false same = e

-- a name that is found is one of the names
among_names : {X : Type 0} (entries : List (Symbol × X)) (x : Symbol) → is_some (found entries x) ≡ true → list_any (same_name x) (map (λ n. n.0) entries) ≡ true
among_names {X} entries x there = by_place (list_any (same_name x) (map (λ n. n.0) entries)) refl
  where
    by_place : (b : Bool) → list_any (same_name x) (map (λ n. n.0) entries) ≡ b → b ≡ true
    by_place true e = refl
    by_place false e = absurd (false≢true (sym (ap is_some (found_none entries x e)) ∙ there))

pub found_all : {X : Type 0} (test : X → Bool) (entries : List (Symbol × X)) (x : Symbol) (i : X) → list_all (λ n. test n.1) entries ≡ true → found entries x ≡ Some i → test i ≡ true
found_all test [] x i all e = absurd (nothing_there e)
found_all {X} test (n ∷ entries) x i all e = by_name (same_name n.0 x) e (found_all test entries x i (right_true (test n.1) _ all))
  where
    by_name : (b : Bool) → cond b (Some n.1) (found entries x) ≡ Some i → (found entries x ≡ Some i → test i ≡ true) → test i ≡ true
    by_name true e later = ap test (sym (some_is e)) ∙ left_true (test n.1) _ all
    by_name false e later = later e

-- of names that all differ, one that stands in front stands not behind
not_behind : (xs ys : List Symbol) (x : Symbol) → all_differ same_name (xs ++ ys) ≡ true → list_any (same_name x) xs ≡ true → list_any (same_name x) ys ≡ false
not_behind [] ys x differ there = absurd (false≢true there)
not_behind (z ∷ xs) ys x differ there = by_name (same_name x z) refl there (not_behind xs ys x (others_differ same_name z (xs ++ ys) differ))
  where
    by_name : (b : Bool) → same_name x z ≡ b → (b || list_any (same_name x) xs) ≡ true → (list_any (same_name x) xs ≡ true → list_any (same_name x) ys ≡ false) → list_any (same_name x) ys ≡ false
    by_name false e h later = later h
    by_name true e h later = ap (λ k. list_any (same_name k) ys) (same_names x z e) ∙ none_right (same_name z) xs ys (first_differs same_name z (xs ++ ys) differ)

-- and one that stands behind stands not in front
not_before : (xs ys : List Symbol) (x : Symbol) → all_differ same_name (xs ++ ys) ≡ true → list_any (same_name x) ys ≡ true → list_any (same_name x) xs ≡ false
not_before xs ys x differ there = by_place (list_any (same_name x) xs) refl
  where
    by_place : (b : Bool) → list_any (same_name x) xs ≡ b → b ≡ false
    by_place false e = refl
    by_place true e = absurd (false≢true (sym (not_behind xs ys x differ e) ∙ there))

filtered_none : {X : Type 0} (test : Symbol → Bool) (entries : List (Symbol × X)) (x : Symbol) → test x ≡ false → found (filter (λ n. test n.0) entries) x ≡ None
filtered_none {X} test entries x fails = by_value (found (filter (λ n. test n.0) entries) x) refl
  where
    by_value : (o : Option X) → found (filter (λ n. test n.0) entries) x ≡ o → o ≡ None
    by_value None e = refl
    by_value (Some i) e = absurd (false≢true (sym fails ∙ found_passes test entries x i e))

formal_names : (formals : List Formal) → map (λ (n : Symbol × TypeId). n.0) (map (λ f. (f.name, f.of)) formals) ≡ map (λ f. f.name) formals
formal_names [] = refl
formal_names (f ∷ formals) = ap (λ (k : List Symbol). f.name ∷ k) (formal_names formals)

pub place_is_formal : (formals : List Formal) (x : Symbol) → list_any (λ f. same_name f.name x && f.by_place) formals ≡ true → is_some (found (map (λ f. (f.name, f.of)) formals) x) ≡ true
place_is_formal [] x h = absurd (false≢true h)
place_is_formal (f ∷ formals) x h = by_name (same_name f.name x) h (place_is_formal formals x)
  where
    by_name : (b : Bool) → ((b && f.by_place) || list_any (λ f. same_name f.name x && f.by_place) formals) ≡ true → (list_any (λ f. same_name f.name x && f.by_place) formals ≡ true → is_some (found (map (λ f. (f.name, f.of)) formals) x) ≡ true)
        → is_some (cond b (Some f.of) (found (map (λ f. (f.name, f.of)) formals) x)) ≡ true
    by_name true h later = refl
    by_name false h later = later h

-- what a list has in any group it has
pub listed_there : (globals : List GlobalItem) (i : Item) (var : Bool) → lists globals i var ≡ true → lists globals i false ≡ true
listed_there globals i var h = any_passes (λ g. same_item g.item i && (g.is_var || not var)) (λ g. same_item g.item i && (g.is_var || true)) (λ g h. both_true (left_true (same_item g.item i) _ h) (or_right g.is_var true refl)) globals h

-- ---- pairs whose terms are worth what their heads have

module _ (symbols : Meaning) (v : Valuation) where
  abbrev AllStand : List (Head × Term) → Type 0
  AllStand [] = Unit {0}
  AllStand (pair ∷ pairs) = (v pair.0 ≡ eval symbols v pair.1) × AllStand pairs

  stand_both : (xs ys : List (Head × Term)) → AllStand xs → AllStand ys → AllStand (xs ++ ys)
  stand_both [] ys one two = two
  stand_both (x ∷ xs) ys one two = (one.0, stand_both xs ys one.1 two)

  -- they change no valuation
  stand_alike : (pairs : List (Head × Term)) → AllStand pairs → (h : Head) → under symbols (replacing pairs) v h ≡ v h
  stand_alike [] all h = refl
  stand_alike (pair ∷ pairs) all h = by_head (head_eq h pair.0) refl (stand_alike pairs all.1 h)
    where
      by_head : (b : Bool) → head_eq h pair.0 ≡ b → under symbols (replacing pairs) v h ≡ v h → value_under symbols v (cond b (Some pair.1) (replacing pairs h)) (v h) ≡ v h
      by_head true e later = sym all.0 ∙ ap v (sym (head_eq-true h pair.0 e))
      by_head false e later = later

  initial_stand : (p : Program) (q : Routine) (entries : List (Symbol × Item)) → all_differ same_name (map (λ i. i.0) entries) ≡ true
      → ((x : Symbol) (i : Item) → found entries x ≡ Some i → v (head.Var x (item_sort p (Some q) i) 0) ≡ v (item_head p (Some q) i))
      → AllStand (map (λ i. (head.Var i.0 (item_sort p (Some q) i.1) 0, alone (item_head p (Some q) i.1))) entries)
  initial_stand p q [] differ told = tt
  initial_stand p q (n ∷ entries) differ told = (
    told n.0 n.1 (first_found n entries) ∙ of_item n.1,
    initial_stand p q entries (others_differ same_name n.0 (map (λ i. i.0) entries) differ) (λ x i e. told x i (found_later n entries x i (first_differs same_name n.0 (map (λ i. i.0) entries) differ) e)),
  )
    where
      of_item : (i : Item) → v (item_head p (Some q) i) ≡ eval symbols v (alone (item_head p (Some q) i))
      of_item (Variable x) = refl
      of_item (Class t) = refl

  starts_stand : (p : Program) (formals : List Formal) → all_differ same_name (map (λ f. f.name) formals) ≡ true
      → ((x : Symbol) (u : TypeId) → found (map (λ f. (f.name, f.of)) formals) x ≡ Some u → list_any (λ f. same_name f.name x && not f.by_place) formals ≡ true → v (head.Start x (sort_of p.forms u)) ≡ v (head.Var x (sort_of p.forms u) 0))
      → AllStand (map (λ f. (head.Start f.name (sort_of p.forms f.of), alone (formal_head p f))) (filter (λ f. not f.by_place) formals))
  starts_stand p [] differ told = tt
  starts_stand p (g ∷ formals) differ told =
      by_kind (not g.by_place) refl
      (starts_stand p formals (others_differ same_name g.name (map (λ f. f.name) formals) differ)
      (λ x u e kept. told x u (found_later (g.name, g.of) (map (λ f. (f.name, f.of)) formals) x u (ap (list_any (same_name g.name)) (formal_names formals) ∙ first_differs same_name g.name (map (λ f. f.name) formals) differ) e) (or_right (same_name g.name x && not g.by_place) _ kept)))
    where
      by_kind : (b : Bool) → not g.by_place ≡ b → AllStand (map (λ f. (head.Start f.name (sort_of p.forms f.of), alone (formal_head p f))) (filter (λ f. not f.by_place) formals))
          → AllStand (map (λ f. (head.Start f.name (sort_of p.forms f.of), alone (formal_head p f))) (cond b (g ∷ filter (λ f. not f.by_place) formals) (filter (λ f. not f.by_place) formals)))
      by_kind true e later =
          (told g.name g.of (first_found (g.name, g.of) (map (λ f. (f.name, f.of)) formals)) (or_left (same_name g.name g.name && not g.by_place) _ (both_true (eq-eqb g.name.0 g.name.0 refl) e)), later)
      by_kind false e later = later

-- ---- the main block

abbrev pub no_window : View
no_window h = None

-- nothing showed at the entry of the main block
pub main_is_entry : (p : Program) (state : State) → IsEntry p (entry_view p None state)
main_is_entry p state = record {
  fit = λ h w e. absurd (nothing_there (sym (entry-main p state h) ∙ e));
  old = λ h w e. absurd (nothing_there (sym (entry-main p state h) ∙ e));
}

-- ---- a routine

-- a name that a routine sees, with its type
pub record SeenName (p : Program) (r : Option Routine) (x : Symbol) (t : TypeId) : Type 0 where
  pub type : name_type p r x ≡ Some t
  pub seen : root_seen r (name_root (is_own r) x) ≡ true

module _ (p : Program) (f : IsFramed p) (id : RoutineId) (q : Routine) (there : routine_at p id ≡ Some q) where
  right_heading : heading_ok p q ≡ true
  right_heading = left_true (heading_ok p q) _ (item_passes (routine_ok p) p.routines id.0 q (left_true (list_all (routine_ok p) p.routines) _ (right_true (declarations_ok p) _ f.typed)) there)

  all_items : list_all (λ g. item_exists p g.item) q.globals ≡ true
  all_items =
      left_true (list_all (λ g. item_exists p g.item) q.globals) _
      (right_true (types_exist p q.locals) _
      (right_true (result_ok p q.result) _ (right_true (list_all (λ f. type_exists p.forms f.of) q.formals) _ right_heading)))

  pub all_initial : list_all (λ i. may_be_initial q i.1) q.initial ≡ true
  all_initial =
      left_true (list_all (λ i. may_be_initial q i.1) q.initial) _
      (right_true (all_differ same_item (map (λ g. g.item) q.globals)) _
      (right_true (list_all (λ g. item_exists p g.item) q.globals) _
      (right_true (types_exist p q.locals) _
      (right_true (result_ok p q.result) _ (right_true (list_all (λ f. type_exists p.forms f.of) q.formals) _ right_heading)))))

  differ : all_differ same_name (scope_names q) ≡ true
  differ = names_differ p f.typed id q there

  entry_uses : list_all (λ u. use_allowed q.globals u.root u.changes) (annotation_uses (is_formal q) q.entry) ≡ true
  entry_uses =
      all_left (λ u. use_allowed q.globals u.root u.changes) (annotation_uses (is_formal q) q.entry) _
      (left_true (list_all (λ u. use_allowed q.globals u.root u.changes) (routine_uses q)) _
      (right_true (changes_nothing q || not (is_some q.result)) _
      (item_passes (routine_framed p) p.routines id.0 q (left_true (list_all (routine_framed p) p.routines) _ f.framed) there)))

  -- parameters are seen
  pub formal_seen : (x : Symbol) (u : TypeId) → found (map (λ f. (f.name, f.of)) q.formals) x ≡ Some u → SeenName p (Some q) x u
  formal_seen x u e =
      let own : found (own_names q) x ≡ Some u = found-append (map (λ f. (f.name, f.of)) q.formals) (result_name q.name q.result ++ q.locals) x ∙ ap (λ o. first_of o (found (result_name q.name q.result ++ q.locals) x)) e in
      record {
        type = ap (λ o. first_of o (found p.variables x)) own;
        seen = ap (λ o. root_seen (Some q) (cond (is_some o) (Own x) (Shared (Variable x)))) own;
      }

  -- and variables of the GLOBAL list
  pub record Listed (x : Symbol) : Type 0 where
    pub type : TypeId
    pub declared : found p.variables x ≡ Some type
    pub is : SeenName p (Some q) x type

  pub listed_seen : (x : Symbol) → lists q.globals (Variable x) false ≡ true → Listed x
  listed_seen x listed = by_type (found p.variables x) refl (listed_passes (item_exists p) q.globals (Variable x) all_items listed)
    where
      own : found (own_names q) x ≡ None
      own = listed_not_own q differ x listed

      by_type : (o : Option TypeId) → found p.variables x ≡ o → is_some o ≡ true → Listed x
      by_type None e h = absurd (false≢true h)
      by_type (Some u) e h = record {
        type = u;
        declared = e;
        is = record {
          type = ap (λ o. first_of o (found p.variables x)) own ∙ e;
          seen = ap (λ o. root_seen (Some q) (cond (is_some o) (Own x) (Shared (Variable x)))) own ∙ listed;
        };
      }

  -- an INITIAL name is no name that shows
  pub initial_apart : (x : Symbol) → is_some (found q.initial x) ≡ true → shown_type p (Some q) x ≡ None
  initial_apart x there =
      found-append (own_names q) (filter (λ n. sees (Some q) (Variable n.0)) p.variables) x
      ∙ (ap (λ o. first_of o (found (filter (λ n. sees (Some q) (Variable n.0)) p.variables) x)) (found_none (own_names q) x own)
      ∙ filtered_none (λ y. sees (Some q) (Variable y)) p.variables x unseen)
    where
      formals : List Symbol
      formals = map (λ f. f.name) q.formals

      initial : List Symbol
      initial = map (λ i. i.0) q.initial

      locals : List Symbol
      locals = map (λ n. n.0) q.locals

      items : List Symbol
      items = variables_among (map (λ g. g.item) q.globals)

      among : list_any (same_name x) initial ≡ true
      among = among_names q.initial x there

      front : list_any (same_name x) (q.name ∷ formals) ≡ false
      front = not_before (q.name ∷ formals) (initial ++ (locals ++ items)) x differ (any_left (same_name x) initial (locals ++ items) among)

      behind : list_any (same_name x) (locals ++ items) ≡ false
      behind = not_behind initial (locals ++ items) x (differ_right same_name (q.name ∷ formals) (initial ++ (locals ++ items)) differ) among

      local : list_any (same_name x) locals ≡ false
      local = by_place (list_any (same_name x) locals) refl
        where
          by_place : (b : Bool) → list_any (same_name x) locals ≡ b → b ≡ false
          by_place false e = refl
          by_place true e = absurd (false≢true (sym behind ∙ any_left (same_name x) locals items e))

      unseen : lists q.globals (Variable x) false ≡ false
      unseen = by_place (lists q.globals (Variable x) false) refl
        where
          by_place : (b : Bool) → lists q.globals (Variable x) false ≡ b → b ≡ false
          by_place false e = refl
          by_place true e = absurd (false≢true (sym behind ∙ any_right (same_name x) locals items (among_variables q.globals x e)))

      own : list_any (same_name x) (map (λ n. n.0) (own_names q)) ≡ false
      own = ap (list_any (same_name x)) (names_of q.formals) ∙ none_both (same_name x) formals (map (λ n. n.0) (result_name q.name q.result ++ q.locals)) (right_false (same_name x q.name) _ front) (by_result q.result)
        where
          names_of : (fs : List Formal) → map (λ n. n.0) (map (λ f. (f.name, f.of)) fs ++ (result_name q.name q.result ++ q.locals)) ≡ map (λ f. f.name) fs ++ map (λ n. n.0) (result_name q.name q.result ++ q.locals)
          names_of [] = refl
          names_of (f ∷ fs) = ap (λ (k : List Symbol). f.name ∷ k) (names_of fs)

          by_result : (o : Option TypeId) → list_any (same_name x) (map (λ n. n.0) (result_name q.name o ++ q.locals)) ≡ false
          by_result None = local
          by_result (Some t) = ap (λ b. b || list_any (same_name x) locals) (left_false (same_name x q.name) _ front) ∙ local

  pub initial_hidden : (state : State) (x : Symbol) (s : Sort) → is_some (found q.initial x) ≡ true → now_view p (Some id) state (head.Var x s 0) ≡ None
  initial_hidden state x s e = ap (λ o. of_sort (option_map (sort_of p.forms) o) s (look state (place_of (Some id) state x))) (ap (λ o. shown_type p o x) there ∙ initial_apart x e)

  module _ (state : State) (start : IsStart p (Some id) state) where
    -- a name that is seen has a value, which shows
    pub record NameHeld (x : Symbol) (u : TypeId) : Type 0 where
      pub value : Value
      pub held : look state (place_of (Some id) state x) ≡ Some value
      pub shows : now_view p (Some id) state (head.Var x (sort_of p.forms u) 0) ≡ Some value
      pub fit : fits (shapes p) value (sort_of p.forms u) ≡ true

    pub name_held : (x : Symbol) (u : TypeId) → SeenName p (Some q) x u → NameHeld x u
    name_held x u seen =
        let s = subst (λ (o : Option Routine). SeenName p o x u) (sym there) seen in
        by_value s (look state (place_of (Some id) state x)) refl (start.names x u (shown_with p (routine_at p id) x u s.type s.seen))
      where
        by_value : SeenName p (routine_at p id) x u → (o : Option Value) → look state (place_of (Some id) state x) ≡ o → is_of_type p u o ≡ true → NameHeld x u
        by_value s None e h = absurd (false≢true h)
        by_value s (Some w) e h = record { value = w; held = e; shows = view_name p (Some id) state x u w s.type s.seen e; fit = h }

    class_shows : (t : TypeId) → lists q.globals (Class t) false ≡ true → now_view p (Some id) state (head.ClassVar t 0) ≡ Some (class_of (shapes p) state.heap t)
    class_shows t listed =
        ap (λ o. cond (sees o (Class t)) (Some (class_of (shapes p) state.heap t)) None) there ∙ ap (λ b. cond b (Some (class_of (shapes p) state.heap t)) None) listed

    -- what an INITIAL name stands for has a value, which shows
    pub record ItemHeld (i : Item) : Type 0 where
      pub value : Value
      pub held : item_value p (Some id) state i ≡ Some value
      pub shows : now_view p (Some id) state (item_head p (Some q) i) ≡ Some value
      pub fit : fits (shapes p) value (item_sort p (Some q) i) ≡ true

    sort_of_name : (x : Symbol) (u : TypeId) → SeenName p (Some q) x u → item_sort p (Some q) (Variable x) ≡ sort_of p.forms u
    sort_of_name x u seen = ap (λ o. sort_or_int (option_map (sort_of p.forms) o)) seen.type

    pub item_held : (i : Item) → may_be_initial q i ≡ true → ItemHeld i
    item_held (Variable x) may = by_kind (list_any (λ f. same_name f.name x && f.by_place) q.formals) refl may
      where
        of_name : (u : TypeId) → SeenName p (Some q) x u → ItemHeld (Variable x)
        of_name u seen =
            let k = name_held x u seen in
            let sort = sort_of_name x u seen in
            record {
              value = k.value;
              held = k.held;
              shows = ap (λ s. now_view p (Some id) state (head.Var x s 0)) sort ∙ k.shows;
              fit = ap (fits (shapes p) k.value) sort ∙ k.fit;
            }

        by_formal : (o : Option TypeId) → found (map (λ f. (f.name, f.of)) q.formals) x ≡ o → is_some o ≡ true → ItemHeld (Variable x)
        by_formal None e h = absurd (false≢true h)
        by_formal (Some u) e h = of_name u (formal_seen x u e)

        by_kind : (b : Bool) → list_any (λ f. same_name f.name x && f.by_place) q.formals ≡ b → (b || lists q.globals (Variable x) true) ≡ true → ItemHeld (Variable x)
        by_kind true e h = by_formal (found (map (λ f. (f.name, f.of)) q.formals) x) refl (place_is_formal q.formals x e)
        by_kind false e h = let k = listed_seen x (listed_there q.globals (Variable x) true h) in of_name k.type k.is
    item_held (Class t) may = record {
      value = class_of (shapes p) state.heap t;
      held = refl;
      shows = class_shows t (listed_there q.globals (Class t) true may);
      fit = class_fits p (forms_right p f.typed) state.heap start.heap t;
    }

    pub initial_held : (x : Symbol) (i : Item) → found q.initial x ≡ Some i → ItemHeld i
    initial_held x i e = item_held i (found_all (may_be_initial q) q.initial x i all_initial e)

    -- a value parameter has a value
    record ParameterHeld (x : Symbol) : Type 0 where
      type : TypeId
      seen : SeenName p (Some q) x type
      holds : NameHeld x type

    parameter_held : (x : Symbol) → is_value_parameter q x ≡ true → ParameterHeld x
    parameter_held x kept = by_formal (found (map (λ f. (f.name, f.of)) q.formals) x) refl (value_is_formal q.formals x kept)
      where
        by_formal : (o : Option TypeId) → found (map (λ f. (f.name, f.of)) q.formals) x ≡ o → is_some o ≡ true → ParameterHeld x
        by_formal None e h = absurd (false≢true h)
        by_formal (Some u) e h = let seen = formal_seen x u e in record { type = u; seen = seen; holds = name_held x u seen }

    -- what showed at the entry fits
    entry_fits : (h : Head) (w : Value) → entry_view p (Some id) state h ≡ Some w → fits (shapes p) w (variable_sort h) ≡ true
    entry_fits (head.Var x s zero) w e =
        by_item (found q.initial x) refl (subst (λ (o : Option Routine). of_sort (option_map (item_sort p o) (initial_item o x)) s (option_and_then (item_value p (Some id) state) (initial_item o x)) ≡ Some w) there e)
      where
        by_item : (o : Option Item) → found q.initial x ≡ o → of_sort (option_map (item_sort p (Some q)) o) s (option_and_then (item_value p (Some id) state) o) ≡ Some w → fits (shapes p) w s ≡ true
        by_item None is e = absurd (nothing_there e)
        by_item (Some i) is e =
            let k = initial_held x i is in
            let same = sort_eq-true (item_sort p (Some q) i) s (passed (sort_eq (item_sort p (Some q) i) s) (item_value p (Some id) state i) w e) in
            let value = some_is (sym k.held ∙ chosen (sort_eq (item_sort p (Some q) i) s) (item_value p (Some id) state i) w e) in
            ap (fits (shapes p) w) (sym same) ∙ (ap (λ u. fits (shapes p) u (item_sort p (Some q) i)) (sym value) ∙ k.fit)
    entry_fits (head.Var x s (suc n)) w e = absurd (nothing_there e)
    entry_fits (head.Start x s) w e =
        by_kind (is_value_parameter q x) refl (subst (λ (o : Option Routine). of_sort (parameter_sort p o x) s (look state (place_of (Some id) state x)) ≡ Some w) there e)
      where
        by_kind : (b : Bool) → is_value_parameter q x ≡ b → of_sort (cond b (Some (item_sort p (Some q) (Variable x))) None) s (look state (place_of (Some id) state x)) ≡ Some w → fits (shapes p) w s ≡ true
        by_kind false is e = absurd (nothing_there e)
        by_kind true is e =
            let k = parameter_held x is in
            let declared = item_sort p (Some q) (Variable x) in
            let same = sort_eq-true declared s (passed (sort_eq declared s) (look state (place_of (Some id) state x)) w e) in
            let value = some_is (sym k.holds.held ∙ chosen (sort_eq declared s) (look state (place_of (Some id) state x)) w e) in
            ap (fits (shapes p) w) (sym same ∙ sort_of_name x k.type k.seen) ∙ (ap (λ u. fits (shapes p) u (sort_of p.forms k.type)) (sym value) ∙ k.holds.fit)
    entry_fits (head.ClassVar t n) w e = absurd (nothing_there e)
    entry_fits _ w e = absurd (nothing_there e)

    -- and is of no fresh variable
    entry_old : (h : Head) (w : Value) → entry_view p (Some id) state h ≡ Some w → is_new full_supply h ≡ false
    entry_old (head.Var x s zero) w e = refl
    entry_old (head.Var x s (suc n)) w e = absurd (nothing_there e)
    entry_old (head.Start x s) w e = refl
    entry_old (head.ClassVar t n) w e = absurd (nothing_there e)
    entry_old _ w e = absurd (nothing_there e)

    pub routine_is_entry : IsEntry p (entry_view p (Some id) state)
    routine_is_entry = record { fit = entry_fits; old = entry_old }

    -- what ENTRY may name shows
    record HeadShown (h : Head) : Type 0 where
      value : Value
      shows : now_view p (Some id) state h ≡ Some value

    head_shown : (h : Head) → entry_test p q h ≡ true → is_variable h ≡ true → HeadShown h
    head_shown (head.Var x s m) passes variable =
        let more = right_true (nat_eq m 0) _ passes in
        by_formal (found (map (λ f. (f.name, f.of)) q.formals) x) refl
        (sort_eq-true s (sort_or_int (found (entry_scope p q) x)) (left_true (sort_eq s (sort_or_int (found (entry_scope p q) x))) _ more)) (right_true (sort_eq s (sort_or_int (found (entry_scope p q) x))) _ more)
      where
        scope : found (entry_scope p q) x ≡ first_of (option_map (sort_of p.forms) (found (map (λ f. (f.name, f.of)) q.formals) x)) (option_map (sort_of p.forms) (found p.variables x))
        scope =
            found-append (parameters_of p q) (with_sorts_of p p.variables) x
            ∙ (λ i. first_of (found-sorts p (map (λ f. (f.name, f.of)) q.formals) x i) (found-sorts p p.variables x i))

        of_name : (u : TypeId) → SeenName p (Some q) x u → s ≡ sort_of p.forms u → HeadShown (head.Var x s m)
        of_name u seen sort =
            let k = name_held x u seen in
            let is : head.Var x s m ≡ head.Var x (sort_of p.forms u) 0 = λ i. head.Var x (sort i) (eqb-true m 0 (left_true (nat_eq m 0) _ passes) i) in
            record { value = k.value; shows = ap (now_view p (Some id) state) is ∙ k.shows }

        by_formal : (o : Option TypeId) → found (map (λ f. (f.name, f.of)) q.formals) x ≡ o → s ≡ sort_or_int (found (entry_scope p q) x) → use_allowed q.globals (cond (is_some o) (Own x) (Shared (Variable x))) false ≡ true → HeadShown (head.Var x s m)
        by_formal (Some u) e sort allowed =
            of_name u (formal_seen x u e) (sort ∙ ap sort_or_int (scope ∙ ap (λ o. first_of (option_map (sort_of p.forms) o) (option_map (sort_of p.forms) (found p.variables x))) e))
        by_formal None e sort allowed =
            let k = listed_seen x allowed in
            of_name k.type k.is
            (sort ∙ ap sort_or_int (scope ∙ (ap (λ o. first_of (option_map (sort_of p.forms) o) (option_map (sort_of p.forms) (found p.variables x))) e ∙ ap (option_map (sort_of p.forms)) k.declared)))
    head_shown (head.ClassVar t m) passes variable = record {
      value = class_of (shapes p) state.heap t;
      shows = ap (λ n. now_view p (Some id) state (head.ClassVar t n)) (eqb-true m 0 (left_true (nat_eq m 0) _ passes)) ∙ class_shows t (right_true (nat_eq m 0) _ passes);
    }
    head_shown (head.Start x s) passes variable = absurd (false≢true passes)
    head_shown _ passes variable = absurd (false≢true variable)

    -- what an INITIAL name showed at the beginning
    pub initial_shown : (x : Symbol) (i : Item) (e : found q.initial x ≡ Some i) → entry_view p (Some id) state (head.Var x (item_sort p (Some q) i) 0) ≡ Some (initial_held x i e).value
    initial_shown x i e =
        let k = initial_held x i e in
        let s = item_sort p (Some q) i in
        ap (λ o. of_sort (option_map (item_sort p o) (initial_item o x)) s (option_and_then (item_value p (Some id) state) (initial_item o x))) there
        ∙ (ap (λ o. of_sort (option_map (item_sort p (Some q)) o) s (option_and_then (item_value p (Some id) state) o)) e
        ∙ (ap (λ b. cond b (item_value p (Some id) state i) None) (sort_eq-refl s) ∙ k.held))

    -- a valuation that shows the beginning
    module _ (world : Meaning) (v : Valuation) (shows : Shows (shown p (begun p (Some id) state) no_window state) v) where
      now_told : (h : Head) (w : Value) → now_view p (Some id) state h ≡ Some w → v h ≡ w
      now_told h w e = shows h w (in_first _ None w (in_first _ (entry_view p (Some id) state h) w e))

      entry_told : (h : Head) (w : Value) → now_view p (Some id) state h ≡ None → entry_view p (Some id) state h ≡ Some w → v h ≡ w
      entry_told h w none e = shows h w (in_first _ None w (ap (λ o. shown_or o (entry_view p (Some id) state h)) none ∙ e))

      initial_told : (x : Symbol) (i : Item) → found q.initial x ≡ Some i → v (head.Var x (item_sort p (Some q) i) 0) ≡ v (item_head p (Some q) i)
      initial_told x i e =
          let k = initial_held x i e in
          let s = item_sort p (Some q) i in
          entry_told (head.Var x s 0) k.value (initial_hidden state x s (ap is_some e)) (initial_shown x i e) ∙ sym (now_told (item_head p (Some q) i) k.value k.shows)

      start_told : (x : Symbol) (u : TypeId) → found (map (λ f. (f.name, f.of)) q.formals) x ≡ Some u → is_value_parameter q x ≡ true → v (head.Start x (sort_of p.forms u)) ≡ v (head.Var x (sort_of p.forms u) 0)
      start_told x u e kept =
          let seen = formal_seen x u e in
          let k = name_held x u seen in
          let s = sort_of p.forms u in
          let shown_there : entry_view p (Some id) state (head.Start x s) ≡ Some k.value = ap (λ o. of_sort (parameter_sort p o x) s (look state (place_of (Some id) state x))) there
          ∙ (ap (λ b. of_sort (cond b (Some (item_sort p (Some q) (Variable x))) None) s (look state (place_of (Some id) state x))) kept
          ∙ (ap (λ d. of_sort (Some d) s (look state (place_of (Some id) state x))) (sort_of_name x u seen)
          ∙ (ap (λ b. cond b (look state (place_of (Some id) state x)) None) (sort_eq-refl s) ∙ k.held))) in
          entry_told (head.Start x s) k.value refl shown_there ∙ sym (now_told (head.Var x s 0) k.value k.shows)

      -- INITIAL names and starts have the values of what is put in their places
      pub stand_there : (h : Head) → under (meaning_in p world) (replacing (initial_pairs p q ++ start_pairs p q)) v h ≡ v h
      stand_there h =
          stand_alike (meaning_in p world) v (initial_pairs p q ++ start_pairs p q)
          (stand_both (meaning_in p world) v (initial_pairs p q) (start_pairs p q)
          (initial_stand (meaning_in p world) v p q q.initial initial_differ initial_told)
          (starts_stand (meaning_in p world) v p q.formals (formals_differ p f.typed id q there) start_told)) h
        where
          initial_differ : all_differ same_name (map (λ i. i.0) q.initial) ≡ true
          initial_differ =
              differ_left same_name (map (λ i. i.0) q.initial) (map (λ n. n.0) q.locals ++ variables_among (map (λ g. g.item) q.globals))
              (differ_right same_name (q.name ∷ map (λ f. f.name) q.formals) (map (λ i. i.0) q.initial ++ (map (λ n. n.0) q.locals ++ variables_among (map (λ g. g.item) q.globals))) differ)

      -- ENTRY that was met is true
      pub entry_true : (a : Annotation) → q.entry ≡ Some a → met_holds p world (reached_entry p (begun p (Some id) state) q state a) ≡ true → holds (meaning_in p world) v (entry_term p q a) ≡ true
      entry_true a e met =
          let view = both (entry_view p (Some id) state) (now_view p (Some id) state) in
          let uses = subst (λ o. list_all (λ u. use_allowed q.globals u.root u.changes) (annotation_uses (is_formal q) o) ≡ true) e entry_uses in
          let passes = formula_passes (entry_test p q) (name_in (entry_scope p q)) (is_formal q) q.globals (entry_passes p q) a.formula uses in
          ap truth_of
          (eval-agree (meaning_in p world) v (valuation_of (shapes p) view) (entry_test p q) (entry_term p q a) passes
          (λ h test variable.
          let k = head_shown h test variable in
          now_told h k.value k.shows ∙ sym (ap (λ o. unwrap_or o (default_of (shapes p) (variable_sort h))) (in_first (now_view p (Some id) state h) (entry_view p (Some id) state h) k.value k.shows))))
          ∙ met
