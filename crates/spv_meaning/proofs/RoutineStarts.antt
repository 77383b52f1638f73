-- Each routine has a start.
use Rattle.std.proofs.Common.{◌≡◌, ℕ, zero, suc, Bool, true, false, cond, ◌&&◌, List, [], ◌∷◌, ◌++◌, map, filter, refl, sym, ap, ◌∙◌, nat_eq, Option, Some, None}
use Rattle.std.specs.Option.{option_and_then}
use Rattle.std.specs.List.{list_all, list_any}
use Rattle.std.specs.Cmp.Derive.{both_true}
use Rattle.std.proofs.lemmas.Bool.{false≢true, eq-eqb}
use Rattle.spv_logic.specs.declared.names.names.Symbol.{Symbol}
use Rattle.spv_logic.specs.declared.types.TypeId.{TypeId}
use Rattle.spv_logic.specs.declared.conditions.RoutineId.{RoutineId}
use Rattle.spv_logic.specs.Shapes.{shapes_ok}
use Rattle.spv_logic.specs.Fits.{default_of}
use Rattle.spv_logic.proofs.list.Tests.{left_true, right_true, left_false, right_false, both_false}
use Rattle.spv_logic.proofs.Defaults.{default_fits}
use Rattle.spv_program.specs.declared.types.Item.{Item}
use Rattle.spv_program.specs.declared.types.Item.TheVariants.{Variable, Class}
use Rattle.spv_program.specs.Lists.{same_name, found, item_at, all_differ}
use Rattle.spv_program.specs.Types.{sort_of, form_ok, forms_ok, type_exists, same_item}
use Rattle.spv_program.specs.Programs.{Formal, GlobalItem, Routine, Program, shapes, routine_at}
use Rattle.spv_program.specs.Scopes.{result_name}
use Rattle.spv_program.specs.Typing.{well_typed, declarations_ok, heading_ok, item_exists, types_exist, result_ok, may_be_initial, routine_ok, scope_names, variables_among}
use Rattle.spv_program.proofs.SortFacts.{nothing_there, some_is}
use Rattle.spv_meaning.specs.Places.{Binding, State, OwnValue, Holding, Referring, whole, held, look}
use Rattle.spv_meaning.specs.Views.{place_of, bound_place, sees, shown_type}
use Rattle.spv_meaning.specs.Starts.{IsStart, Area, At, has_frame, binds, is_of_type, overlap, bound_area, item_area, apart}
use Rattle.spv_meaning.specs.Laws.{holding_defaults, started_formal, with_own_defaults}
use Rattle.spv_meaning.proofs.Maps.{same_names, other_way}
use Rattle.spv_meaning.proofs.MainViews.{some_of}
use Rattle.spv_meaning.proofs.MainStart.{default_found}
use Rattle.spv_meaning.specs.FrameTypes.{frame_of, in_routine}
use Rattle.spv_meaning.proofs.RightFrames.{parameters_of, start_right}
use Rattle.spv_meaning.proofs.Differing.{differ_left, first_differs, others_differ, one_more, differ_front, differ_around, differ_with}

-- ---- what a well typed program has

pub item_passes : {X : Type 0} (test : X → Bool) (xs : List X) (n : ℕ) (x : X) → list_all test xs ≡ true → item_at xs n ≡ Some x → test x ≡ true
item_passes test [] n x all there = absurd (nothing_there there)
item_passes test (y ∷ ys) zero x all there = ap test (sym (some_is there)) ∙ left_true (test y) (list_all test ys) all
item_passes test (y ∷ ys) (suc n) x all there = item_passes test ys n x (right_true (test y) (list_all test ys) all) there

-- ---- the frame

abbrev bound : Program → List Formal → List (Symbol × Binding)
bound p formals = map (λ f. (f.name, started_formal p f)) formals

abbrev kinds : List Formal → List (Symbol × Bool)
kinds formals = map (λ f. (f.name, f.by_place)) formals

own_bind : (p : Program) (own : List (Symbol × TypeId)) → binds (map (λ n. (n.0, false)) own) (holding_defaults p own) ≡ true
own_bind p [] = refl
own_bind p (n ∷ own) = both_true (eq-eqb n.0.0 n.0.0 refl) (own_bind p own)

formals_bind : (p : Program) (formals : List Formal) (own : List (Symbol × TypeId)) → binds (kinds formals ++ map (λ n. (n.0, false)) own) (bound p formals ++ holding_defaults p own) ≡ true
formals_bind p [] own = own_bind p own
formals_bind p (f ∷ formals) own = by_kind f.by_place (formals_bind p formals own)
  where
    by_kind : (b : Bool) → binds (kinds formals ++ map (λ n. (n.0, false)) own) (bound p formals ++ holding_defaults p own) ≡ true
        → binds ((f.name, b) ∷ (kinds formals ++ map (λ n. (n.0, false)) own)) ((f.name, cond b (Referring (whole (OwnValue 0 f.name))) (Holding (default_of (shapes p) (sort_of p.forms f.of)))) ∷ (bound p formals ++ holding_defaults p own)) ≡ true
    by_kind true later = both_true (eq-eqb f.name.0 f.name.0 refl) later
    by_kind false later = both_true (eq-eqb f.name.0 f.name.0 refl) later

-- ---- values

-- what a name of this type stands for: a default of the routine's frame, one of the frame below, or a variable of the program
data Stands (p : Program) (names below : List (Symbol × Binding)) (variables : List (Symbol × TypeId)) (x : Symbol) (t : TypeId) : Type 0 where
  Held : found names x ≡ Some (Holding (default_of (shapes p) (sort_of p.forms t))) → Stands p names below variables x t
  Refers : found names x ≡ Some (Referring (whole (OwnValue 0 x))) → found below x ≡ Some (Holding (default_of (shapes p) (sort_of p.forms t))) → Stands p names below variables x t
  Shared : found names x ≡ None → found variables x ≡ Some t → Stands p names below variables x t

own_stands : (p : Program) (own variables : List (Symbol × TypeId)) (below : List (Symbol × Binding)) (x : Symbol) (t : TypeId) → found (own ++ variables) x ≡ Some t → Stands p (holding_defaults p own) below variables x t
own_stands p [] variables below x t e = Shared refl e
own_stands p (n ∷ own) variables below x t e = by_name (same_name n.0 x) refl e (own_stands p own variables below x t)
  where
    default : TypeId → Binding
    default u = Holding (default_of (shapes p) (sort_of p.forms u))

    by_name : (b : Bool) → same_name n.0 x ≡ b → cond b (Some n.1) (found (own ++ variables) x) ≡ Some t → (found (own ++ variables) x ≡ Some t → Stands p (holding_defaults p own) below variables x t) → Stands p (holding_defaults p (n ∷ own)) below variables x t
    by_name true same e later =
        Held (ap (λ b. cond b (Some (default n.1)) (found (holding_defaults p own) x)) same ∙ ap (λ u. Some (default u)) (some_is e))
    by_name false same e later = further (later e)
      where
        step : found (holding_defaults p (n ∷ own)) x ≡ found (holding_defaults p own) x
        step = ap (λ b. cond b (Some (default n.1)) (found (holding_defaults p own) x)) same

        further : Stands p (holding_defaults p own) below variables x t → Stands p (holding_defaults p (n ∷ own)) below variables x t
        further (Held h) = Held (step ∙ h)
        further (Refers h k) = Refers (step ∙ h) k
        further (Shared h k) = Shared (step ∙ h) k

formals_stand : (p : Program) (formals : List Formal) (own variables : List (Symbol × TypeId)) (x : Symbol) (t : TypeId) → found ((map (λ f. (f.name, f.of)) formals ++ own) ++ variables) x ≡ Some t
    → Stands p (bound p formals ++ holding_defaults p own) (holding_defaults p (map (λ f. (f.name, f.of)) formals)) variables x t
formals_stand p [] own variables x t e = own_stands p own variables [] x t e
formals_stand p (f ∷ formals) own variables x t e = by_name (same_name f.name x) refl e (formals_stand p formals own variables x t)
  where
    names : List (Symbol × Binding)
    names = bound p formals ++ holding_defaults p own

    below : List (Symbol × Binding)
    below = holding_defaults p (map (λ f. (f.name, f.of)) formals)

    default : TypeId → Binding
    default u = Holding (default_of (shapes p) (sort_of p.forms u))

    there : same_name f.name x ≡ true → f.of ≡ t → found ((f.name, default f.of) ∷ below) x ≡ Some (default t)
    there same is = ap (λ b. cond b (Some (default f.of)) (found below x)) same ∙ ap (λ u. Some (default u)) is

    by_kind : (b : Bool) → same_name f.name x ≡ true → f.of ≡ t
        → Stands p ((f.name, cond b (Referring (whole (OwnValue 0 f.name))) (default f.of)) ∷ names) ((f.name, default f.of) ∷ below) variables x t
    by_kind true same is =
        Refers (ap (λ b. cond b (Some (Referring (whole (OwnValue 0 f.name)))) (found names x)) same ∙ ap (λ y. Some (Referring (whole (OwnValue 0 y)))) (same_names f.name x same)) (there same is)
    by_kind false same is =
        Held (ap (λ b. cond b (Some (default f.of)) (found names x)) same ∙ ap (λ u. Some (default u)) is)

    by_name : (b : Bool) → same_name f.name x ≡ b → cond b (Some f.of) (found ((map (λ f. (f.name, f.of)) formals ++ own) ++ variables) x) ≡ Some t
        → (found ((map (λ f. (f.name, f.of)) formals ++ own) ++ variables) x ≡ Some t → Stands p names below variables x t)
        → Stands p ((f.name, started_formal p f) ∷ names) ((f.name, default f.of) ∷ below) variables x t
    by_name true same e later = by_kind f.by_place same (some_is e)
    by_name false same e later = further (later e)
      where
        step : found ((f.name, started_formal p f) ∷ names) x ≡ found names x
        step = ap (λ b. cond b (Some (started_formal p f)) (found names x)) same

        below_step : found ((f.name, default f.of) ∷ below) x ≡ found below x
        below_step = ap (λ b. cond b (Some (default f.of)) (found below x)) same

        further : Stands p names below variables x t → Stands p ((f.name, started_formal p f) ∷ names) ((f.name, default f.of) ∷ below) variables x t
        further (Held h) = Held (step ∙ h)
        further (Refers h k) = Refers (step ∙ h) (below_step ∙ k)
        further (Shared h k) = Shared (step ∙ h) k

-- what is found among the names that pass a test on names passes it
pub found_passes : {X : Type 0} (test : Symbol → Bool) (names : List (Symbol × X)) (x : Symbol) (t : X) → found (filter (λ n. test n.0) names) x ≡ Some t → test x ≡ true
found_passes test [] x t e = absurd (nothing_there e)
found_passes {X} test (n ∷ names) x t e = by_test (test n.0) refl e (found_passes test names x t)
  where
    by_name : (b : Bool) → same_name n.0 x ≡ b → test n.0 ≡ true → cond b (Some n.1) (found (filter (λ n. test n.0) names) x) ≡ Some t → (found (filter (λ n. test n.0) names) x ≡ Some t → test x ≡ true) → test x ≡ true
    by_name true same passes e later = ap test (sym (same_names n.0 x same)) ∙ passes
    by_name false same passes e later = later e

    by_test : (b : Bool) → test n.0 ≡ b → found (cond b (n ∷ filter (λ n. test n.0) names) (filter (λ n. test n.0) names)) x ≡ Some t → (found (filter (λ n. test n.0) names) x ≡ Some t → test x ≡ true) → test x ≡ true
    by_test true passes e later = by_name (same_name n.0 x) refl passes e later
    by_test false passes e later = later e

-- and it is what is found among all names
pub found_among : {X : Type 0} (test : Symbol → Bool) (names : List (Symbol × X)) (x : Symbol) (t : X) → found (filter (λ n. test n.0) names) x ≡ Some t → found names x ≡ Some t
found_among test [] x t e = absurd (nothing_there e)
found_among {X} test (n ∷ names) x t e = by_test (test n.0) refl e (found_among test names x t)
  where
    by_name : (b : Bool) → cond b (Some n.1) (found (filter (λ n. test n.0) names) x) ≡ Some t → (found (filter (λ n. test n.0) names) x ≡ Some t → found names x ≡ Some t) → cond b (Some n.1) (found names x) ≡ Some t
    by_name true e later = e
    by_name false e later = later e

    failed : (b : Bool) → same_name n.0 x ≡ b → test n.0 ≡ false → found (filter (λ n. test n.0) names) x ≡ Some t → found names x ≡ Some t → cond b (Some n.1) (found names x) ≡ Some t
    failed true same fails e there = absurd (false≢true (sym fails ∙ (ap test (same_names n.0 x same) ∙ found_passes test names x t e)))
    failed false same fails e there = there

    by_test : (b : Bool) → test n.0 ≡ b → found (cond b (n ∷ filter (λ n. test n.0) names) (filter (λ n. test n.0) names)) x ≡ Some t → (found (filter (λ n. test n.0) names) x ≡ Some t → found names x ≡ Some t) → found (n ∷ names) x ≡ Some t
    by_test true passes e later = by_name (same_name n.0 x) e later
    by_test false fails e later = failed (same_name n.0 x) refl fails e (later e)

-- ---- areas

-- the area of a name in a frame, or of an item, is another one than those of other names and items
own_apart : (p : Program) (n : ℕ) (x : Symbol) (own : List (Symbol × TypeId)) (globals : List GlobalItem) → list_any (same_name x) (map (λ n. n.0) own) ≡ false
    → list_any (overlap [] (At (whole (OwnValue n x)))) (map (bound_area 1) (holding_defaults p own) ++ map item_area globals) ≡ false
own_apart p n x [] [] none = refl
own_apart p n x [] (g ∷ globals) none = both_false (overlap [] (At (whole (OwnValue n x))) (item_area g)) _ (by_item g.item) (own_apart p n x [] globals none)
  where
    by_item : (i : Item) → overlap [] (At (whole (OwnValue n x))) (item_area (record { item = i; is_var = g.is_var; line = g.line })) ≡ false
    by_item (Variable y) = refl
    by_item (Class t) = refl
own_apart p n x (o ∷ own) globals none =
    both_false (overlap [] (At (whole (OwnValue n x))) (At (whole (OwnValue 1 o.0)))) _
    (named (nat_eq n 1) (left_false (same_name x o.0) _ none)) (own_apart p n x own globals (right_false (same_name x o.0) _ none))
  where
    named : (b : Bool) → same_name x o.0 ≡ false → ((b && same_name x o.0) && true) ≡ false
    named true e = ap (λ c. c && true) e
    named false e = refl

formal_apart : (p : Program) (n : ℕ) (x : Symbol) (formals : List Formal) (own : List (Symbol × TypeId)) (globals : List GlobalItem) → list_any (same_name x) (map (λ f. f.name) formals ++ map (λ n. n.0) own) ≡ false
    → list_any (overlap [] (At (whole (OwnValue n x)))) (map (bound_area 1) (bound p formals ++ holding_defaults p own) ++ map item_area globals) ≡ false
formal_apart p n x [] own globals none = own_apart p n x own globals none
formal_apart p n x (f ∷ formals) own globals none =
    both_false (overlap [] (At (whole (OwnValue n x))) (bound_area 1 (f.name, started_formal p f))) _ (by_kind f.by_place (left_false (same_name x f.name) _ none))
    (formal_apart p n x formals own globals (right_false (same_name x f.name) _ none))
  where
    named : (b : Bool) → same_name x f.name ≡ false → ((b && same_name x f.name) && true) ≡ false
    named true e = ap (λ c. c && true) e
    named false e = refl

    by_kind : (b : Bool) → same_name x f.name ≡ false → overlap [] (At (whole (OwnValue n x))) (bound_area 1 (f.name, cond b (Referring (whole (OwnValue 0 f.name))) (Holding (default_of (shapes p) (sort_of p.forms f.of))))) ≡ false
    by_kind true e = named (nat_eq n 0) e
    by_kind false e = named (nat_eq n 1) e

items_apart : (globals : List GlobalItem) → all_differ same_item (map (λ g. g.item) globals) ≡ true → all_differ (overlap []) (map item_area globals) ≡ true
items_apart [] h = refl
items_apart (g ∷ globals) h =
    one_more (overlap []) (item_area g) (map item_area globals) (each globals (first_differs same_item g.item (map (λ g. g.item) globals) h))
    (items_apart globals (others_differ same_item g.item (map (λ g. g.item) globals) h))
  where
    two : (i j : Item) → same_item i j ≡ false → overlap [] (item_area (record { item = i; is_var = false; line = 0 })) (item_area (record { item = j; is_var = false; line = 0 })) ≡ false
    two (Variable x) (Variable y) e = ap (λ c. c && true) e
    two (Variable x) (Class t) e = refl
    two (Class t) (Variable y) e = refl
    two (Class t) (Class u) e = e

    each : (others : List GlobalItem) → list_any (same_item g.item) (map (λ g. g.item) others) ≡ false → list_any (overlap [] (item_area g)) (map item_area others) ≡ false
    each [] none = refl
    each (o ∷ others) none = both_false (overlap [] (item_area g) (item_area o)) _ (two g.item o.item (left_false (same_item g.item o.item) _ none)) (each others (right_false (same_item g.item o.item) _ none))

owns_differ : (p : Program) (own : List (Symbol × TypeId)) (globals : List GlobalItem) → all_differ same_name (map (λ n. n.0) own) ≡ true → all_differ same_item (map (λ g. g.item) globals) ≡ true
    → all_differ (overlap []) (map (bound_area 1) (holding_defaults p own) ++ map item_area globals) ≡ true
owns_differ p [] globals names items = items_apart globals items
owns_differ p (o ∷ own) globals names items =
    one_more (overlap []) (At (whole (OwnValue 1 o.0))) (map (bound_area 1) (holding_defaults p own) ++ map item_area globals) (own_apart p 1 o.0 own globals (first_differs same_name o.0 (map (λ n. n.0) own) names))
    (owns_differ p own globals (others_differ same_name o.0 (map (λ n. n.0) own) names) items)

areas_differ : (p : Program) (formals : List Formal) (own : List (Symbol × TypeId)) (globals : List GlobalItem) → all_differ same_name (map (λ f. f.name) formals ++ map (λ n. n.0) own) ≡ true → all_differ same_item (map (λ g. g.item) globals) ≡ true
    → all_differ (overlap []) (map (bound_area 1) (bound p formals ++ holding_defaults p own) ++ map item_area globals) ≡ true
areas_differ p [] own globals names items = owns_differ p own globals names items
areas_differ p (f ∷ formals) own globals names items =
    one_more (overlap []) (bound_area 1 (f.name, started_formal p f)) (map (bound_area 1) (bound p formals ++ holding_defaults p own) ++ map item_area globals)
    (by_kind f.by_place (λ n. formal_apart p n f.name formals own globals (first_differs same_name f.name (map (λ f. f.name) formals ++ map (λ n. n.0) own) names)))
    (areas_differ p formals own globals (others_differ same_name f.name (map (λ f. f.name) formals ++ map (λ n. n.0) own) names) items)
  where
    rest : List Area
    rest = map (bound_area 1) (bound p formals ++ holding_defaults p own) ++ map item_area globals

    by_kind : (b : Bool) → ((n : ℕ) → list_any (overlap [] (At (whole (OwnValue n f.name)))) rest ≡ false)
        → list_any (overlap [] (bound_area 1 (f.name, cond b (Referring (whole (OwnValue 0 f.name))) (Holding (default_of (shapes p) (sort_of p.forms f.of)))))) rest ≡ false
    by_kind true h = h 0
    by_kind false h = h 1

-- the names of a routine's frame differ, since those of its scope do
own_differ : (r : Routine) → all_differ same_name (scope_names r) ≡ true → all_differ same_name (map (λ f. f.name) r.formals ++ map (λ n. n.0) (result_name r.name r.result ++ r.locals)) ≡ true
own_differ r differ = by_result r.result
  where
    formals : List Symbol
    formals = map (λ f. f.name) r.formals

    initial : List Symbol
    initial = map (λ i. i.0) r.initial

    locals : List Symbol
    locals = map (λ n. n.0) r.locals

    items : List Symbol
    items = variables_among (map (λ g. g.item) r.globals)

    all : all_differ same_name (r.name ∷ (formals ++ locals)) ≡ true
    all = differ_front same_name (r.name ∷ formals) locals items (differ_around same_name (r.name ∷ formals) initial (locals ++ items) differ)

    by_result : (o : Option TypeId) → all_differ same_name (formals ++ map (λ n. n.0) (result_name r.name o ++ r.locals)) ≡ true
    by_result None = others_differ same_name r.name (formals ++ locals) all
    by_result (Some t) = differ_with same_name other_way r.name formals locals (first_differs same_name r.name (formals ++ locals) all) (others_differ same_name r.name (formals ++ locals) all)

-- ---- the start

module _ (p : Program) (typed : well_typed p ≡ true) (id : RoutineId) (r : Routine) (there : routine_at p id ≡ Some r) where
  abbrev pub start : State
  start = with_own_defaults p id r

  abbrev own : List (Symbol × TypeId)
  own = result_name r.name r.result ++ r.locals

  types : shapes_ok (shapes p) ≡ true
  types = right_true (list_all (form_ok p.forms) p.forms) _ (left_true (forms_ok p.forms) _ (left_true (declarations_ok p) _ typed))

  right : routine_ok p r ≡ true
  right = item_passes (routine_ok p) p.routines id.0 r (left_true (list_all (routine_ok p) p.routines) _ (right_true (declarations_ok p) _ typed)) there

  -- the end of what a heading has to have
  heading_end : (all_differ same_item (map (λ g. g.item) r.globals) && (list_all (λ i. may_be_initial r i.1) r.initial && all_differ same_name (scope_names r))) ≡ true
  heading_end =
      right_true (list_all (λ g. item_exists p g.item) r.globals) _
      (right_true (types_exist p r.locals) _
      (right_true (result_ok p r.result) _
      (right_true (list_all (λ f. type_exists p.forms f.of) r.formals) _ (left_true (heading_ok p r) _ right))))

  abbrev items_differ : Bool
  items_differ = all_differ same_item (map (λ g. g.item) r.globals)

  frame_is : has_frame p (Some id) (Some r) start ≡ true
  frame_is = both_true (eq-eqb id.0 id.0 refl) (formals_bind p r.formals own)

  value_is : (x : Symbol) (t : TypeId) → Stands p (bound p r.formals ++ holding_defaults p own) (holding_defaults p (map (λ f. (f.name, f.of)) r.formals)) (filter (λ n. sees (Some r) (Variable n.0)) p.variables) x t → look start (place_of (Some id) start x) ≡ Some (default_of (shapes p) (sort_of p.forms t))
  value_is x t (Held h) =
      ap (λ o. look start (bound_place 1 x o)) h ∙ (some_of _ ∙ ap (option_and_then held) h)
  value_is x t (Refers h k) =
      ap (λ o. look start (bound_place 1 x o)) h ∙ (some_of _ ∙ ap (option_and_then held) k)
  value_is x t (Shared h k) =
      ap (λ o. look start (bound_place 1 x o)) h
      ∙ (some_of _ ∙ default_found p p.variables x t (found_among (λ y. sees (Some r) (Variable y)) p.variables x t k))

  named : (x : Symbol) (t : TypeId) → shown_type p (Some r) x ≡ Some t → is_of_type p t (look start (place_of (Some id) start x)) ≡ true
  named x t e =
      ap (is_of_type p t) (value_is x t (formals_stand p r.formals own (filter (λ n. sees (Some r) (Variable n.0)) p.variables) x t e))
      ∙ default_fits (shapes p) types (sort_of p.forms t)

  names_differ : all_differ same_name (map (λ f. f.name) r.formals ++ map (λ n. n.0) own) ≡ true
  names_differ = own_differ r (right_true (list_all (λ i. may_be_initial r i.1) r.initial) _ (right_true items_differ _ heading_end))

  formals_differ : all_differ same_name (map (λ f. f.name) r.formals) ≡ true
  formals_differ = differ_left same_name (map (λ f. f.name) r.formals) (map (λ n. n.0) own) names_differ

  areas_are : apart (Some r) start ≡ true
  areas_are = areas_differ p r.formals own r.globals names_differ (left_true items_differ _ heading_end)

  -- a state of defaults is a start
  pub routine_start : IsStart p (Some id) start
  routine_start = record {
    right = record { types = frame_of id r ∷ parameters_of id r ∷ []; inside = in_routine id r (parameters_of id r ∷ []) there; right = start_right p typed id r formals_differ };
    frame = ap (λ o. has_frame p (Some id) o start) there ∙ frame_is;
    names = λ x t e. named x t (ap (λ o. shown_type p o x) (sym there) ∙ e);
    heap = refl;
    areas = ap (λ o. apart o start) there ∙ areas_are;
  }
