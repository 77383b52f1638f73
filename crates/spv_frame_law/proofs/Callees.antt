-- Calls begin their routines in starts.
use Rattle.std.proofs.Common.{◌≡◌, ℕ, Bool, true, false, not, ◌&&◌, List, [], ◌∷◌, ◌++◌, ◌+◌, map, length, refl, sym, ap, subst, ◌∙◌, nat_eq, Option, Some, None, arith}
use Rattle.std.specs.List.{list_all, list_any}
use Rattle.std.specs.Cmp.Derive.{both_true}
use Rattle.std.proofs.lemmas.Bool.{false≢true}
use Rattle.std.proofs.lemmas.Bool.Decides.{nat_tests}
use Rattle.spv_logic.proofs.list.Tests.{left_true, right_true, left_false, right_false, both_false, and_false}
use Rattle.spv_logic.specs.declared.names.names.Symbol.{Symbol}
use Rattle.spv_logic.specs.declared.types.TypeId.{TypeId}
use Rattle.spv_logic.specs.declared.conditions.RoutineId.{RoutineId}
use Rattle.spv_logic.specs.Values.{Value}
use Rattle.spv_program.specs.declared.types.Item.{Item}
use Rattle.spv_program.specs.declared.types.Item.TheVariants.{Variable, Class}
use Rattle.spv_program.specs.Lists.{same_name, all_differ}
use Rattle.spv_program.specs.Types.{sort_of}
use Rattle.spv_program.specs.Expressions.{Arguments, call}
use Rattle.spv_program.specs.Programs.{Formal, GlobalItem, Routine, Program, shapes, routine_at, routine_in}
use Rattle.spv_program.specs.Scopes.{result_name, is_own}
use Rattle.spv_program.specs.Uses.{Root, Own, Shared, same_root}
use Rattle.spv_program.specs.Frames.{place_roots, is_item_of, roots_apart, globals_of, arguments_apart}
use Rattle.spv_program.specs.ExpressionTypes.{callee}
use Rattle.spv_program.specs.Typing.{item_exists, variables_among, scope_names, types_exist, result_ok, heading_ok, routine_ok, declarations_ok, well_typed}
use Rattle.spv_program.specs.Types.{type_exists, same_item}
use Rattle.spv_program.proofs.SortFacts.{is_sort-true, behind}
use Rattle.spv_meaning.specs.Places as places
use Rattle.spv_meaning.specs.Places.{Place, Binding, Frame, HeapRow, State, ProgramVariable, OwnValue, CellOf, Holding, Referring, whole}
use Rattle.spv_meaning.specs.Views.{sees}
use Rattle.spv_meaning.specs.Outcomes.{Ended}
use Rattle.spv_meaning.specs.Levels.{Here, Bound, choose_all, push}
use Rattle.spv_meaning.specs.Evaluation.{arguments}
use Rattle.spv_meaning.specs.FrameTypes.{FrameType, Slot, binding_right, formal_slot, frame_of, in_routine, names_right, own_slot, path_sort, place_sort, root_type, slots_of}
use Rattle.spv_meaning.specs.Starts.{Area, At, IsStart, overlap, bound_area, item_area, apart}
use Rattle.spv_meaning.proofs.Differing.{not_true, none_both, one_more, first_differs, others_differ, differ_front, differ_around, differ_with}
use Rattle.spv_meaning.proofs.Maps.{same_names, other_way}
use Rattle.spv_meaning.proofs.RightFrames.{names_append}
use Rattle.spv_meaning.proofs.RoutineStarts.{item_passes}
use Rattle.spv_preservation.proofs.Roots.{as_many}
use Rattle.spv_preservation.proofs.Places.{numbers_below}
use Rattle.spv_preservation.proofs.Frames.{all_chosen, pushed}
use Rattle.spv_preservation.proofs.Calls.{names_differ}
use Rattle.spv_preservation.proofs.Expressions.{is_callee}
use Rattle.spv_preservation.proofs.Starts.{right_is_start}
use Rattle.spv_writes.specs.Writes.{is_in_one, is_touched, is_kept_by}
use Rattle.spv_writes.proofs.Lists.{swapped}
use Rattle.spv_writes.proofs.Places.{places_swap, one_apart}
use Rattle.spv_frame_law.specs.Frames.{area_of_item, root_areas, areas_of, referred, refer_in_turn, root_shown, call_shown}
use Rattle.spv_frame_law.specs.Laws.{IsFramed, below_turns}
use Rattle.spv_frame_law.proofs.Covering.{items_same, refers_into, in_turn_all}
use Rattle.spv_frame_law.proofs.Names.{none_referred, own_by_value}
use Rattle.spv_frame_law.proofs.Apart.{overlap_swap, items_apart, area_is}
use Rattle.spv_frame_law.proofs.Sharing.{item_itself}
use Rattle.spv_frame_law.proofs.Levels.{arguments_bound, bound_rightly}
use Rattle.spv_frame_law.proofs.Views.{shown_apart}

-- ---- names of a frame

abbrev names_of : List (Symbol × Binding) → List Symbol
names_of names = map (λ n. n.0) names

-- the names of a routine's frame differ, since those of its scope do
frame_names_differ : (q : Routine) → all_differ same_name (scope_names q) ≡ true → all_differ same_name (map (λ f. f.name) q.formals ++ map (λ n. n.0) (result_name q.name q.result ++ q.locals)) ≡ true
frame_names_differ q differ = by_result q.result
  where
    formals : List Symbol
    formals = map (λ f. f.name) q.formals

    locals : List Symbol
    locals = map (λ n. n.0) q.locals

    initial : List Symbol
    initial = map (λ i. i.0) q.initial

    items : List Symbol
    items = variables_among (map (λ g. g.item) q.globals)

    all : all_differ same_name (q.name ∷ (formals ++ locals)) ≡ true
    all = differ_front same_name (q.name ∷ formals) locals items (differ_around same_name (q.name ∷ formals) initial (locals ++ items) differ)

    by_result : (o : Option TypeId) → all_differ same_name (formals ++ map (λ n. n.0) (result_name q.name o ++ q.locals)) ≡ true
    by_result None = others_differ same_name q.name (formals ++ locals) all
    by_result (Some t) = differ_with same_name other_way q.name formals locals (first_differs same_name q.name (formals ++ locals) all) (others_differ same_name q.name (formals ++ locals) all)

slot_names : (formals : List Formal) (own : List (Symbol × TypeId)) → map (λ s. s.name) (map formal_slot formals ++ map own_slot own) ≡ map (λ f. f.name) formals ++ map (λ n. n.0) own
slot_names [] [] = refl
slot_names [] (n ∷ own) = ap (λ (k : List Symbol). n.0 ∷ k) (slot_names [] own)
slot_names (f ∷ formals) own = ap (λ (k : List Symbol). f.name ∷ k) (slot_names formals own)

names_are : (p : Program) (older : List FrameType) (heap : List HeapRow) (slots : List Slot) (names : List (Symbol × Binding)) → names_right p older heap slots names ≡ true → map (λ s. s.name) slots ≡ names_of names
names_are p older heap [] [] right = refl
names_are p older heap [] (n ∷ names) right = absurd (false≢true right)
names_are p older heap (s ∷ slots) [] right = absurd (false≢true right)
names_are p older heap (s ∷ slots) (n ∷ names) right =
    let name = same_names s.name n.0 (left_true (same_name s.name n.0) _ right) in
    let rest = names_are p older heap slots names (right_true (binding_right p older heap s n.1) _ (right_true (same_name s.name n.0) _ right)) in
    λ i. name i ∷ rest i

-- what VAR parameters refer to lies not in the frame itself
abbrev refers_lower : ℕ → Symbol × Binding → Bool
refers_lower number (x, Holding v) = true
refers_lower number (x, Referring a) = not (is_kept_by number a.root)

kept_not : (p : Program) (types : List FrameType) (heap : List HeapRow) (r : places.Root) (t : TypeId) → root_type p types heap r ≡ Some t → is_kept_by (length types) r ≡ false
kept_not p types heap (ProgramVariable x) t told = refl
kept_not p types heap (OwnValue n x) t told = none n (length types) (numbers_below types n 0 x t told)
  where
    none : (n m : ℕ) → nat_eq n (m + 0) ≡ false → nat_eq n m ≡ false
    none n m e = grind (arith, nat_tests)
kept_not p types heap (CellOf cell) t told = refl

all_lower : (p : Program) (types : List FrameType) (heap : List HeapRow) (slots : List Slot) (names : List (Symbol × Binding)) → names_right p types heap slots names ≡ true → list_all (refers_lower (length types)) names ≡ true
all_lower p types heap [] [] right = refl
all_lower p types heap [] (n ∷ names) right = absurd (false≢true right)
all_lower p types heap (s ∷ slots) [] right = absurd (false≢true right)
all_lower p types heap (s ∷ slots) ((x, b) ∷ names) right =
    both_true (by_binding b (left_true (binding_right p types heap s b) _ rest)) (all_lower p types heap slots names (right_true (binding_right p types heap s b) _ rest))
  where
    rest : (binding_right p types heap s b && names_right p types heap slots names) ≡ true
    rest = right_true (same_name s.name x) _ right

    by_binding : (b : Binding) → binding_right p types heap s b ≡ true → refers_lower (length types) (x, b) ≡ true
    by_binding (Holding v) h = refl
    by_binding (Referring a) h =
        let told = is_sort-true (sort_of p.forms s.of) (place_sort p types heap a) (right_true s.by_place _ h) in
        let r = behind (λ t. path_sort (shapes p) (sort_of p.forms t) a.path) (root_type p types heap a.root) (sort_of p.forms s.of) told in
        ap not (kept_not p types heap a.root r.item r.is)

in_turn_front : (heap : List HeapRow) (frames : List Frame) (names own : List (Symbol × Binding)) (roots : List Root) → referred own ≡ [] → refer_in_turn heap frames names roots ≡ true → refer_in_turn heap frames (names ++ own) roots ≡ true
in_turn_front heap frames [] own [] none h = alone own none
  where
    never : (a : Place) (areas : List Area) → At a ∷ areas ≡ [] → ⊥
    never a areas e = cc

    alone : (own : List (Symbol × Binding)) → referred own ≡ [] → refer_in_turn heap frames own [] ≡ true
    alone [] none = refl
    alone ((x, Holding v) ∷ own) none = alone own none
    alone ((x, Referring a) ∷ own) none = absurd (never a (referred own) none)
in_turn_front heap frames [] own (root ∷ roots) none h = absurd (false≢true h)
in_turn_front heap frames ((x, Holding v) ∷ names) own roots none h = in_turn_front heap frames names own roots none h
in_turn_front heap frames ((x, Referring a) ∷ names) own [] none h = absurd (false≢true h)
in_turn_front heap frames ((x, Referring a) ∷ names) own (root ∷ roots) none h =
    both_true (left_true (is_in_one heap (root_areas frames root) a) _ h) (in_turn_front heap frames names own roots none (right_true (is_in_one heap (root_areas frames root) a) _ h))

-- ---- areas of a new frame

module _ (heap : List HeapRow) (number : ℕ) (globals : List GlobalItem) where
  abbrev here : Symbol → Place
  here x = whole (OwnValue number x)

  abbrev Apart : Area → List Area → Type 0
  Apart a areas = list_any (overlap heap a) areas ≡ false

  with_true : (b : Bool) → b ≡ false → (b && true) ≡ false
  with_true b h = ap (λ c. c && true) h

  -- a value that the frame keeps
  own_over_names : (x : Symbol) (names : List (Symbol × Binding)) → list_any (same_name x) (names_of names) ≡ false → list_all (refers_lower number) names ≡ true → Apart (At (here x)) (map (bound_area number) names)
  own_over_names x [] other lower = refl
  own_over_names x ((y, b) ∷ names) other lower =
      both_false (overlap heap (At (here x)) (bound_area number (y, b))) (list_any (overlap heap (At (here x))) (map (bound_area number) names))
      (by_binding b (left_true (refers_lower number (y, b)) _ lower)) (own_over_names x names (right_false (same_name x y) _ other) (right_true (refers_lower number (y, b)) _ lower))
    where
      by_root : (r : places.Root) (path : List places.PathStep) → not (is_kept_by number r) ≡ true → overlap heap (At (here x)) (At (record { root = r; path = path })) ≡ false
      by_root (ProgramVariable z) path h = refl
      by_root (OwnValue n z) path h = never (nat_eq number n) (number_other n number (not_true (nat_eq n number) h))
        where
          number_other : (n m : ℕ) → nat_eq n m ≡ false → nat_eq m n ≡ false
          number_other n m e = grind (arith, nat_tests)

          never : (b : Bool) → b ≡ false → ((b && same_name x z) && true) ≡ false
          never true h = absurd (false≢true (sym h))
          never false h = refl
      by_root (CellOf cell) path h = refl

      by_binding : (b : Binding) → refers_lower number (y, b) ≡ true → overlap heap (At (here x)) (bound_area number (y, b)) ≡ false
      by_binding (Holding w) h = with_true (nat_eq number number && same_name x y) (and_false (nat_eq number number) (same_name x y) (left_false (same_name x y) _ other))
      by_binding (Referring a) h = by_root a.root a.path h

  own_over_items : (x : Symbol) (globals : List GlobalItem) → Apart (At (here x)) (map item_area globals)
  own_over_items x [] = refl
  own_over_items x (g ∷ globals) =
      both_false (overlap heap (At (here x)) (item_area g)) (list_any (overlap heap (At (here x))) (map item_area globals)) (ap (overlap heap (At (here x))) (area_is g) ∙ of_item g.item) (own_over_items x globals)
    where
      of_item : (i : Item) → overlap heap (At (here x)) (area_of_item i) ≡ false
      of_item (Variable y) = refl
      of_item (Class t) = refl

  -- a place that a VAR parameter refers to
  place_over_names : (areas : List Area) (a : Place) → is_kept_by number a.root ≡ false → is_touched heap areas (At a) ≡ false → (names : List (Symbol × Binding)) → list_all (refers_into heap areas) names ≡ true → Apart (At a) (map (bound_area number) names)
  place_over_names areas a lower none [] all = refl
  place_over_names areas a lower none ((y, Holding w) ∷ names) all =
      both_false (overlap heap (At a) (At (here y))) (list_any (overlap heap (At a)) (map (bound_area number) names)) (by_root a.root a.path lower) (place_over_names areas a lower none names all)
    where
      by_root : (r : places.Root) (path : List places.PathStep) → is_kept_by number r ≡ false → overlap heap (At (record { root = r; path = path })) (At (here y)) ≡ false
      by_root (ProgramVariable z) path h = refl
      by_root (OwnValue n z) path h = never (nat_eq n number) h _
        where
          never : (b : Bool) → b ≡ false → (c : Bool) → ((b && same_name z y) && c) ≡ false
          never true h c = absurd (false≢true (sym h))
          never false h c = refl
      by_root (CellOf cell) path h = refl
  place_over_names areas a lower none ((y, Referring b) ∷ names) all =
      both_false (overlap heap (At a) (At b)) (list_any (overlap heap (At a)) (map (bound_area number) names))
      (places_swap a b ∙ one_apart heap areas b a (left_true (is_in_one heap areas b) _ all) none) (place_over_names areas a lower none names (right_true (is_in_one heap areas b) _ all))

  place_over_items : (frames : List Frame) (a : Place) (globals : List GlobalItem) → is_touched heap (areas_of frames (map Shared (map (λ g. g.item) globals))) (At a) ≡ false → Apart (At a) (map item_area globals)
  place_over_items frames a [] none = refl
  place_over_items frames a (g ∷ globals) none =
      both_false (overlap heap (At a) (item_area g)) (list_any (overlap heap (At a)) (map item_area globals))
      (ap (overlap heap (At a)) (area_is g) ∙ (overlap_swap heap (At a) (area_of_item g.item) ∙ left_false (overlap heap (area_of_item g.item) (At a)) _ none))
      (place_over_items frames a globals (right_false (overlap heap (area_of_item g.item) (At a)) _ none))

  -- items of the program
  items_differ : (globals : List GlobalItem) → all_differ same_item (map (λ g. g.item) globals) ≡ true → all_differ (overlap heap) (map item_area globals) ≡ true
  items_differ [] h = refl
  items_differ (g ∷ globals) h =
      one_more (overlap heap) (item_area g) (map item_area globals) (each globals (first_differs same_item g.item (map (λ g. g.item) globals) h)) (items_differ globals (others_differ same_item g.item (map (λ g. g.item) globals) h))
    where
      each : (globals : List GlobalItem) → list_any (same_item g.item) (map (λ g. g.item) globals) ≡ false → Apart (item_area g) (map item_area globals)
      each [] none = refl
      each (k ∷ globals) none =
          both_false (overlap heap (item_area g) (item_area k)) (list_any (overlap heap (item_area g)) (map item_area globals))
          ((λ i. overlap heap (area_is g i) (area_is k i)) ∙ items_apart heap g.item k.item (left_false (same_item g.item k.item) _ none))
          (each globals (right_false (same_item g.item k.item) _ none))

  -- all of them
  pub all_apart : (frames : List Frame) (shown : Root → Bool)
      → ((root : Root) → shown root ≡ true → (others : List Root) → list_all shown others ≡ true → list_any (same_root root) others ≡ false → (a : Place) → is_in_one heap (root_areas frames root) a ≡ true → is_touched heap (areas_of frames others) (At a) ≡ false)
      → all_differ same_item (map (λ g. g.item) globals) ≡ true → list_all shown (map Shared (map (λ g. g.item) globals)) ≡ true
      → (names : List (Symbol × Binding)) (roots : List Root) → refer_in_turn heap frames names roots ≡ true → all_differ same_name (names_of names) ≡ true → list_all (refers_lower number) names ≡ true
      → all_differ same_root roots ≡ true → list_all shown roots ≡ true → list_any (λ r. list_any (same_root r) (map Shared (map (λ g. g.item) globals))) roots ≡ false
      → all_differ (overlap heap) (map (bound_area number) names ++ map item_area globals) ≡ true
  all_apart frames shown touch items seen [] roots turn differ lower apart all none = items_differ globals items
  all_apart frames shown touch items seen ((x, Holding v) ∷ names) roots turn differ lower apart all none =
      one_more (overlap heap) (At (here x)) (map (bound_area number) names ++ map item_area globals)
      (none_both (overlap heap (At (here x))) (map (bound_area number) names) (map item_area globals) (own_over_names x names (first_differs same_name x (names_of names) differ) lower) (own_over_items x globals))
      (all_apart frames shown touch items seen names roots turn (others_differ same_name x (names_of names) differ) lower apart all none)
  all_apart frames shown touch items seen ((x, Referring a) ∷ names) [] turn differ lower apart all none = absurd (false≢true turn)
  all_apart frames shown touch items seen ((x, Referring a) ∷ names) (root ∷ roots) turn differ lower apart all none =
      let inside = left_true (is_in_one heap (root_areas frames root) a) _ turn in
      let rest = right_true (is_in_one heap (root_areas frames root) a) _ turn in
      let shows = left_true (shown root) _ all in
      let below = not_true (is_kept_by number a.root) (left_true (not (is_kept_by number a.root)) _ lower) in
      one_more (overlap heap) (At a) (map (bound_area number) names ++ map item_area globals)
      (none_both (overlap heap (At a)) (map (bound_area number) names) (map item_area globals)
      (place_over_names (areas_of frames roots) a below (touch root shows roots (right_true (shown root) _ all) (first_differs same_root root roots apart) a inside) names (in_turn_all heap frames names roots rest))
      (place_over_items frames a globals (touch root shows (map Shared (map (λ g. g.item) globals)) seen (left_false (list_any (same_root root) (map Shared (map (λ g. g.item) globals))) _ none) a inside)))
      (all_apart frames shown touch items seen names roots rest (others_differ same_name x (names_of names) differ) (right_true (not (is_kept_by number a.root)) _ lower) (others_differ same_root root roots apart) (right_true (shown root) _ all) (right_false (list_any (same_root root) (map Shared (map (λ g. g.item) globals))) _ none))

-- ---- what a call's test says

-- a root that is no item of a list
pub no_item_of : (globals : List GlobalItem) (r : Root) → is_item_of globals r ≡ false → list_any (same_root r) (map Shared (map (λ g. g.item) globals)) ≡ false
no_item_of [] r h = refl
no_item_of (g ∷ globals) (Own x) h = no_item_of globals (Own x) h
no_item_of (g ∷ globals) (Shared i) h =
    both_false (same_item i g.item) (list_any (same_root (Shared i)) (map Shared (map (λ g. g.item) globals))) (swapped same_item items_same item_itself i g.item ∙ left_false (same_item g.item i) _ h)
    (no_item_of globals (Shared i) (right_false (same_item g.item i) _ h))

pub no_items_of : (globals : List GlobalItem) (roots : List Root) → list_any (is_item_of globals) roots ≡ false → list_any (λ r. list_any (same_root r) (map Shared (map (λ g. g.item) globals))) roots ≡ false
no_items_of globals [] h = refl
no_items_of globals (r ∷ roots) h =
    both_false (list_any (same_root r) (map Shared (map (λ g. g.item) globals))) (list_any (λ r. list_any (same_root r) (map Shared (map (λ g. g.item) globals))) roots)
    (no_item_of globals r (left_false (is_item_of globals r) _ h)) (no_items_of globals roots (right_false (is_item_of globals r) _ h))

pub shown_items : (here : Option Routine) (globals : List GlobalItem) → list_all (λ g. sees here g.item) globals ≡ true → list_all (root_shown here) (map Shared (map (λ g. g.item) globals)) ≡ true
shown_items here [] h = refl
shown_items here (g ∷ globals) h = both_true (left_true (sees here g.item) _ h) (shown_items here globals (right_true (sees here g.item) _ h))

pub globals_differ : (p : Program) → well_typed p ≡ true → (id : RoutineId) (q : Routine) → routine_at p id ≡ Some q → all_differ same_item (map (λ g. g.item) q.globals) ≡ true
globals_differ p typed id q there =
    let ok = item_passes (routine_ok p) p.routines id.0 q (left_true (list_all (routine_ok p) p.routines) _ (right_true (declarations_ok p) _ typed)) there in
    left_true (all_differ same_item (map (λ g. g.item) q.globals)) _
    (right_true (list_all (λ g. item_exists p g.item) q.globals) _
    (right_true (types_exist p q.locals) _
    (right_true (result_ok p q.result) _
    (right_true (list_all (λ f. type_exists p.forms f.of) q.formals) _ (left_true (heading_ok p q) _ ok)))))

-- ---- calls

module _ (p : Program) (f : IsFramed p) (here : Here) (state : State) (start : IsStart p here.routine state) (id : RoutineId) (given : Arguments) (q : Routine) (there : routine_at p id ≡ Some q) where
  abbrev r : Option Routine
  r = routine_in p here.routine

  -- the callee's areas in its new frame
  new_apart : roots_apart q.globals (place_roots (is_own r) given) ≡ true → list_all (root_shown r) (place_roots (is_own r) given) ≡ true → list_all (λ g. sees r g.item) q.globals ≡ true
      → (names : List (Symbol × Binding)) → refer_in_turn state.heap state.frames names (place_roots (is_own r) given) ≡ true → names_right p start.right.types state.heap (slots_of q) names ≡ true
      → apart (Some q) (push id names state) ≡ true
  new_apart test shown seen names turn right =
      let roots = place_roots (is_own r) given in
      let many : length start.right.types ≡ length state.frames = sym (as_many p start.right.types state.heap state.frames start.right.right.frames) in
      all_apart state.heap (length state.frames) q.globals state.frames (root_shown r)
      (λ root ok others all other a inside. shown_apart p here.routine state start root ok others all other a inside)
      (globals_differ p f.typed id q there) (shown_items r q.globals seen) names roots turn
      (ap (all_differ same_name) (sym (names_are p start.right.types state.heap (slots_of q) names right)) ∙ (ap (all_differ same_name) (slot_names q.formals (result_name q.name q.result ++ q.locals)) ∙ frame_names_differ q (names_differ p f.typed id q there)))
      (ap (λ n. list_all (refers_lower n) names) (sym many) ∙ all_lower p start.right.types state.heap (slots_of q) names right)
      (left_true (all_differ same_root roots) _ test) shown
      (no_items_of q.globals roots (not_true (list_any (is_item_of q.globals) roots) (right_true (all_differ same_root roots) _ test)))

-- from a start a call begins its routine in a start
pub call_begins : (p : Program) → IsFramed p → (here : Here) (state : State) → IsStart p here.routine state → (id : RoutineId) (line : ℕ) (given : Arguments) (q : Routine) → callee p (routine_in p here.routine) (call id line given) ≡ Some q
    → arguments_apart p (routine_in p here.routine) (call id line given) ≡ true → call_shown p (routine_in p here.routine) (call id line given) ≡ true
    → (turns : ℕ) (choices : List Value) (bound : Bound) → (arguments p (below_turns p turns) here q.formals given state choices).end ≡ Ended bound
    → (others : List Value) (own : List (Symbol × Binding)) → (choose_all p (result_name q.name q.result ++ q.locals) others).end ≡ Ended own
    → IsStart p (Some id) (push id (bound.names ++ own) bound.state)
call_begins p f here state start id line given q found test shown turns choices bound ended others own chosen =
    let is = is_callee p (routine_in p here.routine) id line given q found in
    let types = start.right.types in
    let b = arguments_bound p f here types start.right.inside q.formals given is.fit state start.right.right turns choices bound ended in
    let rightly = bound_rightly p f here types start.right.inside q.formals given is.fit state start.right.right turns choices bound ended in
    let names : List (Symbol × TypeId) = result_name q.name q.result ++ q.locals in
    let own_right = (all_chosen p types bound.state.heap names others).holds own chosen in
    let all_right_names = names_append p types bound.state.heap (map formal_slot q.formals) (map own_slot names) bound.names own rightly.names own_right in
    let left = pushed p id q types state.heap bound.state (bound.names ++ own) rightly.leaves all_right_names in
    right_is_start p (Some id) (push id (bound.names ++ own) bound.state) (record { types = frame_of id q ∷ types; inside = in_routine id q types is.there; right = left.right })
    (ap (λ o. apart o (push id (bound.names ++ own) bound.state)) is.there
    ∙ (ap (λ x. apart (Some q) (push id (bound.names ++ own) x)) b.same
    ∙ new_apart p f here state start id given q is.there (sym (ap (λ o. roots_apart (globals_of o) (place_roots (is_own (routine_in p here.routine)) given)) is.there) ∙ test)
    (left_true (list_all (root_shown (routine_in p here.routine)) (place_roots (is_own (routine_in p here.routine)) given)) _ shown)
    (sym (ap (λ o. list_all (λ g. sees (routine_in p here.routine) g.item) (globals_of o)) is.there) ∙ right_true (list_all (root_shown (routine_in p here.routine)) (place_roots (is_own (routine_in p here.routine)) given)) _ shown)
    (bound.names ++ own)
    (in_turn_front state.heap state.frames bound.names own (place_roots (is_own (routine_in p here.routine)) given) (none_referred p types bound.state.heap (map own_slot names) own (own_by_value names) own_right) b.names)
    (subst (λ x. names_right p types x.heap (slots_of q) (bound.names ++ own) ≡ true) b.same all_right_names)))
