-- The places of VAR arguments, each written by itself.
use Rattle.std.proofs.Common.{◌≡◌, Bool, true, false, cond, not, ◌||◌, List, [], ◌∷◌, map, refl, sym, ap, ◌∙◌, Option, Some}
use Rattle.std.specs.List.{list_all, list_any}
use Rattle.std.specs.Cmp.Derive.{both_true}
use Rattle.std.proofs.lemmas.Bool.{eq-eqb}
use Rattle.spv_logic.proofs.list.Tests.{left_true, right_true, left_false, right_false, both_false}
use Rattle.spv_logic.specs.declared.names.names.Symbol.{Symbol}
use Rattle.spv_logic.specs.declared.types.TypeId.{TypeId}
use Rattle.spv_logic.specs.declared.types.Sort.{Sort}
use Rattle.spv_logic.specs.declared.operators.Head.{Head}
use Rattle.spv_logic.specs.declared.operators.Head.TheVariants as head
use Rattle.spv_logic.specs.Values.{Value, pointer_of}
use Rattle.spv_logic.specs.Terms.{Term, eval}
use Rattle.spv_logic.specs.Conditions.{Meaning, Valuation, View, Shows}
use Rattle.spv_program.specs.declared.types.Item.{Item}
use Rattle.spv_program.specs.declared.types.Item.TheVariants.{Class}
use Rattle.spv_program.specs.Lists.{same_name, found, all_differ}
use Rattle.spv_program.specs.Types.{sort_of}
use Rattle.spv_program.specs.Places.{present}
use Rattle.spv_program.specs.Programs.{Formal, Routine, Program, routine_in}
use Rattle.spv_program.specs.Scopes.{is_own}
use Rattle.spv_program.specs.Changes.{var_items}
use Rattle.spv_program.specs.Uses.{Root, Own, Shared, same_root, name_root}
use Rattle.spv_program.specs.Calls.{Argument, Given, AtPlace}
use Rattle.spv_program.proofs.SortFacts.{nothing_there, is_sort-true}
use Rattle.spv_meaning.specs.Places.{PathStep, Place, Binding, Frame, HeapRow, State, CellOf, Holding, Referring, whole, row_of, look}
use Rattle.spv_meaning.specs.Views.{place_of, sees, now_view}
use Rattle.spv_meaning.specs.Evaluation.{is_cell_of}
use Rattle.spv_meaning.specs.Levels.{Here}
use Rattle.spv_meaning.specs.FrameTypes.{formal_slot, binding_right, names_right, place_sort}
use Rattle.spv_meaning.specs.Starts.{Area, At, CellsOf, same_root as same_place_root, IsStart, overlap}
use Rattle.spv_meaning.proofs.Differing.{first_differs, others_differ}
use Rattle.spv_meaning.proofs.Maps.{same_names}
use Rattle.spv_preservation.proofs.Roots.{place_there}
use Rattle.spv_rule_soundness.specs.statements.Truth.{meaning_in}
use Rattle.spv_writes.specs.Writes.{Writes, part_of, is_below, is_in, is_in_one, is_touched, lies_below}
use Rattle.spv_writes.proofs.Lists.{or_left, or_right, any_left, all_both, swapped}
use Rattle.spv_writes.proofs.Places.{root_itself, below_itself, one_apart, one_no_class}
use Rattle.spv_frame_law.specs.Frames.{area_of_item, root_areas, areas_of, referred, refer_in_turn, call_areas, root_shown}
use Rattle.spv_frame_law.specs.Laws.{IsFramed}
use Rattle.spv_frame_law.proofs.Covering.{roots_alike, refers_into, more_areas, in_turn_all}
use Rattle.spv_frame_law.proofs.Names.{name_in}
use Rattle.spv_frame_law.proofs.Sharing.{item_itself}
use Rattle.spv_frame_law.proofs.Views.{shown_apart, untouched}
use Rattle.spv_call_evaluation.specs.Known.{Knows}
use Rattle.spv_call_evaluation.specs.Lying.{step_at, BeginsAt, AtName, AtCell, AreBound, NoneBound, ValueBound, PlaceBound}
use Rattle.spv_program_soundness.proofs.Roots.{IsRootOf, OfName, OfClass}
use Rattle.spv_program_soundness.proofs.Staying.{AreRoots, OneRoot, root_shows, all_show}
use Rattle.spv_program_soundness.proofs.Written.{OnlyThere, root_after}
use Rattle.spv_program_soundness.proofs.Changed.{AreWritten, NoneWritten, ValueGiven, PlaceWritten}

-- ---- areas that lie elsewhere

-- an area that does not overlap another, or lies within it
module _ (heap : List HeapRow) (target : Area) (within : Area → Bool) where
  away : (b : Area) → overlap heap b target ≡ false → (not (overlap heap b target) || within b) ≡ true
  away b h = ap (λ c. not c || within b) h

  pub inside : (b : Area) → within b ≡ true → (not (overlap heap b target) || within b) ≡ true
  inside b h = or_right (not (overlap heap b target)) (within b) h

  -- places that names refer to in areas that do not touch the target
  pub names_away : (areas : List Area) → is_touched heap areas target ≡ false → (names : List (Symbol × Binding)) → list_all (refers_into heap areas) names ≡ true → list_all (λ b. not (overlap heap b target) || within b) (referred names) ≡ true
  names_away areas none [] all = refl
  names_away areas none ((x, Holding v) ∷ names) all = names_away areas none names all
  names_away areas none ((x, Referring b) ∷ names) all =
      both_true (away (At b) (apart_from target none)) (names_away areas none names (right_true (is_in_one heap areas b) _ all))
    where
      apart_from : (t : Area) → is_touched heap areas t ≡ false → overlap heap (At b) t ≡ false
      apart_from (At a) none = one_apart heap areas b a (left_true (is_in_one heap areas b) _ all) none
      apart_from (CellsOf c) none = one_no_class heap areas b c (left_true (is_in_one heap areas b) _ all) none

  pub items_away : (frames : List Frame) (items : List Item) → is_touched heap (areas_of frames (map Shared items)) target ≡ false → list_all (λ b. not (overlap heap b target) || within b) (map area_of_item items) ≡ true
  items_away frames [] none = refl
  items_away frames (i ∷ items) none =
      both_true (away (area_of_item i) (left_false (overlap heap (area_of_item i) target) _ none)) (items_away frames items (right_false (overlap heap (area_of_item i) target) _ none))

-- where a place begins it lies in the areas of its root
begins_in : (p : Program) (symbols : Meaning) (u : Valuation) (here : Here) (state : State) → IsStart p here.routine state → (root : Root) (h : Head) → IsRootOf p (routine_in p here.routine) root h → (k : Head) → k ≡ h → (pointer : Option Term) (beginning : Place) → BeginsAt p symbols u here state k pointer beginning
    → is_in_one state.heap (root_areas state.frames root) beginning ≡ true
begins_in p symbols u here state start _ _ (OfName x t told seen) _ same _ _ (AtName y s told_y seen_y) =
    ap (λ (z : Symbol). is_in_one state.heap (root_areas state.frames (name_root (is_own (routine_in p here.routine)) x)) (place_of here.routine state z)) (one_name y x (sort_of p.forms s) (sort_of p.forms t) same)
    ∙ name_in p here.routine start.right.types start.right.inside state start.right.right x
  where
    one_name : (x y : Symbol) (s t : Sort) → head.Var x s 0 ≡ head.Var y t 0 → x ≡ y
    one_name x y s t e = cc
begins_in p symbols u here state start _ _ (OfName x t told seen) _ same _ _ (AtCell c q seen_c found_c) = absurd (other c x (sort_of p.forms t) same)
  where
    other : (c : TypeId) (x : Symbol) (s : Sort) → head.ClassVar c 0 ≡ head.Var x s 0 → ⊥
    other c x s e = cc
begins_in p symbols u here state start _ _ (OfClass c there seen) _ same _ _ (AtName y s told_y seen_y) = absurd (other c y (sort_of p.forms s) same)
  where
    other : (c : TypeId) (x : Symbol) (s : Sort) → head.Var x s 0 ≡ head.ClassVar c 0 → ⊥
    other c x s e = cc
begins_in p symbols u here state start _ _ (OfClass c there seen) _ same _ _ (AtCell k q seen_k found_k) =
    or_left _ false (ap (λ (z : TypeId). is_cell_of z (row_of state.heap (pointer_of (eval symbols u q)))) (sym (one_class k c same)) ∙ found_k)
  where
    one_class : (k c : TypeId) → head.ClassVar k 0 ≡ head.ClassVar c 0 → k ≡ c
    one_class k c e = cc

-- the root of a class's head
class_root : (p : Program) (r : Option Routine) (root : Root) (h : Head) → IsRootOf p r root h → (c : TypeId) → h ≡ head.ClassVar c 0 → root ≡ Shared (Class c)
class_root p r _ _ (OfName x t told seen) c e = absurd (other c x (sort_of p.forms t) e)
  where
    other : (c : TypeId) (x : Symbol) (s : Sort) → head.Var x s 0 ≡ head.ClassVar c 0 → ⊥
    other c x s e = cc
class_root p r _ _ (OfClass k there seen) c e = ap (λ (z : TypeId). Shared (Class z)) (one_class k c e)
  where
    one_class : (k c : TypeId) → head.ClassVar k 0 ≡ head.ClassVar c 0 → k ≡ c
    one_class k c e = cc

class_sees : (p : Program) (r : Option Routine) (root : Root) (h : Head) → IsRootOf p r root h → (c : TypeId) → root ≡ Shared (Class c) → sees r (Class c) ≡ true
class_sees p r root h is c e = ap (root_shown r) (sym e) ∙ root_shows p r root h is

-- ---- roots that differ

root_same : (r : Root) → same_root r r ≡ true
root_same (Own x) = eq-eqb x.0 x.0 refl
root_same (Shared i) = item_itself i

not_among : (root : Root) (front roots : List Root) → list_any (same_root root) roots ≡ false → list_any (λ r. list_any (same_root r) front) roots ≡ false → list_any (λ r. list_any (same_root r) (root ∷ front)) roots ≡ false
not_among root front [] one more = refl
not_among root front (r ∷ roots) one more =
    both_false (list_any (same_root r) (root ∷ front)) _
    (both_false (same_root r root) _ (swapped same_root roots_alike root_same r root ∙ left_false (same_root root r) _ one) (left_false (list_any (same_root r) front) _ more))
    (not_among root front roots (right_false (same_root root r) _ one) (right_false (list_any (same_root r) front) _ more))

-- ---- the roots of arguments

-- the roots of the places among arguments
abbrev pub place_heads : List Argument → List Head
place_heads [] = []
place_heads (Given t ∷ arguments) = place_heads arguments
place_heads (AtPlace d ∷ arguments) = d.root ∷ place_heads arguments

module _ (p : Program) (f : IsFramed p) (here : Here) (state : State) (start : IsStart p here.routine state) (q : Routine) (all : List (Symbol × Binding)) (after : State) (wrote : Writes p (call_areas all q) state after)
    (world : Meaning) (window : View) (u : Valuation) (knows : Knows p (meaning_in p world) here state window u) (shows : Shows (now_view p here.routine state) u) (source : Valuation) where
  abbrev types_of : List Formal → List (Symbol × TypeId)
  types_of formals = map (λ f. (f.name, f.of)) formals

  -- what a VAR parameter refers to holds afterwards what the parameter shows at the end
  pub record EndsAt (x : Symbol) (t : TypeId) (a : Place) : Type 0 where
    pub value : Value
    pub holds : look after a ≡ Some value
    pub is : source (head.Var x (sort_of p.forms t) 0) ≡ value

  -- names and parameters that are left, behind others
  record Looked (names : List (Symbol × Binding)) (formals : List Formal) : Type 0 where
    name : (x : Symbol) (b : Binding) (t : TypeId) → found names x ≡ Some b → found (map (λ f. (f.name, f.of)) formals) x ≡ Some t → found all x ≡ Some b
    type : (x : Symbol) (t : TypeId) → found (map (λ f. (f.name, f.of)) formals) x ≡ Some t → found (map (λ f. (f.name, f.of)) q.formals) x ≡ Some t

  not_first : (x y : Symbol) (t : TypeId) (formals : List Formal) → list_any (same_name x) (map (λ f. f.name) formals) ≡ false → found (map (λ f. (f.name, f.of)) formals) y ≡ Some t → same_name x y ≡ false
  not_first x y t [] none e = absurd (nothing_there e)
  not_first x y t (g ∷ formals) none e = by_name (same_name g.name y) refl e (not_first x y t formals (right_false (same_name x g.name) _ none))
    where
      by_name : (b : Bool) → same_name g.name y ≡ b → cond b (Some g.of) (found (map (λ f. (f.name, f.of)) formals) y) ≡ Some t → (found (map (λ f. (f.name, f.of)) formals) y ≡ Some t → same_name x y ≡ false) → same_name x y ≡ false
      by_name true is e later = ap (same_name x) (sym (same_names g.name y is)) ∙ left_false (same_name x g.name) _ none
      by_name false is e later = later e

  looked_on : (f : Formal) (b : Binding) (names : List (Symbol × Binding)) (formals : List Formal) → all_differ same_name (map (λ f. f.name) (f ∷ formals)) ≡ true → Looked ((f.name, b) ∷ names) (f ∷ formals) → Looked names formals
  looked_on f b names formals differ looked =
      let none = first_differs same_name f.name (map (λ f. f.name) formals) differ in
      record {
        name = λ x c t there type.
            let other = not_first f.name x t formals none type in
            looked.name x c t (ap (λ k. cond k (Some b) (found names x)) other ∙ there) (ap (λ k. cond k (Some f.of) (found (map (λ f. (f.name, f.of)) formals) x)) other ∙ type);
        type = λ x t type.
            looked.type x t (ap (λ k. cond k (Some f.of) (found (map (λ f. (f.name, f.of)) formals) x)) (not_first f.name x t formals none type) ∙ type);
      }

  -- what was written before, and what is still to be written
  record Front (names : List (Symbol × Binding)) (roots : List Root) : Type 0 where
    before : List (Symbol × Binding)
    before_roots : List Root
    refer : list_all (refers_into state.heap (areas_of state.frames before_roots)) before ≡ true
    shown : list_all (root_shown (routine_in p here.routine)) before_roots ≡ true
    apart : list_any (λ r. list_any (same_root r) before_roots) roots ≡ false
    total : (test : Area → Bool) → list_all test (referred before) ≡ true → list_all test (referred names) ≡ true → list_all test (map area_of_item (var_items q.globals)) ≡ true → list_all test (call_areas all q) ≡ true

  module _ (ends : (x : Symbol) (t : TypeId) (a : Place) → found all x ≡ Some (Referring a) → found (map (λ f. (f.name, f.of)) q.formals) x ≡ Some t → EndsAt x t a) (items_shown : list_all (root_shown (routine_in p here.routine)) (map Shared (var_items q.globals)) ≡ true) where
    -- one place, where all others lie elsewhere
    only : (root : Root) (h : Head) → IsRootOf p (routine_in p here.routine) root h → (x : Symbol) (a : Place) (names : List (Symbol × Binding)) (roots : List Root) → list_all (root_shown (routine_in p here.routine)) roots ≡ true
        → refer_in_turn state.heap state.frames names roots ≡ true → list_any (same_root root) roots ≡ false → list_any (same_root root) (map Shared (var_items q.globals)) ≡ false → Front ((x, Referring a) ∷ names) (root ∷ roots)
        → (pointer : Option Term) (beginning : Place) → BeginsAt p (meaning_in p world) u here state h pointer beginning → (path : List PathStep) → a ≡ part_of beginning path → OnlyThere state.heap (call_areas all q) h beginning path
    only root h is x a names roots roots_shown turn other no_item front pointer beginning begins path place = record {
      below = fine (At beginning) (lies_below (part_of beginning path)) (ap (is_below a) (sym place) ∙ below_itself a)
          (λ others seen none. shown_apart p here.routine state start root shown others seen none beginning (begins_in p (meaning_in p world) u here state start root h is h refl pointer beginning begins));
      cell = λ c cell class there.
          let same = class_root p (routine_in p here.routine) root h is c class in
          fine (CellsOf c) (lies_below (whole (CellOf cell))) (both_true (ap (λ (b : Place). same_place_root (CellOf cell) b.root) place ∙ (ap (λ (b : Place). same_place_root (CellOf cell) b.root) there ∙ root_itself (CellOf cell))) refl)
          (λ others seen none. (untouched p here.routine state start others seen).class c (class_sees p (routine_in p here.routine) root h is c same) (ap (λ (r : Root). list_any (same_root r) others) (sym same) ∙ none));
    }
      where
        shown : root_shown (routine_in p here.routine) root ≡ true
        shown = root_shows p (routine_in p here.routine) root h is

        fine : (target : Area) (within : Area → Bool) → within (At a) ≡ true
            → ((others : List Root) → list_all (root_shown (routine_in p here.routine)) others ≡ true → list_any (same_root root) others ≡ false → is_touched state.heap (areas_of state.frames others) target ≡ false)
            → list_all (λ b. not (overlap state.heap b target) || within b) (call_areas all q) ≡ true
        fine target within itself clear =
            front.total (λ b. not (overlap state.heap b target) || within b)
            (names_away state.heap target within (areas_of state.frames front.before_roots) (clear front.before_roots front.shown (left_false (list_any (same_root root) front.before_roots) _ front.apart)) front.before front.refer)
            (both_true (inside state.heap target within (At a) itself) (names_away state.heap target within (areas_of state.frames roots) (clear roots roots_shown other) names (in_turn_all state.heap state.frames names roots turn)))
            (items_away state.heap target within state.frames (var_items q.globals) (clear (map Shared (var_items q.globals)) items_shown no_item))

    front_on : (root : Root) (x : Symbol) (a : Place) (names : List (Symbol × Binding)) (roots : List Root) → root_shown (routine_in p here.routine) root ≡ true → is_in_one state.heap (root_areas state.frames root) a ≡ true → list_any (same_root root) roots ≡ false
        → Front ((x, Referring a) ∷ names) (root ∷ roots) → Front names roots
    front_on root x a names roots shown inside other front = record {
      before = (x, Referring a) ∷ front.before;
      before_roots = root ∷ front.before_roots;
      refer = both_true (any_left (is_in state.heap a) (root_areas state.frames root) (areas_of state.frames front.before_roots) inside) (more_areas state.heap (root_areas state.frames root) (areas_of state.frames front.before_roots) front.before front.refer);
      shown = both_true shown front.shown;
      apart = not_among root front.before_roots roots other (right_false (list_any (same_root root) front.before_roots) _ front.apart);
      total = λ test one two three. front.total test (right_true (test (At a)) _ one) (both_true (left_true (test (At a)) _ one) two) three;
    }

    front_past : (x : Symbol) (w : Value) (names : List (Symbol × Binding)) (roots : List Root) → Front ((x, Holding w) ∷ names) roots → Front names roots
    front_past x w names roots front = record { before = front.before; before_roots = front.before_roots; refer = front.refer; shown = front.shown; apart = front.apart; total = front.total }

    -- ---- all of them

    build : (formals : List Formal) (terms : List Argument) (names : List (Symbol × Binding)) → AreBound p (meaning_in p world) here state window formals terms names
        → names_right p start.right.types state.heap (map formal_slot formals) names ≡ true → all_differ same_name (map (λ f. f.name) formals) ≡ true → Looked names formals
        → (roots : List Root) → AreRoots p here roots (place_heads terms) → refer_in_turn state.heap state.frames names roots ≡ true → all_differ same_root roots ≡ true → list_any (λ r. list_any (same_root r) (map Shared (var_items q.globals))) roots ≡ false → Front names roots
        → AreWritten p q (meaning_in p world) u source here after formals terms
    build _ _ _ NoneBound right differ looked roots are turn apart no_items front = NoneWritten
    build _ _ _ (ValueBound g t w kept sorted worth formals terms names others) right differ looked roots are turn apart no_items front =
        let rest = right_true (binding_right p start.right.types state.heap (formal_slot g) (Holding w)) _ (right_true (same_name g.name g.name) _ right) in
        ValueGiven g t formals terms (build formals terms names others rest (others_differ same_name g.name (map (λ f. f.name) formals) differ) (looked_on g (Holding w) names formals differ looked) roots are turn apart no_items (front_past g.name w names roots front))
    build _ _ _ (PlaceBound g d a placed sorted lies formals terms names others) right differ looked _ (OneRoot root _ is roots _ more) turn apart no_items front =
        let parts = right_true (same_name g.name g.name) _ right in
        let at = lies u knows in
        let sort_there = is_sort-true (sort_of p.forms g.of) (place_sort p start.right.types state.heap a) (right_true g.by_place _ (left_true (binding_right p start.right.types state.heap (formal_slot g) (Referring a)) _ parts)) in
        let place = place_there p start.right.types state start.right.right a (sort_of p.forms g.of) sort_there in
        let inside = left_true (is_in_one state.heap (root_areas state.frames root) a) _ turn in
        let turn_on = right_true (is_in_one state.heap (root_areas state.frames root) a) _ turn in
        let other = first_differs same_root root roots apart in
        let e = ends g.name g.of a (looked.name g.name (Referring a) g.of (itself (Referring a) (found names g.name)) (itself g.of (found (map (λ f. (f.name, f.of)) formals) g.name))) (looked.type g.name g.of (itself g.of (found (map (λ f. (f.name, f.of)) formals) g.name))) in
        let path = map (step_at (meaning_in p world) u) d.path in
        let place_is : a ≡ part_of at.beginning path = (λ i. record { root = at.root i; path = at.path i }) in
        PlaceWritten g d
        (λ y worth. root_after p f here state start (call_areas all q) after wrote a (sort_of p.forms g.of) place e.value e.holds world window u knows shows y (worth ∙ e.is) d.root d.pointer d.path at.beginning at.begins place_is
        (only root d.root is g.name a names roots (all_show p here roots (place_heads terms) more) turn_on other (left_false (list_any (same_root root) (map Shared (var_items q.globals))) _ no_items) front d.pointer at.beginning at.begins path place_is)
        (eval (meaning_in p world) u (present d)) at.holds)
        formals terms
        (build formals terms names others (right_true (binding_right p start.right.types state.heap (formal_slot g) (Referring a)) _ parts) (others_differ same_name g.name (map (λ f. f.name) formals) differ) (looked_on g (Referring a) names formals differ looked) roots more turn_on
        (others_differ same_root root roots apart) (right_false (list_any (same_root root) (map Shared (var_items q.globals))) _ no_items) (front_on root g.name a names roots (root_shows p (routine_in p here.routine) root d.root is) inside other front))
      where
        itself : {X : Type 0} (x : X) (o : Option X) → cond (same_name g.name g.name) (Some x) o ≡ Some x
        itself x o = ap (λ b. cond b (Some x) o) (eq-eqb g.name.0 g.name.0 refl)

    pub all_written : (terms : List Argument) → AreBound p (meaning_in p world) here state window q.formals terms all → names_right p start.right.types state.heap (map formal_slot q.formals) all ≡ true → all_differ same_name (map (λ f. f.name) q.formals) ≡ true
        → (roots : List Root) → AreRoots p here roots (place_heads terms) → refer_in_turn state.heap state.frames all roots ≡ true → all_differ same_root roots ≡ true → list_any (λ r. list_any (same_root r) (map Shared (var_items q.globals))) roots ≡ false
        → AreWritten p q (meaning_in p world) u source here after q.formals terms
    all_written terms bound right differ roots are turn apart no_items =
        build q.formals terms all bound right differ (record { name = λ x b t there type. there; type = λ x t type. type }) roots are turn apart no_items
        (record { before = []; before_roots = []; refer = refl; shown = refl; apart = none roots; total = λ test one two three. all_both test (referred all) (map area_of_item (var_items q.globals)) two three })
      where
        none : (roots : List Root) → list_any (λ r. list_any (same_root r) []) roots ≡ false
        none [] = refl
        none (r ∷ roots) = none roots
