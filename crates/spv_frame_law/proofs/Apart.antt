-- The areas of different roots do not overlap where a routine's are apart, and stay so.
use Rattle.std.proofs.Common.{◌≡◌, ℕ, Bool, true, false, cond, not, ◌&&◌, ◌||◌, List, [], ◌∷◌, ◌++◌, map, length, refl, sym, ap, ◌∙◌, Option, Some, None}
use Rattle.std.specs.List.{list_all, list_any}
use Rattle.std.proofs.lemmas.Bool.{false≢true}
use Rattle.spv_logic.proofs.list.Tests.{left_true, right_true, left_false, right_false, both_false}
use Rattle.spv_logic.specs.declared.names.names.Symbol.{Symbol}
use Rattle.spv_program.specs.declared.types.Item.{Item}
use Rattle.spv_program.specs.declared.types.Item.TheVariants.{Variable, Class}
use Rattle.spv_program.specs.Lists.{same_name, found, all_differ}
use Rattle.spv_program.specs.Types.{same_type, same_item}
use Rattle.spv_program.specs.Programs.{GlobalItem, Routine, lists}
use Rattle.spv_program.specs.Uses.{Root, Own, Shared, same_root}
use Rattle.spv_program.proofs.SortFacts.{nothing_there, some_is}
use Rattle.spv_meaning.specs.Places.{Place, Binding, Frame, HeapRow}
use Rattle.spv_meaning.specs.Starts.{Area, At, CellsOf, same_root as same_place_root, paths_meet, places_overlap, lies_in, overlap, bound_area, item_area, apart}
use Rattle.spv_meaning.proofs.Differing.{not_true, none_left, none_right, none_both}
use Rattle.spv_meaning.proofs.Maps.{same_names}
use Rattle.spv_writes.specs.Writes.{is_in, is_touched}
use Rattle.spv_writes.proofs.Lists.{not_so, any_fails}
use Rattle.spv_writes.proofs.Places.{places_swap, types_swap, roots_same, below_root, overlaps_above, one_type}
use Rattle.spv_frame_law.specs.Frames.{area_of_item, bound_areas, root_areas, areas_of, root_shown}
use Rattle.spv_frame_law.proofs.Covering.{items_same}

-- ---- overlapping

pub overlap_swap : (heap : List HeapRow) (a b : Area) → overlap heap a b ≡ overlap heap b a
overlap_swap heap (At a) (At b) = places_swap a b
overlap_swap heap (At a) (CellsOf t) = refl
overlap_swap heap (CellsOf t) (At b) = refl
overlap_swap heap (CellsOf t) (CellsOf u) = types_swap u t (same_type u t) refl

-- different items of the program never overlap
pub items_apart : (heap : List HeapRow) (i j : Item) → same_item i j ≡ false → overlap heap (area_of_item i) (area_of_item j) ≡ false
items_apart heap (Variable x) (Variable y) h = and_true (same_name x y) h
  where
    and_true : (b : Bool) → b ≡ false → (b && true) ≡ false
    and_true true h = h
    and_true false h = refl
items_apart heap (Variable x) (Class u) h = refl
items_apart heap (Class t) (Variable y) h = refl
items_apart heap (Class t) (Class u) h = h

pub area_is : (g : GlobalItem) → item_area g ≡ area_of_item g.item
area_is g = of_item g.item g.is_var g.line
  where
    of_item : (i : Item) (is_var : Bool) (line : ℕ) → item_area (record { item = i; is_var = is_var; line = line }) ≡ area_of_item i
    of_item (Variable x) is_var line = refl
    of_item (Class t) is_var line = refl

-- a place in an area that another does not overlap is not overlapped by it
in_apart_from : (heap : List HeapRow) (a : Place) (one two : Area) → is_in heap a one ≡ true → overlap heap two one ≡ false → overlap heap two (At a) ≡ false
in_apart_from heap a (At c) (At d) inside apart =
    not_so (places_overlap d a) (λ h. sym apart ∙ (places_swap d c ∙ overlaps_above a c d inside (places_swap a d ∙ h)))
in_apart_from heap a (At c) (CellsOf t) inside apart = ap (λ r. lies_in heap r t) (sym (below_root a c inside)) ∙ apart
in_apart_from heap a (CellsOf t) (At d) inside apart =
    not_so (places_overlap d a) (λ h. sym apart ∙ (ap (λ r. lies_in heap r t) (roots_same d.root a.root (left_true (same_place_root d.root a.root) (paths_meet d.path a.path) h)) ∙ inside))
in_apart_from heap a (CellsOf t) (CellsOf u) inside apart = not_so (lies_in heap a.root u) (λ h. sym apart ∙ (types_swap t u (same_type t u) refl ∙ one_type heap a.root t u inside h))

pub in_untouched : (heap : List HeapRow) (a : Place) (areas : List Area) (one : Area) → is_in heap a one ≡ true → is_touched heap areas one ≡ false → is_touched heap areas (At a) ≡ false
in_untouched heap a areas one inside none = any_fails (λ b. overlap heap b (At a)) (λ b. overlap heap b one) (λ b h. in_apart_from heap a one b inside h) areas none

-- ---- members that a test fails for

-- a name that the frame binds
no_name : (test : Area → Bool) (number : ℕ) (names : List (Symbol × Binding)) (y : Symbol) (c : Binding) → list_any test (map (bound_area number) names) ≡ false → found names y ≡ Some c → test (bound_area number (y, c)) ≡ false
no_name test number [] y c none there = absurd (nothing_there there)
no_name test number (n ∷ names) y c none there =
    by_name (same_name n.0 y) refl there (λ there. no_name test number names y c (right_false (test (bound_area number n)) (list_any test (map (bound_area number) names)) none) there)
  where
    by_name : (b : Bool) → same_name n.0 y ≡ b → cond b (Some n.1) (found names y) ≡ Some c → (found names y ≡ Some c → test (bound_area number (y, c)) ≡ false) → test (bound_area number (y, c)) ≡ false
    by_name true e there later =
        ap (λ z. test (bound_area number (z, c))) (sym (same_names n.0 y e))
        ∙ (ap (λ d. test (bound_area number (n.0, d))) (sym (some_is there)) ∙ left_false (test (bound_area number n)) (list_any test (map (bound_area number) names)) none)
    by_name false e there later = later there

-- an item of a list
no_item : (test : Area → Bool) (globals : List GlobalItem) (i : Item) (var : Bool) → list_any test (map item_area globals) ≡ false → lists globals i var ≡ true → test (area_of_item i) ≡ false
no_item test [] i var none there = absurd (false≢true there)
no_item test (g ∷ globals) i var none there =
    by_item (same_item g.item i) refl there (λ there. no_item test globals i var (right_false (test (item_area g)) (list_any test (map item_area globals)) none) there)
  where
    by_item : (b : Bool) → same_item g.item i ≡ b → ((b && (g.is_var || not var)) || lists globals i var) ≡ true → (lists globals i var ≡ true → test (area_of_item i) ≡ false) → test (area_of_item i) ≡ false
    by_item true e there later =
        ap (λ k. test (area_of_item k)) (sym (items_same g.item i e)) ∙ (ap test (sym (area_is g)) ∙ left_false (test (item_area g)) (list_any test (map item_area globals)) none)
    by_item false e there later = later there

module _ (heap : List HeapRow) (number : ℕ) (globals : List GlobalItem) where
  -- the areas of two names that the frame binds
  pub names_apart : (names : List (Symbol × Binding)) (x y : Symbol) (b c : Binding) → all_differ (overlap heap) (map (bound_area number) names ++ map item_area globals) ≡ true → found names x ≡ Some b → found names y ≡ Some c → same_name x y ≡ false → overlap heap (bound_area number (x, b)) (bound_area number (y, c)) ≡ false
  names_apart [] x y b c differ one two other = absurd (nothing_there one)
  names_apart (n ∷ names) x y b c differ one two other =
      by_names (same_name n.0 x) (same_name n.0 y) refl refl one two
      (λ one two. names_apart names x y b c (right_true (not (list_any (overlap heap (bound_area number n)) (map (bound_area number) names ++ map item_area globals))) _ differ) one two other)
    where
      none : list_any (overlap heap (bound_area number n)) (map (bound_area number) names) ≡ false
      none = none_left (overlap heap (bound_area number n)) (map (bound_area number) names) (map item_area globals)
          (not_true (list_any (overlap heap (bound_area number n)) (map (bound_area number) names ++ map item_area globals)) (left_true (not (list_any (overlap heap (bound_area number n)) (map (bound_area number) names ++ map item_area globals))) _ differ))

      front : (z : Symbol) (d : Binding) → same_name n.0 z ≡ true → Some n.1 ≡ Some d → bound_area number n ≡ bound_area number (z, d)
      front z d e is = ap (λ k. bound_area number (k, n.1)) (same_names n.0 z e) ∙ ap (λ k. bound_area number (z, k)) (some_is is)

      by_names : (s t : Bool) → same_name n.0 x ≡ s → same_name n.0 y ≡ t → cond s (Some n.1) (found names x) ≡ Some b → cond t (Some n.1) (found names y) ≡ Some c
          → (found names x ≡ Some b → found names y ≡ Some c → overlap heap (bound_area number (x, b)) (bound_area number (y, c)) ≡ false)
          → overlap heap (bound_area number (x, b)) (bound_area number (y, c)) ≡ false
      by_names true true d e one two later = absurd (false≢true (sym other ∙ (ap (λ z. same_name z y) (sym (same_names n.0 x d)) ∙ e)))
      by_names true false d e one two later =
          ap (λ k. overlap heap k (bound_area number (y, c))) (sym (front x b d one)) ∙ no_name (overlap heap (bound_area number n)) number names y c none two
      by_names false true d e one two later =
          overlap_swap heap (bound_area number (x, b)) (bound_area number (y, c))
          ∙ (ap (λ k. overlap heap k (bound_area number (x, b))) (sym (front y c e two)) ∙ no_name (overlap heap (bound_area number n)) number names x b none one)
      by_names false false d e one two later = later one two

  -- the area of a name and that of an item of the list
  pub name_item_apart : (names : List (Symbol × Binding)) (x : Symbol) (b : Binding) (i : Item) (var : Bool) → all_differ (overlap heap) (map (bound_area number) names ++ map item_area globals) ≡ true → found names x ≡ Some b → lists globals i var ≡ true → overlap heap (bound_area number (x, b)) (area_of_item i) ≡ false
  name_item_apart [] x b i var differ one there = absurd (nothing_there one)
  name_item_apart (n ∷ names) x b i var differ one there =
      by_name (same_name n.0 x) refl one
      (λ one. name_item_apart names x b i var (right_true (not (list_any (overlap heap (bound_area number n)) (map (bound_area number) names ++ map item_area globals))) _ differ) one there)
    where
      none : list_any (overlap heap (bound_area number n)) (map item_area globals) ≡ false
      none = none_right (overlap heap (bound_area number n)) (map (bound_area number) names) (map item_area globals)
          (not_true (list_any (overlap heap (bound_area number n)) (map (bound_area number) names ++ map item_area globals)) (left_true (not (list_any (overlap heap (bound_area number n)) (map (bound_area number) names ++ map item_area globals))) _ differ))

      by_name : (s : Bool) → same_name n.0 x ≡ s → cond s (Some n.1) (found names x) ≡ Some b → (found names x ≡ Some b → overlap heap (bound_area number (x, b)) (area_of_item i) ≡ false) → overlap heap (bound_area number (x, b)) (area_of_item i) ≡ false
      by_name true e one later =
          ap (λ k. overlap heap k (area_of_item i)) (ap (λ k. bound_area number (x, k)) (sym (some_is one)) ∙ ap (λ k. bound_area number (k, n.1)) (sym (same_names n.0 x e)))
          ∙ no_item (overlap heap (bound_area number n)) globals i var none there
      by_name false e one later = later one

-- ---- roots that show

-- where a routine's areas are apart, no area of roots that show touches that of another own name
pub own_untouched : (heap : List HeapRow) (r : Routine) (f : Frame) (frames : List Frame) → all_differ (overlap heap) (map (bound_area (length frames)) f.names ++ map item_area r.globals) ≡ true → (x : Symbol) (b : Binding) → found f.names x ≡ Some b
    → (roots : List Root) → list_all (root_shown (Some r)) roots ≡ true → list_any (same_root (Own x)) roots ≡ false → is_touched heap (areas_of (f ∷ frames) roots) (bound_area (length frames) (x, b)) ≡ false
own_untouched heap r f frames differ x b there [] shown other = refl
own_untouched heap r f frames differ x b there (root ∷ roots) shown other =
    none_both (λ a. overlap heap a (bound_area (length frames) (x, b))) (root_areas (f ∷ frames) root) (areas_of (f ∷ frames) roots)
    (by_root root (left_true (root_shown (Some r) root) _ shown) (left_false (same_root (Own x) root) _ other))
    (own_untouched heap r f frames differ x b there roots (right_true (root_shown (Some r) root) _ shown) (right_false (same_root (Own x) root) _ other))
  where
    by_bound : (y : Symbol) (o : Option Binding) → found f.names y ≡ o → same_name x y ≡ false → list_any (λ a. overlap heap a (bound_area (length frames) (x, b))) (bound_areas (length frames) y o) ≡ false
    by_bound y None is other = refl
    by_bound y (Some c) is other =
        both_false _ false
        (overlap_swap heap (bound_area (length frames) (y, c)) (bound_area (length frames) (x, b)) ∙ names_apart heap (length frames) r.globals f.names x y b c differ there is other) refl

    by_root : (root : Root) → root_shown (Some r) root ≡ true → same_root (Own x) root ≡ false → list_any (λ a. overlap heap a (bound_area (length frames) (x, b))) (root_areas (f ∷ frames) root) ≡ false
    by_root (Own y) ok other = by_bound y (found f.names y) refl other
    by_root (Shared i) ok other =
        both_false _ false
        (overlap_swap heap (area_of_item i) (bound_area (length frames) (x, b)) ∙ name_item_apart heap (length frames) r.globals f.names x b i false differ there ok) refl

-- nor that of another item that it sees
pub item_untouched : (heap : List HeapRow) (r : Routine) (f : Frame) (frames : List Frame) → all_differ (overlap heap) (map (bound_area (length frames)) f.names ++ map item_area r.globals) ≡ true → (i : Item) → lists r.globals i false ≡ true
    → (roots : List Root) → list_all (root_shown (Some r)) roots ≡ true → list_any (same_root (Shared i)) roots ≡ false → is_touched heap (areas_of (f ∷ frames) roots) (area_of_item i) ≡ false
item_untouched heap r f frames differ i there [] shown other = refl
item_untouched heap r f frames differ i there (root ∷ roots) shown other =
    none_both (λ a. overlap heap a (area_of_item i)) (root_areas (f ∷ frames) root) (areas_of (f ∷ frames) roots)
    (by_root root (left_false (same_root (Shared i) root) _ other))
    (item_untouched heap r f frames differ i there roots (right_true (root_shown (Some r) root) _ shown) (right_false (same_root (Shared i) root) _ other))
  where
    by_bound : (y : Symbol) (o : Option Binding) → found f.names y ≡ o → list_any (λ a. overlap heap a (area_of_item i)) (bound_areas (length frames) y o) ≡ false
    by_bound y None is = refl
    by_bound y (Some c) is = both_false _ false (name_item_apart heap (length frames) r.globals f.names y c i false differ is there) refl

    by_root : (root : Root) → same_root (Shared i) root ≡ false → list_any (λ a. overlap heap a (area_of_item i)) (root_areas (f ∷ frames) root) ≡ false
    by_root (Own y) other = by_bound y (found f.names y) refl
    by_root (Shared j) other = both_false _ false (overlap_swap heap (area_of_item j) (area_of_item i) ∙ items_apart heap i j other) refl

-- in the main block, where each root is an item of the program
pub main_untouched : (heap : List HeapRow) (frames : List Frame) (i : Item) (roots : List Root) → list_all (root_shown None) roots ≡ true → list_any (same_root (Shared i)) roots ≡ false → is_touched heap (areas_of frames roots) (area_of_item i) ≡ false
main_untouched heap frames i [] shown other = refl
main_untouched heap frames i (root ∷ roots) shown other =
    none_both (λ a. overlap heap a (area_of_item i)) (root_areas frames root) (areas_of frames roots)
    (by_root root (left_true (root_shown None root) _ shown) (left_false (same_root (Shared i) root) _ other))
    (main_untouched heap frames i roots (right_true (root_shown None root) _ shown) (right_false (same_root (Shared i) root) _ other))
  where
    by_root : (root : Root) → root_shown None root ≡ true → same_root (Shared i) root ≡ false → list_any (λ a. overlap heap a (area_of_item i)) (root_areas frames root) ≡ false
    by_root (Own y) ok other = absurd (false≢true ok)
    by_root (Shared j) ok other = both_false _ false (overlap_swap heap (area_of_item j) (area_of_item i) ∙ items_apart heap i j other) refl
