-- What the areas of roots have in them.
use Rattle.std.proofs.Common.{◌≡◌, ℕ, Bool, true, false, cond, ◌||◌, not, List, [], ◌∷◌, ◌++◌, map, filter, length, refl, sym, ap, ◌∙◌, Option, Some, None}
use Rattle.std.specs.List.{list_all, list_any}
use Rattle.std.specs.Cmp.Derive.{both_true}
use Rattle.std.proofs.lemmas.Bool.{false≢true, eq-eqb}
use Rattle.spv_logic.proofs.list.Tests.{left_true, right_true}
use Rattle.spv_logic.specs.declared.names.names.Symbol.{Symbol}
use Rattle.spv_logic.specs.declared.types.TypeId.{TypeId}
use Rattle.spv_logic.specs.Values.{Value}
use Rattle.spv_program.specs.declared.types.Item.{Item}
use Rattle.spv_program.specs.declared.types.Item.TheVariants.{Variable, Class}
use Rattle.spv_program.specs.Lists.{same_name, found}
use Rattle.spv_program.specs.Types.{same_item}
use Rattle.spv_program.specs.Uses.{Root, Own, Shared, same_root}
use Rattle.spv_program.proofs.SortFacts.{nothing_there, some_is}
use Rattle.spv_program.proofs.ExpressionSorting.{same_types}
use Rattle.spv_meaning.specs.Places.{Place, Binding, Frame, HeapRow, State, Holding, Referring, OwnValue, whole}
use Rattle.spv_meaning.specs.Places as places
use Rattle.spv_meaning.specs.Starts.{Area, At, CellsOf, lies_in}
use Rattle.spv_meaning.proofs.Maps.{same_names}
use Rattle.spv_preservation.specs.Right.{Grows}
use Rattle.spv_writes.specs.Writes.{is_below, is_in, is_in_one, is_cells_of, has_cells_of, is_area_of, without_frame}
use Rattle.spv_frame_law.specs.Frames.{area_of_item, bound_areas, root_areas, areas_of, referred, refer_in_turn}
use Rattle.spv_writes.proofs.Lists.{or_left, or_right, any_passes, any_left, any_right, any_of_two, filter_two}
use Rattle.spv_writes.proofs.Places.{below_on, below_root, lies_typed, lies_by}
use Rattle.spv_writes.proofs.Kept.{IsCovered}

-- ---- items

pub items_same : (i j : Item) → same_item i j ≡ true → i ≡ j
items_same (Variable x) (Variable y) h = ap Variable (same_names x y h)
items_same (Variable x) (Class u) h = absurd (false≢true h)
items_same (Class t) (Variable y) h = absurd (false≢true h)
items_same (Class t) (Class u) h = ap Class (same_types t u h)

pub roots_alike : (r s : Root) → same_root r s ≡ true → r ≡ s
roots_alike (Own x) (Own y) h = ap Own (same_names x y h)
roots_alike (Own x) (Shared j) h = absurd (false≢true h)
roots_alike (Shared i) (Own y) h = absurd (false≢true h)
roots_alike (Shared i) (Shared j) h = ap Shared (items_same i j h)

holds_nothing : (v : Value) (a : Place) → Holding v ≡ Referring a → ⊥
holds_nothing v a e = cc

refers_there : (a b : Place) → Referring a ≡ Referring b → a ≡ b
refers_there a b e = cc

-- ---- members

-- what is in the areas of a root that is among others is in the areas of these
pub among_areas : (f : Area → Bool) (frames : List Frame) (root : Root) (roots : List Root) → list_any (same_root root) roots ≡ true → list_any f (root_areas frames root) ≡ true → list_any f (areas_of frames roots) ≡ true
among_areas f frames root [] among h = absurd (false≢true among)
among_areas f frames root (r ∷ roots) among h = by_first (same_root root r) refl among (λ among. among_areas f frames root roots among h)
  where
    by_first : (b : Bool) → same_root root r ≡ b → (b || list_any (same_root root) roots) ≡ true → (list_any (same_root root) roots ≡ true → list_any f (areas_of frames roots) ≡ true)
        → list_any f (root_areas frames r ++ areas_of frames roots) ≡ true
    by_first true e among later =
        any_left f (root_areas frames r) (areas_of frames roots) (ap (λ s. list_any f (root_areas frames s)) (sym (roots_alike root r e)) ∙ h)
    by_first false e among later = any_right f (root_areas frames r) (areas_of frames roots) (later among)

-- and what is in the areas of some roots is in the areas of others that have all of them
pub roots_among : (f : Area → Bool) (frames : List Frame) (some roots : List Root) → list_all (λ r. list_any (same_root r) roots) some ≡ true → list_any f (areas_of frames some) ≡ true → list_any f (areas_of frames roots) ≡ true
roots_among f frames [] roots all h = absurd (false≢true h)
roots_among f frames (r ∷ some) roots all h =
    any_of_two f (root_areas frames r) (areas_of frames some) (list_any f (areas_of frames roots) ≡ true) h
    (λ k. among_areas f frames r roots (left_true (list_any (same_root r) roots) (list_all (λ r. list_any (same_root r) roots) some) all) k)
    (λ k. roots_among f frames some roots (right_true (list_any (same_root r) roots) (list_all (λ r. list_any (same_root r) roots) some) all) k)

-- the items of a list among roots
pub items_among : (f : Area → Bool) (frames : List Frame) (items : List Item) (roots : List Root) → list_all (λ r. list_any (same_root r) roots) (map Shared items) ≡ true → list_any f (map area_of_item items) ≡ true → list_any f (areas_of frames roots) ≡ true
items_among f frames items roots all h = roots_among f frames (map Shared items) roots all (as_roots items h)
  where
    as_roots : (items : List Item) → list_any f (map area_of_item items) ≡ true → list_any f (areas_of frames (map Shared items)) ≡ true
    as_roots [] h = h
    as_roots (i ∷ items) h = by_first (f (area_of_item i)) h (as_roots items)
      where
        by_first : (b : Bool) → (b || list_any f (map area_of_item items)) ≡ true → (list_any f (map area_of_item items) ≡ true → list_any f (areas_of frames (map Shared items)) ≡ true) → (b || list_any f (areas_of frames (map Shared items))) ≡ true
        by_first true h later = refl
        by_first false h later = later h

-- an item of a list
pub item_among : (f : Area → Bool) (i : Item) (items : List Item) → list_any (same_item i) items ≡ true → f (area_of_item i) ≡ true → list_any f (map area_of_item items) ≡ true
item_among f i [] among h = absurd (false≢true among)
item_among f i (j ∷ items) among h = by_first (same_item i j) refl among (λ among. item_among f i items among h)
  where
    by_first : (b : Bool) → same_item i j ≡ b → (b || list_any (same_item i) items) ≡ true → (list_any (same_item i) items ≡ true → list_any f (map area_of_item items) ≡ true) → list_any f (map area_of_item (j ∷ items)) ≡ true
    by_first true e among later = or_left (f (area_of_item j)) (list_any f (map area_of_item items)) (ap (λ k. f (area_of_item k)) (sym (items_same i j e)) ∙ h)
    by_first false e among later = or_right (f (area_of_item j)) (list_any f (map area_of_item items)) (later among)

-- ---- places that names refer to

-- whether a name that refers to a place refers to one in these areas
abbrev pub refers_into : List HeapRow → List Area → Symbol × Binding → Bool
refers_into heap areas (x, Holding v) = true
refers_into heap areas (x, Referring a) = is_in_one heap areas a

pub more_areas : (heap : List HeapRow) (front areas : List Area) (names : List (Symbol × Binding)) → list_all (refers_into heap areas) names ≡ true → list_all (refers_into heap (front ++ areas)) names ≡ true
more_areas heap front areas [] all = refl
more_areas heap front areas ((x, Holding v) ∷ names) all = more_areas heap front areas names all
more_areas heap front areas ((x, Referring a) ∷ names) all =
    both_true (any_right (is_in heap a) front areas (left_true (is_in_one heap areas a) (list_all (refers_into heap areas) names) all))
    (more_areas heap front areas names (right_true (is_in_one heap areas a) (list_all (refers_into heap areas) names) all))

-- then all of them refer into the areas of the roots
pub in_turn_all : (heap : List HeapRow) (frames : List Frame) (names : List (Symbol × Binding)) (roots : List Root) → refer_in_turn heap frames names roots ≡ true → list_all (refers_into heap (areas_of frames roots)) names ≡ true
in_turn_all heap frames [] roots h = refl
in_turn_all heap frames ((x, Holding v) ∷ names) roots h = in_turn_all heap frames names roots h
in_turn_all heap frames ((x, Referring a) ∷ names) [] h = absurd (false≢true h)
in_turn_all heap frames ((x, Referring a) ∷ names) (root ∷ roots) h =
    both_true (any_left (is_in heap a) (root_areas frames root) (areas_of frames roots) (left_true (is_in_one heap (root_areas frames root) a) _ h))
    (more_areas heap (root_areas frames root) (areas_of frames roots) names (in_turn_all heap frames names roots (right_true (is_in_one heap (root_areas frames root) a) _ h)))

pub referred_member : (f : Area → Bool) (names : List (Symbol × Binding)) (x : Symbol) (a : Place) → found names x ≡ Some (Referring a) → f (At a) ≡ true → list_any f (referred names) ≡ true
referred_member f [] x a there h = absurd (nothing_there there)
referred_member f ((y, b) ∷ names) x a there h = by_name (same_name y x) b there (λ there. referred_member f names x a there h)
  where
    same : (b : Binding) → Some b ≡ Some (Referring a) → list_any f (referred ((y, b) ∷ names)) ≡ true
    same (Holding v) e = absurd (holds_nothing v a (some_is e))
    same (Referring c) e = or_left (f (At c)) (list_any f (referred names)) (ap (λ k. f (At k)) (refers_there c a (some_is e)) ∙ h)

    further : (b : Binding) → list_any f (referred names) ≡ true → list_any f (referred ((y, b) ∷ names)) ≡ true
    further (Holding v) h = h
    further (Referring c) h = or_right (f (At c)) (list_any f (referred names)) h

    by_name : (t : Bool) (b : Binding) → cond t (Some b) (found names x) ≡ Some (Referring a) → (found names x ≡ Some (Referring a) → list_any f (referred names) ≡ true) → list_any f (referred ((y, b) ∷ names)) ≡ true
    by_name true b there later = same b there
    by_name false b there later = further b (later there)

-- names in front of others that refer to nothing
pub referred_front : (f : Area → Bool) (names others : List (Symbol × Binding)) → referred others ≡ [] → list_any f (referred (names ++ others)) ≡ true → list_any f (referred names) ≡ true
referred_front f [] others none h = absurd (false≢true (ap (list_any f) (sym none) ∙ h))
referred_front f ((x, Holding v) ∷ names) others none h = referred_front f names others none h
referred_front f ((x, Referring a) ∷ names) others none h = by_first (f (At a)) h (referred_front f names others none)
  where
    by_first : (b : Bool) → (b || list_any f (referred (names ++ others))) ≡ true → (list_any f (referred (names ++ others)) ≡ true → list_any f (referred names) ≡ true) → (b || list_any f (referred names)) ≡ true
    by_first true h later = refl
    by_first false h later = later h

no_cells : (names : List (Symbol × Binding)) (u : TypeId) → list_any (is_cells_of u) (referred names) ≡ true → false ≡ true
no_cells [] u h = h
no_cells ((x, Holding v) ∷ names) u h = no_cells names u h
no_cells ((x, Referring a) ∷ names) u h = no_cells names u h

-- ---- later heaps

-- what lies in an area lies there in later heaps, and so does what is below it
lies_later : (heap later : List HeapRow) → Grows heap later → (r : places.Root) (t : TypeId) → lies_in heap r t ≡ true → lies_in later r t ≡ true
lies_later heap later g (places.ProgramVariable x) t h = h
lies_later heap later g (places.OwnValue n x) t h = h
lies_later heap later g (places.CellOf cell) t h = lies_by later cell t t (g.keeps cell t (lies_typed heap cell t h)) ∙ eq-eqb t.0 t.0 refl

later_in : (heap later : List HeapRow) → Grows heap later → (a b : Place) → is_below a b ≡ true → (area : Area) → is_in heap b area ≡ true → is_in later a area ≡ true
later_in heap later g a b below (At c) h = below_on a b c below h
later_in heap later g a b below (CellsOf t) h = ap (λ r. lies_in later r t) (sym (below_root a b below)) ∙ lies_later heap later g b.root t h

pub later_one : (heap later : List HeapRow) → Grows heap later → (a b : Place) → is_below a b ≡ true → (areas : List Area) → is_in_one heap areas b ≡ true → is_in_one later areas a ≡ true
later_one heap later g a b below areas h = any_passes (is_in heap b) (is_in later a) (λ area k. later_in heap later g a b below area k) areas h

-- places that names refer to in some areas lie there in all later heaps
pub referred_covered : (heap : List HeapRow) (areas : List Area) (names : List (Symbol × Binding)) → list_all (refers_into heap areas) names ≡ true → IsCovered heap (referred names) areas
referred_covered heap areas names all = record { places = λ later g a h. each later g a names all h; cells = λ u h. absurd (false≢true (no_cells names u h)) }
  where
    each : (later : List HeapRow) → Grows heap later → (a : Place) (names : List (Symbol × Binding)) → list_all (refers_into heap areas) names ≡ true → is_in_one later (referred names) a ≡ true → is_in_one later areas a ≡ true
    each later g a [] all h = absurd (false≢true h)
    each later g a ((x, Holding v) ∷ names) all h = each later g a names all h
    each later g a ((x, Referring b) ∷ names) all h =
        by_first (is_below a b) refl h (each later g a names (right_true (is_in_one heap areas b) (list_all (refers_into heap areas) names) all))
      where
        by_first : (t : Bool) → is_below a b ≡ t → (t || is_in_one later (referred names) a) ≡ true → (is_in_one later (referred names) a ≡ true → is_in_one later areas a ≡ true) → is_in_one later areas a ≡ true
        by_first true e h later_case = later_one heap later g a b e areas (left_true (is_in_one heap areas b) (list_all (refers_into heap areas) names) all)
        by_first false e h later_case = later_case h

pub covered_both : (heap : List HeapRow) (one two areas : List Area) → IsCovered heap one areas → IsCovered heap two areas → IsCovered heap (one ++ two) areas
covered_both heap one two areas c d = record {
  places = λ later g a h. any_of_two (is_in later a) one two (is_in_one later areas a ≡ true) h (c.places later g a) (d.places later g a);
  cells = λ u h. any_of_two (is_cells_of u) one two (has_cells_of areas u ≡ true) h (c.cells u) (d.cells u);
}

-- areas all of whose members are members of others
pub covered_by : (heap : List HeapRow) (areas others : List Area) → ((f : Area → Bool) → list_any f areas ≡ true → list_any f others ≡ true) → IsCovered heap areas others
covered_by heap areas others members = record { places = λ later g a h. members (is_in later a) h; cells = λ u h. members (is_cells_of u) h }

-- ---- areas of a frame that is popped

-- whether a root is an own name, or one of these items
abbrev pub is_own_or : List Item → Root → Bool
is_own_or items (Own x) = true
is_own_or items (Shared i) = list_any (same_item i) items

module _ (f : Area → Bool) (number : ℕ) where
  one_kept : (a : Area) → list_any f (filter (λ a. not (is_area_of number a)) (a ∷ [])) ≡ true → f a ≡ true
  one_kept a h = by_keep (not (is_area_of number a)) h
    where
      by_case : (b : Bool) → (b || false) ≡ true → b ≡ true
      by_case true h = refl
      by_case false h = h

      by_keep : (k : Bool) → list_any f (cond k (a ∷ []) []) ≡ true → f a ≡ true
      by_keep true h = by_case (f a) h
      by_keep false h = absurd (false≢true h)

  -- a value that the frame keeps goes with it
  own_gone : (x : Symbol) → list_any f (filter (λ a. not (is_area_of number a)) (At (whole (OwnValue number x)) ∷ [])) ≡ true → false ≡ true
  own_gone x h = sym (ap (λ b. list_any f (cond (not b) (At (whole (OwnValue number x)) ∷ []) [])) (eq-eqb number number refl)) ∙ h

-- what an own name covers beside the frame is a place that it refers to
own_left : (f : Area → Bool) (number : ℕ) (names : List (Symbol × Binding)) (x : Symbol) (o : Option Binding) → found names x ≡ o → list_any f (filter (λ a. not (is_area_of number a)) (bound_areas number x o)) ≡ true → list_any f (referred names) ≡ true
own_left f number names x None is h = absurd (false≢true h)
own_left f number names x (Some (Holding v)) is h = absurd (false≢true (own_gone f number x h))
own_left f number names x (Some (Referring a)) is h = referred_member f names x a is (one_kept f number (At a) h)

pub left_areas : (f : Area → Bool) (frame : Frame) (frames : List Frame) (items : List Item) (roots : List Root) → list_all (is_own_or items) roots ≡ true → list_any f (without_frame (length frames) (areas_of (frame ∷ frames) roots)) ≡ true → list_any f (referred frame.names ++ map area_of_item items) ≡ true
left_areas f frame frames items [] all h = absurd (false≢true h)
left_areas f frame frames items (root ∷ roots) all h =
    any_of_two f (without_frame (length frames) (root_areas (frame ∷ frames) root)) (without_frame (length frames) (areas_of (frame ∷ frames) roots)) (list_any f (referred frame.names ++ map area_of_item items) ≡ true)
    (ap (list_any f) (sym (filter_two (λ a. not (is_area_of (length frames) a)) (root_areas (frame ∷ frames) root) (areas_of (frame ∷ frames) roots))) ∙ h)
    (by_root root (left_true (is_own_or items root) (list_all (is_own_or items) roots) all))
    (left_areas f frame frames items roots (right_true (is_own_or items root) (list_all (is_own_or items) roots) all))
  where
    by_root : (root : Root) → is_own_or items root ≡ true → list_any f (filter (λ a. not (is_area_of (length frames) a)) (root_areas (frame ∷ frames) root)) ≡ true → list_any f (referred frame.names ++ map area_of_item items) ≡ true
    by_root (Own x) ok h = any_left f (referred frame.names) (map area_of_item items) (own_left f (length frames) frame.names x (found frame.names x) refl h)
    by_root (Shared i) ok h = any_right f (referred frame.names) (map area_of_item items) (item_among f i items ok (one_kept f (length frames) (area_of_item i) h))
