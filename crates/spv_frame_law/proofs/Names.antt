-- Names of a routine lie in the areas of their roots.
use Rattle.std.proofs.Common.{◌≡◌, ℕ, Bool, true, false, cond, ◌&&◌, ◌||◌, List, [], ◌∷◌, ◌++◌, map, length, refl, sym, ap, ◌∙◌, Option, Some, None, is_some}
use Rattle.std.specs.List.{list_any}
use Rattle.std.proofs.lemmas.Bool.{false≢true}
use Rattle.spv_logic.proofs.list.Tests.{left_true, right_true, left_false, right_false}
use Rattle.spv_logic.specs.declared.names.names.Symbol.{Symbol}
use Rattle.spv_logic.specs.declared.types.TypeId.{TypeId}
use Rattle.spv_logic.specs.declared.conditions.RoutineId.{RoutineId}
use Rattle.spv_program.specs.declared.types.Item.TheVariants.{Variable}
use Rattle.spv_program.specs.Lists.{same_name, found}
use Rattle.spv_program.specs.Programs.{Formal, Routine, Program, routine_in}
use Rattle.spv_program.specs.Scopes.{result_name, is_own}
use Rattle.spv_program.specs.Uses.{Root, Own, Shared, name_root}
use Rattle.spv_meaning.specs.Places.{Place, Binding, Frame, HeapRow, State, ProgramVariable, OwnValue, Holding, Referring, whole}
use Rattle.spv_meaning.specs.Views.{bound_place, place_in, place_of}
use Rattle.spv_meaning.specs.FrameTypes.{FrameType, IsIn, Slot, binding_right, formal_slot, frame_of, frames_right, in_main, in_routine, names_right, own_slot, slot_in, slots_of}
use Rattle.spv_meaning.specs.Starts.{Area, IsRight}
use Rattle.spv_preservation.proofs.Roots.{first_frame}
use Rattle.spv_preservation.proofs.Names.{Bound, Missing, There, slot_type, formal_slots, bound}
use Rattle.spv_writes.specs.Writes.{Outline, is_in_one, reference, outline, outlines}
use Rattle.spv_frame_law.specs.Frames.{bound_areas, own_areas, root_areas, areas_of, referred}
use Rattle.spv_writes.proofs.Lists.{or_left}
use Rattle.spv_writes.proofs.Places.{below_itself}
use Rattle.spv_writes.proofs.Outlines.{reference_of, area_from, as_long}

-- ---- the names of a frame

some_type : (o : Option Slot) → is_some (slot_type o) ≡ is_some o
some_type None = refl
some_type (Some s) = refl

-- the own names of a routine are those that its frame binds
pub own_bound : (p : Program) (older : List FrameType) (heap : List HeapRow) (r : Routine) (names : List (Symbol × Binding)) (x : Symbol) → names_right p older heap (slots_of r) names ≡ true → is_own (Some r) x ≡ is_some (found names x)
own_bound p older heap r names x right =
    ap is_some (formal_slots r.formals (result_name r.name r.result ++ r.locals) x) ∙ (some_type (slot_in (slots_of r) x) ∙ by_bound (bound p older heap (slots_of r) names x right))
  where
    by_bound : Bound p older heap (slots_of r) names x → is_some (slot_in (slots_of r) x) ≡ is_some (found names x)
    by_bound (Missing e h) = ap is_some e ∙ sym (ap is_some h)
    by_bound (There s b e h right) = ap is_some e ∙ sym (ap is_some h)

-- ---- where names lie

in_bound : (heap : List HeapRow) (number : ℕ) (x : Symbol) (b : Binding) → is_in_one heap (bound_areas number x (Some b)) (bound_place number x (Some b)) ≡ true
in_bound heap number x (Holding v) = or_left _ false (below_itself (whole (OwnValue number x)))
in_bound heap number x (Referring a) = or_left _ false (below_itself a)

-- the place of a name lies in the areas of the name's root
pub name_in : (p : Program) (here : Option RoutineId) (types : List FrameType) → IsIn p here types → (state : State) → IsRight p types state → (x : Symbol) → is_in_one state.heap (root_areas state.frames (name_root (is_own (routine_in p here)) x)) (place_of here state x) ≡ true
name_in p None _ (in_main types) state right x = or_left _ false (below_itself (whole (ProgramVariable x)))
name_in p (Some _) _ (in_routine id r older there) state right x =
    ap (λ o. is_in_one state.heap (root_areas state.frames (name_root (is_own o) x)) (place_in state.frames x)) there ∙ by_frames state.frames right.frames
  where
    by_frames : (frames : List Frame) → frames_right p (frame_of id r ∷ older) state.heap frames ≡ true → is_in_one state.heap (root_areas frames (name_root (is_own (Some r)) x)) (place_in frames x) ≡ true
    by_frames [] h = absurd (false≢true h)
    by_frames (f ∷ frames) h = by_found (found f.names x) refl (own_bound p older state.heap r f.names x (first_frame p (frame_of id r) older state.heap f frames h).names)
      where
        by_found : (o : Option Binding) → found f.names x ≡ o → is_own (Some r) x ≡ is_some (found f.names x) → is_in_one state.heap (root_areas (f ∷ frames) (name_root (is_own (Some r)) x)) (place_in (f ∷ frames) x) ≡ true
        by_found None is own =
            ap (λ b. is_in_one state.heap (root_areas (f ∷ frames) (cond b (Own x) (Shared (Variable x)))) (bound_place (length frames) x (found f.names x))) (own ∙ ap is_some is)
            ∙ (ap (λ o. is_in_one state.heap (root_areas (f ∷ frames) (Shared (Variable x))) (bound_place (length frames) x o)) is ∙ or_left _ false (below_itself (whole (ProgramVariable x))))
        by_found (Some b) is own =
            ap (λ c. is_in_one state.heap (root_areas (f ∷ frames) (cond c (Own x) (Shared (Variable x)))) (bound_place (length frames) x (found f.names x))) (own ∙ ap is_some is)
            ∙ (ap (λ o. is_in_one state.heap (bound_areas (length frames) x o) (bound_place (length frames) x o)) is ∙ in_bound state.heap (length frames) x b)

-- ---- names that refer to nothing

-- where no slot is a VAR parameter, no name refers to a place
pub none_referred : (p : Program) (older : List FrameType) (heap : List HeapRow) (slots : List Slot) (names : List (Symbol × Binding)) → list_any (λ s. s.by_place) slots ≡ false → names_right p older heap slots names ≡ true → referred names ≡ []
none_referred p older heap [] [] none right = refl
none_referred p older heap [] (n ∷ names) none right = absurd (false≢true right)
none_referred p older heap (s ∷ slots) [] none right = absurd (false≢true right)
none_referred p older heap (s ∷ slots) ((x, b) ∷ names) none right =
    by_binding b s.by_place (left_false s.by_place (list_any (λ s. s.by_place) slots) none) (left_true (binding_right p older heap s b) _ rest)
    (none_referred p older heap slots names (right_false s.by_place (list_any (λ s. s.by_place) slots) none) (right_true (binding_right p older heap s b) _ rest))
  where
    rest : (binding_right p older heap s b && names_right p older heap slots names) ≡ true
    rest = right_true (same_name s.name x) _ right

    by_binding : (b : Binding) (place : Bool) → place ≡ false → binding_right p older heap (record { name = s.name; of = s.of; by_place = place }) b ≡ true → referred names ≡ [] → referred ((x, b) ∷ names) ≡ []
    by_binding (Holding v) place is h later = later
    by_binding (Referring a) true is h later = absurd (false≢true (sym is))
    by_binding (Referring a) false is h later = absurd (false≢true h)

pub own_by_value : (own : List (Symbol × TypeId)) → list_any (λ s. s.by_place) (map own_slot own) ≡ false
own_by_value [] = refl
own_by_value (n ∷ own) = own_by_value own

pub formals_by_place : (formals : List Formal) → list_any (λ s. s.by_place) (map formal_slot formals) ≡ list_any (λ f. f.by_place) formals
formals_by_place [] = refl
formals_by_place (f ∷ formals) = ap (λ b. f.by_place || b) (formals_by_place formals)

-- ---- areas that are read later

-- what an own name covers
abbrev covered_from : ℕ → Symbol → Option (Option Place) → List Area
covered_from number x None = []
covered_from number x (Some o) = area_from number (x, o) ∷ []

abbrev covered_among : List Outline → Symbol → List Area
covered_among [] x = []
covered_among (o ∷ others) x = covered_from (length others) x (found o.names x)

bound_from : (number : ℕ) (names : List (Symbol × Binding)) (x : Symbol) → bound_areas number x (found names x) ≡ covered_from number x (found (map reference_of names) x)
bound_from number [] x = refl
bound_from number (n ∷ names) x = by_name (same_name n.0 x) n.1 (bound_from number names x)
  where
    by_name : (b : Bool) (c : Binding) → bound_areas number x (found names x) ≡ covered_from number x (found (map reference_of names) x)
        → bound_areas number x (cond b (Some c) (found names x)) ≡ covered_from number x (cond b (Some (reference c)) (found (map reference_of names) x))
    by_name true (Holding v) later = refl
    by_name true (Referring a) later = refl
    by_name false c later = later

covered_told : (frames : List Frame) (x : Symbol) → own_areas frames x ≡ covered_among (map outline frames) x
covered_told [] x = refl
covered_told (f ∷ frames) x = bound_from (length frames) f.names x ∙ ap (λ n. covered_from n x (found (map reference_of f.names) x)) (sym (as_long frames))

pub bounds_stay : (s t : State) → outlines t ≡ outlines s → (x : Symbol) → own_areas t.frames x ≡ own_areas s.frames x
bounds_stay s t same x = covered_told t.frames x ∙ (ap (λ k. covered_among k x) same ∙ sym (covered_told s.frames x))

-- the areas of roots stay where references stay
pub areas_kept : (s t : State) → outlines t ≡ outlines s → (roots : List Root) → areas_of t.frames roots ≡ areas_of s.frames roots
areas_kept s t same [] = refl
areas_kept s t same (root ∷ roots) = λ i. one root i ++ areas_kept s t same roots i
  where
    one : (root : Root) → root_areas t.frames root ≡ root_areas s.frames root
    one (Own x) = bounds_stay s t same x
    one (Shared i) = refl
