-- References and routines of frames stay.
use Rattle.std.proofs.Common.{◌≡◌, ℕ, suc, Bool, true, false, cond, List, [], ◌∷◌, map, length, refl, sym, ap, ◌∙◌, nat_eq, Option, Some, None}
use Rattle.std.specs.Option.{option_and_then}
use Rattle.spv_logic.specs.declared.names.names.Symbol.{Symbol}
use Rattle.spv_logic.specs.declared.conditions.RoutineId.{RoutineId}
use Rattle.spv_logic.specs.Values.{Value}
use Rattle.spv_program.specs.Lists.{same_name, found, changed}
use Rattle.spv_program.specs.Programs.{Program}
use Rattle.spv_program.proofs.SortFacts.{nothing_there}
use Rattle.spv_meaning.specs.Places.{Root, Place, Binding, Frame, State, ProgramVariable, OwnValue, CellOf, Holding, Referring, frame_at, held, own_value, root_value, with_frame_value, with_root, whole, value_or_zero, with_part}
use Rattle.spv_meaning.specs.Views.{bound_place, place_in}
use Rattle.spv_meaning.specs.Starts.{Area, At, bound_area, frame_areas}
use Rattle.spv_writes.specs.Writes.{Outline, Writes, reference, outline, outlines}
use Rattle.spv_writes.proofs.Kept.{kept}

-- ---- a put

abbrev pub reference_of : Symbol × Binding → Symbol × Option Place
reference_of n = (n.0, reference n.1)

abbrev named : Symbol → Option Place → Symbol × Option Place
named x o = (x, o)

names_stay : (names : List (Symbol × Binding)) (x : Symbol) (u w : Value) → option_and_then held (found names x) ≡ Some u → map reference_of (changed names x (Holding w)) ≡ map reference_of names
names_stay [] x u w there = refl
names_stay (n ∷ names) x u w there = by_name (same_name n.0 x) there (names_stay names x u w)
  where
    kind : (b : Binding) → held b ≡ Some u → named n.0 (reference (Holding w)) ≡ named n.0 (reference b)
    kind (Holding v) e = refl
    kind (Referring a) e = absurd (nothing_there e)

    by_name : (b : Bool) → option_and_then held (cond b (Some n.1) (found names x)) ≡ Some u
        → (option_and_then held (found names x) ≡ Some u → map reference_of (changed names x (Holding w)) ≡ map reference_of names)
        → map reference_of (cond b ((n.0, Holding w) ∷ names) (n ∷ changed names x (Holding w))) ≡ map reference_of (n ∷ names)
    by_name true there later = ap (λ (k : Symbol × Option Place). k ∷ map reference_of names) (kind n.1 there)
    by_name false there later = ap (λ (k : List (Symbol × Option Place)). reference_of n ∷ k) (later there)

abbrev outline_with : RoutineId → List (Symbol × Option Place) → Outline
outline_with id names = record { routine = id; names = names }

frames_stay : (frames : List Frame) (number : ℕ) (x : Symbol) (u w : Value) → option_and_then (own_value x) (frame_at frames number) ≡ Some u → map outline (with_frame_value frames number x w) ≡ map outline frames
frames_stay [] number x u w there = refl
frames_stay (f ∷ frames) number x u w there = by_number (nat_eq number (length frames)) there (frames_stay frames number x u w)
  where
    by_number : (b : Bool) → option_and_then (own_value x) (cond b (Some f) (frame_at frames number)) ≡ Some u
        → (option_and_then (own_value x) (frame_at frames number) ≡ Some u → map outline (with_frame_value frames number x w) ≡ map outline frames)
        → map outline (cond b (record { routine = f.routine; names = changed f.names x (Holding w) } ∷ frames) (f ∷ with_frame_value frames number x w)) ≡ map outline (f ∷ frames)
    by_number true there later = ap (λ (k : List (Symbol × Option Place)). outline_with f.routine k ∷ map outline frames) (names_stay f.names x u w there)
    by_number false there later = ap (λ (k : List Outline). outline f ∷ k) (later there)

root_stays : (state : State) (r : Root) (u w : Value) → root_value state r ≡ Some u → outlines (with_root state r w) ≡ outlines state
root_stays state (ProgramVariable x) u w there = refl
root_stays state (OwnValue number x) u w there = frames_stay state.frames number x u w there
root_stays state (CellOf cell) u w there = refl

pub outlines_stay : (p : Program) (areas : List Area) (s t : State) → Writes p areas s t → outlines t ≡ outlines s
outlines_stay p areas s t w =
    kept p areas (λ x. outlines x ≡ outlines s)
    (record {
      put = λ x a e v place fit inside h. root_stays x a.root place.whole (with_part (value_or_zero (root_value x a.root)) a.path v) place.is ∙ h;
      new = λ x cell u v new fit has h. h;
    }) s t w refl

-- ---- what outlines tell

abbrev pub area_from : ℕ → Symbol × Option Place → Area
area_from number (x, None) = At (whole (OwnValue number x))
area_from number (x, Some a) = At a

abbrev areas_from : List Outline → List Area
areas_from [] = []
areas_from (o ∷ others) = map (area_from (length others)) o.names

pub as_long : (frames : List Frame) → length (map outline frames) ≡ length frames
as_long [] = refl
as_long (f ∷ frames) = ap suc (as_long frames)

names_areas : (number : ℕ) (names : List (Symbol × Binding)) → map (bound_area number) names ≡ map (area_from number) (map reference_of names)
names_areas number [] = refl
names_areas number (n ∷ names) = λ i. one n.0 n.1 i ∷ names_areas number names i
  where
    one : (x : Symbol) (b : Binding) → bound_area number (x, b) ≡ area_from number (x, reference b)
    one x (Holding v) = refl
    one x (Referring a) = refl

frames_areas : (frames : List Frame) → frame_areas frames ≡ areas_from (map outline frames)
frames_areas [] = refl
frames_areas (f ∷ frames) = names_areas (length frames) f.names ∙ ap (λ n. map (area_from n) (map reference_of f.names)) (sym (as_long frames))

pub areas_stay : (s t : State) → outlines t ≡ outlines s → frame_areas t.frames ≡ frame_areas s.frames
areas_stay s t same = frames_areas t.frames ∙ (ap areas_from same ∙ sym (frames_areas s.frames))

-- where a name lies
abbrev place_from : ℕ → Symbol → Option (Option Place) → Place
place_from number x None = whole (ProgramVariable x)
place_from number x (Some None) = whole (OwnValue number x)
place_from number x (Some (Some a)) = a

abbrev place_among : List Outline → Symbol → Place
place_among [] x = whole (ProgramVariable x)
place_among (o ∷ others) x = place_from (length others) x (found o.names x)

name_from : (number : ℕ) (names : List (Symbol × Binding)) (x : Symbol) → bound_place number x (found names x) ≡ place_from number x (found (map reference_of names) x)
name_from number [] x = refl
name_from number (n ∷ names) x = by_name (same_name n.0 x) n.1 (name_from number names x)
  where
    by_name : (b : Bool) (c : Binding) → bound_place number x (found names x) ≡ place_from number x (found (map reference_of names) x)
        → bound_place number x (cond b (Some c) (found names x)) ≡ place_from number x (cond b (Some (reference c)) (found (map reference_of names) x))
    by_name true (Holding v) later = refl
    by_name true (Referring a) later = refl
    by_name false c later = later

place_told : (frames : List Frame) (x : Symbol) → place_in frames x ≡ place_among (map outline frames) x
place_told [] x = refl
place_told (f ∷ frames) x = name_from (length frames) f.names x ∙ ap (λ n. place_from n x (found (map reference_of f.names) x)) (sym (as_long frames))

pub places_stay : (s t : State) → outlines t ≡ outlines s → (x : Symbol) → place_in t.frames x ≡ place_in s.frames x
places_stay s t same x = place_told t.frames x ∙ (ap (λ k. place_among k x) same ∙ sym (place_told s.frames x))
