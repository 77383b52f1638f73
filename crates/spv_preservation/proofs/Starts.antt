-- Right states and starts.
use Rattle.spv_preservation.specs.Right.{HasValues}
use Rattle.spv_meaning.specs.FrameTypes.{FrameType, IsIn, Slot, binding_right, formal_slot, frame_of, frames_right, in_main, in_routine, names_right, own_slot, slots_of}
use Rattle.std.proofs.Common.{◌≡◌, ℕ, Bool, true, false, cond, ◌&&◌, List, [], ◌∷◌, ◌++◌, map, filter, refl, sym, ap, ◌∙◌, nat_eq, Option, Some, None, arith}
use Rattle.std.specs.Cmp.Derive.{both_true}
use Rattle.std.proofs.lemmas.Bool.{false≢true}
use Rattle.std.proofs.lemmas.Bool.Decides.{nat_tests}
use Rattle.spv_logic.proofs.list.Tests.{left_true, right_true}
use Rattle.spv_logic.specs.declared.names.names.Symbol.{Symbol}
use Rattle.spv_logic.specs.declared.types.TypeId.{TypeId}
use Rattle.spv_logic.specs.declared.conditions.RoutineId.{RoutineId}
use Rattle.spv_logic.specs.Values.{Value}
use Rattle.spv_logic.specs.Fits.{fits}
use Rattle.spv_program.specs.declared.types.Item.TheVariants.{Variable}
use Rattle.spv_program.specs.Lists.{same_name, found, first_of}
use Rattle.spv_program.specs.Types.{sort_of}
use Rattle.spv_program.specs.Programs.{Formal, Routine, Program, shapes, routine_in}
use Rattle.spv_program.specs.Scopes.{result_name, own_names_in}
use Rattle.spv_program.proofs.SortFacts.{Behind, nothing_there}
use Rattle.spv_meaning.specs.Places.{Binding, Frame, HeapRow, State, Holding, Referring, look, value_or_zero}
use Rattle.spv_meaning.specs.Views.{place_of, sees, shown_type}
use Rattle.spv_meaning.specs.Starts.{IsRightFor, IsStart, binds, newest_binds, has_frame, is_of_type, apart, IsRight}
use Rattle.spv_meaning.proofs.RoutineStarts.{found_among}
use Rattle.spv_preservation.proofs.Roots.{first_frame}
use Rattle.spv_preservation.proofs.Places.{look_there, look_fits}
use Rattle.spv_preservation.proofs.Names.{name_place}

-- ---- a right state is a start

abbrev slot_kinds : List Slot → List (Symbol × Bool)
slot_kinds slots = map (λ s. (s.name, s.by_place)) slots

abbrev own_names : List (Symbol × TypeId) → List (Symbol × Bool)
own_names own = map (λ n. (n.0, false)) own

abbrev formal_names : List Formal → List (Symbol × Bool)
formal_names formals = map (λ f. (f.name, f.by_place)) formals

names_bind : (p : Program) (older : List FrameType) (heap : List HeapRow) (slots : List Slot) (names : List (Symbol × Binding)) → names_right p older heap slots names ≡ true → binds (slot_kinds slots) names ≡ true
names_bind p older heap [] [] h = refl
names_bind p older heap [] (n ∷ names) h = absurd (false≢true h)
names_bind p older heap (s ∷ slots) [] h = absurd (false≢true h)
names_bind p older heap (s ∷ slots) (n ∷ names) h =
    by_binding s.by_place n.1 (left_true (same_name s.name n.0) _ h) (left_true (binding_right p older heap s n.1) _ rest)
    (names_bind p older heap slots names (right_true (binding_right p older heap s n.1) _ rest))
  where
    rest : (binding_right p older heap s n.1 && names_right p older heap slots names) ≡ true
    rest = right_true (same_name s.name n.0) _ h

    by_binding : (place : Bool) (b : Binding) → same_name s.name n.0 ≡ true → binding_right p older heap (record { name = s.name; of = s.of; by_place = place }) b ≡ true → binds (slot_kinds slots) names ≡ true
        → binds ((s.name, place) ∷ slot_kinds slots) ((n.0, b) ∷ names) ≡ true
    by_binding true (Holding v) same right others = absurd (false≢true right)
    by_binding true (Referring a) same right others = both_true same others
    by_binding false (Holding v) same right others = both_true same others
    by_binding false (Referring a) same right others = absurd (false≢true right)

own_kinds : (own : List (Symbol × TypeId)) → slot_kinds (map own_slot own) ≡ own_names own
own_kinds [] = refl
own_kinds (n ∷ own) = ap (λ (rest : List (Symbol × Bool)). (n.0, false) ∷ rest) (own_kinds own)

slots_kinds : (formals : List Formal) (own : List (Symbol × TypeId)) → slot_kinds (map formal_slot formals ++ map own_slot own) ≡ formal_names formals ++ own_names own
slots_kinds [] own = own_kinds own
slots_kinds (f ∷ formals) own = ap (λ (rest : List (Symbol × Bool)). (f.name, f.by_place) ∷ rest) (slots_kinds formals own)

frame_is : (p : Program) (here : Option RoutineId) (types : List FrameType) → IsIn p here types → (state : State) → IsRight p types state → has_frame p here (routine_in p here) state ≡ true
frame_is p None _ (in_main types) state right = refl
frame_is p (Some _) _ (in_routine id r older there) state right = ap (λ o. has_frame p (Some id) o state) there ∙ by_frames state.frames right.frames
  where
    swapped : (n m : ℕ) → nat_eq n m ≡ true → nat_eq m n ≡ true
    swapped n m e = grind (arith, nat_tests)

    by_frames : (frames : List Frame) → frames_right p (frame_of id r ∷ older) state.heap frames ≡ true → newest_binds id r frames ≡ true
    by_frames [] h = absurd (false≢true h)
    by_frames (f ∷ frames) h =
        let first = first_frame p (frame_of id r) older state.heap f frames h in
        both_true (swapped id.0 f.routine.0 first.routine)
        (ap (λ (kinds : List (Symbol × Bool)). binds kinds f.names) (sym (slots_kinds r.formals (result_name r.name r.result ++ r.locals)))
        ∙ names_bind p older state.heap (slots_of r) f.names first.names)

-- a name that shows has the type that its declaration gives
shown_is_named : (p : Program) (here : Option Routine) (own : List (Symbol × TypeId)) (x : Symbol) (t : TypeId) → found (own ++ filter (λ n. sees here (Variable n.0)) p.variables) x ≡ Some t → first_of (found own x) (found p.variables x) ≡ Some t
shown_is_named p here [] x t e = found_among (λ y. sees here (Variable y)) p.variables x t e
shown_is_named p here (n ∷ own) x t e = by_name (same_name n.0 x) e (shown_is_named p here own x t)
  where
    by_name : (b : Bool) → cond b (Some n.1) (found (own ++ filter (λ n. sees here (Variable n.0)) p.variables) x) ≡ Some t
        → (found (own ++ filter (λ n. sees here (Variable n.0)) p.variables) x ≡ Some t → first_of (found own x) (found p.variables x) ≡ Some t) → first_of (cond b (Some n.1) (found own x)) (found p.variables x) ≡ Some t
    by_name true e later = e
    by_name false e later = later e

shown_holds : (p : Program) (here : Option RoutineId) (types : List FrameType) → IsIn p here types → (state : State) → IsRight p types state → (x : Symbol) (t : TypeId) → shown_type p (routine_in p here) x ≡ Some t → is_of_type p t (look state (place_of here state x)) ≡ true
shown_holds p here types inside state right x t shown =
    let named = shown_is_named p (routine_in p here) (own_names_in (routine_in p here)) x t shown in
    let told = name_place p here types inside state right x t named in
    let there = look_there p types state right (place_of here state x) (sort_of p.forms t) told in
    by_value (look state (place_of here state x)) there (look_fits p types state right (place_of here state x) (sort_of p.forms t) told)
  where
    by_value : (o : Option Value) → Behind (λ v. Some v) o (value_or_zero o) → fits (shapes p) (value_or_zero o) (sort_of p.forms t) ≡ true → is_of_type p t o ≡ true
    by_value None b h = absurd (nothing_there b.is)
    by_value (Some v) b h = h

pub has_values : (p : Program) (here : Option RoutineId) (state : State) → IsRightFor p here state → HasValues p here state
has_values p here state q = record {
  right = q;
  frame = frame_is p here q.types q.inside state q.right;
  names = λ x t e. shown_holds p here q.types q.inside state q.right x t e;
  heap = q.right.heap;
}

pub right_is_start : (p : Program) (here : Option RoutineId) (state : State) → IsRightFor p here state → apart (routine_in p here) state ≡ true → IsStart p here state
right_is_start p here state q parts =
    let has = has_values p here state q in
    record { right = has.right; frame = has.frame; names = has.names; heap = has.heap; areas = parts }
