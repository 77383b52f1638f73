-- What roots of a right state hold, and a right state after another value was put there.
use Rattle.spv_meaning.specs.FrameTypes.{FrameType, Slot, binding_right, cell_type, frame_type, frames_right, kept_type, names_right, own_type, path_sort, place_sort, root_type, row_type, slot_in}
use Rattle.std.proofs.Common.{◌≡◌, ℕ, suc, Bool, true, false, cond, ◌&&◌, not, List, [], ◌∷◌, length, refl, sym, ap, ◌∙◌, nat_eq, Option, Some, None}
use Rattle.std.specs.Option.{option_and_then}
use Rattle.std.specs.List.{list_all}
use Rattle.std.specs.Cmp.Derive.{both_true}
use Rattle.std.proofs.lemmas.Bool.{false≢true}
use Rattle.spv_logic.proofs.list.Tests.{left_true, right_true}
use Rattle.spv_logic.specs.declared.names.names.Symbol.{Symbol}
use Rattle.spv_logic.specs.declared.types.TypeId.{TypeId}
use Rattle.spv_logic.specs.declared.types.Sort.{Sort}
use Rattle.spv_logic.specs.Values.{Value}
use Rattle.spv_logic.specs.Fits.{fits}
use Rattle.spv_program.specs.Lists.{same_name, found}
use Rattle.spv_program.specs.Types.{sort_of}
use Rattle.spv_program.specs.Programs.{Program, shapes}
use Rattle.spv_program.proofs.SortFacts.{nothing_there, some_is, Behind, behind}
use Rattle.spv_meaning.specs.Places.{Root, Place, Binding, Frame, HeapRow, State, ProgramVariable, OwnValue, CellOf, Holding, Referring, held, own_value, content_of, row_of, frame_at, root_value, value_or_zero}
use Rattle.spv_meaning.specs.Starts.{row_ok, heap_ok, is_of_type, IsRight}
use Rattle.spv_meaning.proofs.Maps.{same_names}
use Rattle.spv_preservation.specs.facts.Places.{IsPlace}

-- ---- tests that are passed

pub first_of_two : (a b : Bool) → (a && b) ≡ true → a ≡ true
first_of_two a b h = left_true a b h

not_passed : (b : Bool) → not b ≡ true → b ≡ false
not_passed true h = absurd (false≢true h)
not_passed false h = refl

-- ---- values of frames

-- what a kept name holds is of its type
pub name_there : (p : Program) (older : List FrameType) (heap : List HeapRow) (slots : List Slot) (names : List (Symbol × Binding)) (x : Symbol) (t : TypeId) → names_right p older heap slots names ≡ true → option_and_then kept_type (slot_in slots x) ≡ Some t → is_of_type p t (option_and_then held (found names x)) ≡ true
name_there p older heap [] [] x t right kept = absurd (nothing_there kept)
name_there p older heap [] (n ∷ names) x t right kept = absurd (nothing_there kept)
name_there p older heap (s ∷ slots) [] x t right kept = absurd (false≢true right)
name_there p older heap (s ∷ slots) (n ∷ names) x t right kept =
    by_name (same_name s.name x) (ap (λ y. same_name y x) (sym (same_names s.name n.0 same))) kept
    (name_there p older heap slots names x t (right_true (binding_right p older heap s n.1) _ rest))
  where
    same : same_name s.name n.0 ≡ true
    same = left_true (same_name s.name n.0) _ right

    rest : (binding_right p older heap s n.1 && names_right p older heap slots names) ≡ true
    rest = right_true (same_name s.name n.0) _ right

    by_binding : (b : Binding) → (place : Bool) → cond place None (Some s.of) ≡ Some t → binding_right p older heap (record { name = s.name; of = s.of; by_place = place }) b ≡ true → is_of_type p t (held b) ≡ true
    by_binding (Holding v) true kept h = absurd (nothing_there kept)
    by_binding (Holding v) false kept h = ap (λ t. fits (shapes p) v (sort_of p.forms t)) (sym (some_is kept)) ∙ h
    by_binding (Referring a) true kept h = absurd (nothing_there kept)
    by_binding (Referring a) false kept h = absurd (false≢true h)

    by_name : (b : Bool) → same_name n.0 x ≡ b → option_and_then kept_type (cond b (Some s) (slot_in slots x)) ≡ Some t
        → (option_and_then kept_type (slot_in slots x) ≡ Some t → is_of_type p t (option_and_then held (found names x)) ≡ true) → is_of_type p t (option_and_then held (found (n ∷ names) x)) ≡ true
    by_name true e kept later =
        ap (λ b. is_of_type p t (option_and_then held (cond b (Some n.1) (found names x)))) e
        ∙ by_binding n.1 s.by_place kept (left_true (binding_right p older heap s n.1) _ rest)
    by_name false e kept later = ap (λ b. is_of_type p t (option_and_then held (cond b (Some n.1) (found names x)))) e ∙ later kept

-- as many frames as types
pub as_many : (p : Program) (types : List FrameType) (heap : List HeapRow) (frames : List Frame) → frames_right p types heap frames ≡ true → length frames ≡ length types
as_many p [] heap [] right = refl
as_many p [] heap (f ∷ frames) right = absurd (false≢true right)
as_many p (t ∷ types) heap [] right = absurd (false≢true right)
as_many p (t ∷ types) heap (f ∷ frames) right =
    ap suc (as_many p types heap frames (right_true (names_right p types heap t.slots f.names) _ (right_true (nat_eq t.routine.0 f.routine.0) _ right)))

-- the parts of frames that are right
pub record FirstFrame (p : Program) (t : FrameType) (types : List FrameType) (heap : List HeapRow) (f : Frame) (frames : List Frame) : Type 0 where
  pub routine : nat_eq t.routine.0 f.routine.0 ≡ true
  pub names : names_right p types heap t.slots f.names ≡ true
  pub others : frames_right p types heap frames ≡ true
  pub number : length frames ≡ length types

pub first_frame : (p : Program) (t : FrameType) (types : List FrameType) (heap : List HeapRow) (f : Frame) (frames : List Frame) → frames_right p (t ∷ types) heap (f ∷ frames) ≡ true → FirstFrame p t types heap f frames
first_frame p t types heap f frames right =
    let rest = right_true (nat_eq t.routine.0 f.routine.0) (names_right p types heap t.slots f.names && frames_right p types heap frames) right in
    let others = right_true (names_right p types heap t.slots f.names) (frames_right p types heap frames) rest in
    record {
      routine = left_true (nat_eq t.routine.0 f.routine.0) _ right;
      names = left_true (names_right p types heap t.slots f.names) _ rest;
      others = others;
      number = as_many p types heap frames others;
    }

pub frames_from : (p : Program) (t : FrameType) (types : List FrameType) (heap : List HeapRow) (f : Frame) (frames : List Frame) → nat_eq t.routine.0 f.routine.0 ≡ true → names_right p types heap t.slots f.names ≡ true → frames_right p types heap frames ≡ true → frames_right p (t ∷ types) heap (f ∷ frames) ≡ true
frames_from p t types heap f frames routine names others = both_true routine (both_true names others)

own_there : (p : Program) (types : List FrameType) (heap : List HeapRow) (frames : List Frame) (number : ℕ) (x : Symbol) (t : TypeId) → frames_right p types heap frames ≡ true → option_and_then (own_type x) (frame_type types number) ≡ Some t → is_of_type p t (option_and_then (own_value x) (frame_at frames number)) ≡ true
own_there p [] heap frames number x t right told = absurd (nothing_there told)
own_there p (u ∷ types) heap [] number x t right told = absurd (false≢true right)
own_there p (u ∷ types) heap (f ∷ frames) number x t right told =
    by_number (first_frame p u types heap f frames right) (nat_eq number (length types)) refl told (own_there p types heap frames number x t)
  where
    by_number : FirstFrame p u types heap f frames → (b : Bool) → nat_eq number (length types) ≡ b → option_and_then (own_type x) (cond b (Some u) (frame_type types number)) ≡ Some t
        → (frames_right p types heap frames ≡ true → option_and_then (own_type x) (frame_type types number) ≡ Some t → is_of_type p t (option_and_then (own_value x) (frame_at frames number)) ≡ true)
        → is_of_type p t (option_and_then (own_value x) (frame_at (f ∷ frames) number)) ≡ true
    by_number first true e told later =
        ap (λ b. is_of_type p t (option_and_then (own_value x) (cond b (Some f) (frame_at frames number)))) (ap (nat_eq number) first.number ∙ e)
        ∙ name_there p types heap u.slots f.names x t first.names told
    by_number first false e told later =
        ap (λ b. is_of_type p t (option_and_then (own_value x) (cond b (Some f) (frame_at frames number)))) (ap (nat_eq number) first.number ∙ e)
        ∙ later first.others told

-- ---- cells

row_right : (p : Program) (heap : List HeapRow) (cell : ℕ) (r : HeapRow) → list_all (row_ok p) heap ≡ true → row_of heap cell ≡ Some r → row_ok p r ≡ true
row_right p [] cell r all there = absurd (nothing_there there)
row_right p (s ∷ heap) cell r all there = by_cell (nat_eq s.cell cell) there (row_right p heap cell r (right_true (row_ok p s) _ all))
  where
    by_cell : (b : Bool) → cond b (Some s) (row_of heap cell) ≡ Some r → (row_of heap cell ≡ Some r → row_ok p r ≡ true) → row_ok p r ≡ true
    by_cell true there later = ap (row_ok p) (sym (some_is there)) ∙ left_true (row_ok p s) _ all
    by_cell false there later = later there

cell_there : (p : Program) (heap : List HeapRow) (cell : ℕ) (t : TypeId) → heap_ok p heap ≡ true → cell_type heap cell ≡ Some t → is_of_type p t (option_and_then content_of (row_of heap cell)) ≡ true
cell_there p heap cell t ok told = by_row (behind row_type (row_of heap cell) t told)
  where
    by_row : Behind row_type (row_of heap cell) t → is_of_type p t (option_and_then content_of (row_of heap cell)) ≡ true
    by_row r =
        let row = row_right p heap cell r.item (left_true (list_all (row_ok p) heap) _ ok) r.is in
        ap (λ o. is_of_type p t (option_and_then content_of o)) r.is
        ∙ (ap (λ t. fits (shapes p) r.item.content (sort_of p.forms t)) (sym (some_is r.gives)) ∙ right_true _ (fits (shapes p) r.item.content (sort_of p.forms r.item.type)) row)

-- ---- roots

-- a root of a type has a value of the type
pub root_there : (p : Program) (types : List FrameType) (state : State) → IsRight p types state → (r : Root) (t : TypeId) → root_type p types state.heap r ≡ Some t → is_of_type p t (root_value state r) ≡ true
root_there p types state right (ProgramVariable x) t told = right.variables x t told
root_there p types state right (OwnValue number x) t told = own_there p types state.heap state.frames number x t right.frames told
root_there p types state right (CellOf cell) t told = cell_there p state.heap cell t right.heap told

value_there : (p : Program) (t : TypeId) (o : Option Value) → is_of_type p t o ≡ true → Behind (λ v. Some v) o (value_or_zero o)
value_there p t None h = absurd (false≢true h)
value_there p t (Some v) h = record { item = v; is = refl; gives = refl }

of_its_type : (p : Program) (t : TypeId) (o : Option Value) (v : Value) → o ≡ Some v → is_of_type p t o ≡ true → fits (shapes p) v (sort_of p.forms t) ≡ true
of_its_type p t o v is h = ap (is_of_type p t) (sym is) ∙ h

-- a place that has a sort
pub place_there : (p : Program) (types : List FrameType) (state : State) → IsRight p types state → (a : Place) (s : Sort) → place_sort p types state.heap a ≡ Some s → IsPlace (shapes p) state a s
place_there p types state right a s told =
    let r = behind (λ t. path_sort (shapes p) (sort_of p.forms t) a.path) (root_type p types state.heap a.root) s told in
    let h = root_there p types state right a.root r.item r.is in
    let v = value_there p r.item (root_value state a.root) h in
    record {
      whole = v.item;
      sort = sort_of p.forms r.item;
      is = v.is;
      fit = of_its_type p r.item (root_value state a.root) v.item v.is h;
      leads = r.gives;
    }
