-- Places that lie in areas, and places that part.
use Rattle.std.proofs.Common.{◌≡◌, ℕ, Bool, true, false, ◌&&◌, List, [], ◌∷◌, ◌++◌, refl, sym, ap, ◌∙◌, nat_eq, Option, Some, None}
use Rattle.std.specs.Option.{option_and_then}
use Rattle.std.specs.Cmp.Derive.{both_true}
use Rattle.std.proofs.lemmas.Bool.{false≢true, eqb-true, eq-eqb}
use Rattle.spv_logic.proofs.list.Tests.{left_true, right_true}
use Rattle.spv_logic.specs.declared.types.TypeId.{TypeId}
use Rattle.spv_logic.proofs.Equality.{int_eq-true, int_eq-refl}
use Rattle.spv_program.specs.Lists.{same_name}
use Rattle.spv_program.specs.Types.{same_type}
use Rattle.spv_program.proofs.ExpressionSorting.{same_types}
use Rattle.spv_meaning.specs.Places.{Root, PathStep, Place, HeapRow, ProgramVariable, OwnValue, CellOf, IndexStep, FieldStep, row_of}
use Rattle.spv_meaning.specs.FrameTypes.{row_type, cell_type}
use Rattle.spv_meaning.specs.Evaluation.{is_cell_of}
use Rattle.spv_meaning.specs.Starts.{Area, At, CellsOf, same_root, same_step, paths_meet, places_overlap, lies_in, overlap}
use Rattle.spv_meaning.proofs.Maps.{same_names}
use Rattle.spv_writes.specs.Writes.{begins_with, is_below, is_in, is_in_one, is_cells_of, has_cells_of, is_touched}
use Rattle.spv_writes.proofs.Lists.{not_so, swapped, number_swap, picked}

-- ---- roots

pub roots_same : (r s : Root) → same_root r s ≡ true → r ≡ s
roots_same (ProgramVariable x) (ProgramVariable y) h = ap ProgramVariable (same_names x y h)
roots_same (ProgramVariable x) (OwnValue m y) h = absurd (false≢true h)
roots_same (ProgramVariable x) (CellOf d) h = absurd (false≢true h)
roots_same (OwnValue n x) (ProgramVariable y) h = absurd (false≢true h)
roots_same (OwnValue n x) (OwnValue m y) h =
    let i = eqb-true n m (left_true (nat_eq n m) (same_name x y) h) in
    let j = same_names x y (right_true (nat_eq n m) (same_name x y) h) in
    λ k. OwnValue (i k) (j k)
roots_same (OwnValue n x) (CellOf d) h = absurd (false≢true h)
roots_same (CellOf c) (ProgramVariable y) h = absurd (false≢true h)
roots_same (CellOf c) (OwnValue m y) h = absurd (false≢true h)
roots_same (CellOf c) (CellOf d) h = ap CellOf (eqb-true c d h)

pub root_itself : (r : Root) → same_root r r ≡ true
root_itself (ProgramVariable x) = eq-eqb x.0 x.0 refl
root_itself (OwnValue n x) = both_true (eq-eqb n n refl) (eq-eqb x.0 x.0 refl)
root_itself (CellOf c) = eq-eqb c c refl

pub root_swap : (r s : Root) → same_root r s ≡ same_root s r
root_swap r s = swapped same_root roots_same root_itself r s

-- ---- paths

pub steps_same : (s t : PathStep) → same_step s t ≡ true → s ≡ t
steps_same (IndexStep i) (IndexStep j) h = ap IndexStep (int_eq-true i j h)
steps_same (IndexStep i) (FieldStep g) h = absurd (false≢true h)
steps_same (FieldStep f) (IndexStep j) h = absurd (false≢true h)
steps_same (FieldStep f) (FieldStep g) h = ap FieldStep (same_names f g h)

step_itself : (s : PathStep) → same_step s s ≡ true
step_itself (IndexStep i) = int_eq-refl i
step_itself (FieldStep f) = eq-eqb f.0 f.0 refl

step_swap : (s t : PathStep) → same_step s t ≡ same_step t s
step_swap s t = swapped same_step steps_same step_itself s t

pub paths_swap : (a b : List PathStep) → paths_meet a b ≡ paths_meet b a
paths_swap [] [] = refl
paths_swap [] (t ∷ b) = refl
paths_swap (s ∷ a) [] = refl
paths_swap (s ∷ a) (t ∷ b) = λ i. step_swap s t i && paths_swap a b i

pub path_itself : (path : List PathStep) → begins_with path path ≡ true
path_itself [] = refl
path_itself (s ∷ path) = both_true (step_itself s) (path_itself path)

-- a path that goes further
pub path_further : (path more front : List PathStep) → begins_with path front ≡ true → begins_with (path ++ more) front ≡ true
path_further path more [] h = refl
path_further [] more (s ∷ front) h = absurd (false≢true h)
path_further (t ∷ path) more (s ∷ front) h =
    both_true (left_true (same_step s t) (begins_with path front) h) (path_further path more front (right_true (same_step s t) (begins_with path front) h))

path_on : (one two three : List PathStep) → begins_with one two ≡ true → begins_with two three ≡ true → begins_with one three ≡ true
path_on one two [] h k = refl
path_on one [] (u ∷ three) h k = absurd (false≢true k)
path_on [] (t ∷ two) (u ∷ three) h k = absurd (false≢true h)
path_on (s ∷ one) (t ∷ two) (u ∷ three) h k =
    both_true (ap (same_step u) (sym (steps_same t s (left_true (same_step t s) (begins_with one two) h))) ∙ left_true (same_step u t) (begins_with two three) k)
    (path_on one two three (right_true (same_step t s) (begins_with one two) h) (right_true (same_step u t) (begins_with two three) k))

-- what meets a path meets each path that it begins with
meets_above : (path front other : List PathStep) → begins_with path front ≡ true → paths_meet path other ≡ true → paths_meet front other ≡ true
meets_above path [] other h k = refl
meets_above [] (s ∷ front) other h k = absurd (false≢true h)
meets_above (t ∷ path) (s ∷ front) [] h k = refl
meets_above (t ∷ path) (s ∷ front) (u ∷ other) h k =
    both_true (ap (λ r. same_step r u) (steps_same s t (left_true (same_step s t) (begins_with path front) h)) ∙ left_true (same_step t u) (paths_meet path other) k)
    (meets_above path front other (right_true (same_step s t) (begins_with path front) h) (right_true (same_step t u) (paths_meet path other) k))

-- ---- places

pub below_root : (a b : Place) → is_below a b ≡ true → b.root ≡ a.root
below_root a b h = roots_same b.root a.root (left_true (same_root b.root a.root) (begins_with a.path b.path) h)

pub below_path : (a b : Place) → is_below a b ≡ true → begins_with a.path b.path ≡ true
below_path a b h = right_true (same_root b.root a.root) (begins_with a.path b.path) h

pub below_itself : (a : Place) → is_below a a ≡ true
below_itself a = both_true (root_itself a.root) (path_itself a.path)

pub below_on : (a b c : Place) → is_below a b ≡ true → is_below b c ≡ true → is_below a c ≡ true
below_on a b c h k =
    both_true (ap (same_root c.root) (sym (below_root a b h)) ∙ left_true (same_root c.root b.root) (begins_with b.path c.path) k)
    (path_on a.path b.path c.path (below_path a b h) (below_path b c k))

pub places_swap : (a b : Place) → places_overlap a b ≡ places_overlap b a
places_swap a b = λ i. root_swap a.root b.root i && paths_swap a.path b.path i

-- what overlaps a place overlaps each one that it lies below
pub overlaps_above : (a b c : Place) → is_below a b ≡ true → places_overlap a c ≡ true → places_overlap b c ≡ true
overlaps_above a b c h k =
    both_true (ap (λ r. same_root r c.root) (below_root a b h) ∙ left_true (same_root a.root c.root) (paths_meet a.path c.path) k)
    (meets_above a.path b.path c.path (below_path a b h) (right_true (same_root a.root c.root) (paths_meet a.path c.path) k))

-- ---- cells of a type

abbrev pub typed : TypeId → Option TypeId → Bool
typed t None = false
typed t (Some u) = same_type u t

pub cell_test : (t : TypeId) (o : Option HeapRow) → is_cell_of t o ≡ typed t (option_and_then row_type o)
cell_test t None = refl
cell_test t (Some r) = refl

pub typed_is : (t : TypeId) (o : Option TypeId) → typed t o ≡ true → o ≡ Some t
typed_is t None h = absurd (false≢true h)
typed_is t (Some u) h = ap Some (same_types u t h)

pub lies_typed : (heap : List HeapRow) (cell : ℕ) (t : TypeId) → lies_in heap (CellOf cell) t ≡ true → cell_type heap cell ≡ Some t
lies_typed heap cell t h = typed_is t (cell_type heap cell) (sym (cell_test t (row_of heap cell)) ∙ h)

pub lies_by : (heap : List HeapRow) (cell : ℕ) (t u : TypeId) → cell_type heap cell ≡ Some u → lies_in heap (CellOf cell) t ≡ same_type u t
lies_by heap cell t u h = cell_test t (row_of heap cell) ∙ ap (typed t) h

pub types_swap : (t u : TypeId) (b : Bool) → same_type t u ≡ b → same_type u t ≡ b
types_swap t u b h = number_swap t.0 u.0 b h

-- what is of one type is of no other
pub one_type : (heap : List HeapRow) (r : Root) (t u : TypeId) → lies_in heap r t ≡ true → lies_in heap r u ≡ true → same_type t u ≡ true
one_type heap (ProgramVariable x) t u h k = absurd (false≢true h)
one_type heap (OwnValue n x) t u h k = absurd (false≢true h)
one_type heap (CellOf cell) t u h k = sym (lies_by heap cell u t (lies_typed heap cell t h)) ∙ k

-- ---- areas

-- a place in an area that does not overlap another place parts from that place
pub in_apart : (heap : List HeapRow) (b a : Place) (area : Area) → is_in heap b area ≡ true → overlap heap area (At a) ≡ false → places_overlap b a ≡ false
in_apart heap b a (At c) inside apart = not_so (places_overlap b a) (λ h. sym apart ∙ overlaps_above b c a inside h)
in_apart heap b a (CellsOf t) inside apart =
    not_so (places_overlap b a) (λ h. sym apart ∙ (ap (λ r. lies_in heap r t) (sym (roots_same b.root a.root (left_true (same_root b.root a.root) (paths_meet b.path a.path) h))) ∙ inside))

pub one_apart : (heap : List HeapRow) (areas : List Area) (b a : Place) → is_in_one heap areas b ≡ true → is_touched heap areas (At a) ≡ false → places_overlap b a ≡ false
one_apart heap areas b a inside apart =
    let q = picked (is_in heap b) (λ area. overlap heap area (At a)) areas inside apart in
    in_apart heap b a q.item q.passes q.fails

-- and one in an area that does not overlap the cells of a type is no such cell
pub in_no_class : (heap : List HeapRow) (b : Place) (t : TypeId) (area : Area) → is_in heap b area ≡ true → overlap heap area (CellsOf t) ≡ false → lies_in heap b.root t ≡ false
in_no_class heap b t (At c) inside apart = ap (λ r. lies_in heap r t) (sym (below_root b c inside)) ∙ apart
in_no_class heap b t (CellsOf u) inside apart = not_so (lies_in heap b.root t) (λ h. sym apart ∙ one_type heap b.root u t inside h)

pub one_no_class : (heap : List HeapRow) (areas : List Area) (b : Place) (t : TypeId) → is_in_one heap areas b ≡ true → is_touched heap areas (CellsOf t) ≡ false → lies_in heap b.root t ≡ false
one_no_class heap areas b t inside apart =
    let q = picked (is_in heap b) (λ area. overlap heap area (CellsOf t)) areas inside apart in
    in_no_class heap b t q.item q.passes q.fails

cells_differ : (heap : List HeapRow) (t u : TypeId) (area : Area) → is_cells_of u area ≡ true → overlap heap area (CellsOf t) ≡ false → same_type u t ≡ false
cells_differ heap t u (At c) h apart = absurd (false≢true h)
cells_differ heap t u (CellsOf w) h apart = ap (λ k. same_type k t) (sym (same_types w u h)) ∙ apart

pub new_no_class : (heap : List HeapRow) (areas : List Area) (u t : TypeId) → has_cells_of areas u ≡ true → is_touched heap areas (CellsOf t) ≡ false → same_type u t ≡ false
new_no_class heap areas u t has apart =
    let q = picked (is_cells_of u) (λ area. overlap heap area (CellsOf t)) areas has apart in
    cells_differ heap t u q.item q.passes q.fails
