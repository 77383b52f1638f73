-- What one put, and one new cell, leave as it was.
use Rattle.std.proofs.Common.{◌≡◌, ℕ, Bool, true, false, cond, ◌&&◌, List, [], ◌∷◌, refl, sym, ap, subst, ◌∙◌, nat_eq, Some, is_some}
use Rattle.std.specs.Option.{option_and_then}
use Rattle.std.proofs.lemmas.Bool.{eqb-true}
use Rattle.spv_logic.specs.declared.types.TypeId.{TypeId}
use Rattle.spv_logic.specs.declared.types.Sort.{Sort}
use Rattle.spv_logic.specs.declared.operators.Head.TheVariants as head
use Rattle.spv_logic.specs.Values.{Value}
use Rattle.spv_program.specs.Types.{same_type}
use Rattle.spv_program.specs.Programs.{Program, shapes}
use Rattle.spv_program.proofs.SortFacts.{some_is, behind}
use Rattle.spv_meaning.specs.Places.{Root, Place, HeapRow, State, ProgramVariable, OwnValue, CellOf, row_of, content_of, root_value, with_content, with_root, part_at, with_part, look, value_or_zero, put}
use Rattle.spv_meaning.specs.Views.{with_heap_row, class_of}
use Rattle.spv_meaning.specs.Walks.{is_new, with_new_cell}
use Rattle.spv_meaning.specs.Evaluation.{is_cell_of}
use Rattle.spv_meaning.specs.FrameTypes.{row_type, cell_type}
use Rattle.spv_meaning.specs.Starts.{Area, At, CellsOf, same_root, paths_meet, places_overlap, lies_in, overlap}
use Rattle.spv_meaning.proofs.Puts.{look_elsewhere, below_cell}
use Rattle.spv_preservation.specs.facts.Places.{IsPlace}
use Rattle.spv_preservation.proofs.facts.Places.{put_parts}
use Rattle.spv_preservation.specs.Right.{Grows}
use Rattle.spv_preservation.proofs.Puts.{types_stay}
use Rattle.spv_preservation.proofs.Statements.{new_is_nowhere}
use Rattle.spv_writes.specs.Writes.{is_touched}
use Rattle.spv_writes.proofs.Lists.{clash, any_same, any_fails}
use Rattle.spv_writes.proofs.Places.{roots_same, lies_by, types_swap, cell_test, typed}

-- ---- puts

-- a put leaves what is at a place that parts from it
pub put_beside : (p : Program) (state : State) (b : Place) (e : Sort) → IsPlace (shapes p) state b e → (v : Value) (a : Place) → places_overlap b a ≡ false → look (put state b v) a ≡ look state a
put_beside p state b e place v a apart = by_root (same_root b.root a.root) refl apart
  where
    by_root : (test : Bool) → same_root b.root a.root ≡ test → (test && paths_meet b.path a.path) ≡ false → look (put state b v) a ≡ look state a
    by_root true is apart =
        subst (λ r. look (put state b v) (record { root = r; path = a.path }) ≡ look state (record { root = r; path = a.path })) (roots_same b.root a.root is)
        (put_parts (shapes p) state b e place v a.path apart)
    by_root false is apart = look_elsewhere state b a v is

-- a root with another value leaves the types of all cells
pub put_types : (state : State) (r : Root) (w : Value) (cell : ℕ) → cell_type (with_root state r w).heap cell ≡ cell_type state.heap cell
put_types state (ProgramVariable x) w cell = refl
put_types state (OwnValue n x) w cell = refl
put_types state (CellOf c) w cell = types_stay state.heap c w cell

pub put_grows : (state : State) (a : Place) (v : Value) → Grows state.heap (put state a v).heap
put_grows state a v = record { keeps = λ cell t e. put_types state a.root (with_part (value_or_zero (root_value state a.root)) a.path v) cell ∙ e }

put_lies : (state : State) (r : Root) (w : Value) (s : Root) (t : TypeId) → lies_in (with_root state r w).heap s t ≡ lies_in state.heap s t
put_lies state r w (ProgramVariable x) t = refl
put_lies state r w (OwnValue n x) t = refl
put_lies state r w (CellOf cell) t =
    cell_test t (row_of (with_root state r w).heap cell) ∙ (ap (typed t) (put_types state r w cell) ∙ sym (cell_test t (row_of state.heap cell)))

pub put_overlaps : (state : State) (r : Root) (w : Value) (one two : Area) → overlap (with_root state r w).heap one two ≡ overlap state.heap one two
put_overlaps state r w (At a) (At b) = refl
put_overlaps state r w (At a) (CellsOf t) = put_lies state r w a.root t
put_overlaps state r w (CellsOf t) (At b) = put_lies state r w b.root t
put_overlaps state r w (CellsOf t) (CellsOf u) = refl

pub put_touches : (state : State) (a : Place) (v : Value) (areas : List Area) (area : Area) → is_touched (put state a v).heap areas area ≡ is_touched state.heap areas area
put_touches state a v areas area = any_same _ (λ b. overlap state.heap b area) (λ b. put_overlaps state a.root (with_part (value_or_zero (root_value state a.root)) a.path v) b area) areas

-- a put that is in no cell of a type leaves the class of the type
pub put_class : (p : Program) (state : State) (a : Place) (v whole : Value) (t : TypeId) → root_value state a.root ≡ Some whole → lies_in state.heap a.root t ≡ false → class_of (shapes p) (put state a v).heap t ≡ class_of (shapes p) state.heap t
put_class p state a v whole t there outside = by_root a.root (with_part (value_or_zero (root_value state a.root)) a.path v) there outside
  where
    with_true : (b : Bool) → b ≡ false → (b && true) ≡ false
    with_true true h = h
    with_true false h = refl

    at_cell : (cell : ℕ) (r : HeapRow) (w : Value) → row_of state.heap cell ≡ Some r → lies_in state.heap (CellOf cell) t ≡ false → class_of (shapes p) (with_content state.heap cell w) t ≡ class_of (shapes p) state.heap t
    at_cell cell r w is outside =
        some_is (below_cell p state cell r is [] w (head.ClassVar t 0)
        (with_true (nat_eq t.0 r.type.0) (types_swap r.type t false (sym (lies_by state.heap cell t r.type (ap (option_and_then row_type) is)) ∙ outside))))

    by_root : (r : Root) (w : Value) → root_value state r ≡ Some whole → lies_in state.heap r t ≡ false → class_of (shapes p) (with_root state r w).heap t ≡ class_of (shapes p) state.heap t
    by_root (ProgramVariable x) w there outside = refl
    by_root (OwnValue n x) w there outside = refl
    by_root (CellOf cell) w there outside =
        let r = behind content_of (row_of state.heap cell) whole there in
        at_cell cell r.item w r.is outside

-- ---- new cells

-- a cell that is there is another one than a new one
pub new_is_another : (heap : List HeapRow) (cell other : ℕ) (r : HeapRow) → is_new heap cell ≡ true → row_of heap other ≡ Some r → nat_eq cell other ≡ false
new_is_another heap cell other r new there = by_case (nat_eq cell other) refl
  where
    by_case : (b : Bool) → nat_eq cell other ≡ b → b ≡ false
    by_case true e = clash (is_some (row_of heap cell)) (ap (λ c. is_some (row_of heap c)) (eqb-true cell other e) ∙ ap is_some there) (new_is_nowhere heap cell new)
    by_case false e = refl

pub new_row : (heap : List HeapRow) (cell other : ℕ) (t : TypeId) (v : Value) (r : HeapRow) → is_new heap cell ≡ true → row_of heap other ≡ Some r → row_of (record { cell = cell; type = t; content = v } ∷ heap) other ≡ Some r
new_row heap cell other t v r new there =
    ap (λ b. cond b (Some (record { cell = cell; type = t; content = v })) (row_of heap other)) (new_is_another heap cell other r new there) ∙ there

pub new_grows : (state : State) (cell : ℕ) (t : TypeId) (v : Value) → is_new state.heap cell ≡ true → Grows state.heap (with_new_cell cell t v state).heap
new_grows state cell t v new = record {
  keeps = λ other u e.
      let r = behind row_type (row_of state.heap other) u e in
      ap (option_and_then row_type) (new_row state.heap cell other t v r.item new r.is) ∙ r.gives;
}

-- what a root has, it has beside a new cell
pub new_root : (state : State) (cell : ℕ) (t : TypeId) (v : Value) → is_new state.heap cell ≡ true → (r : Root) (w : Value) → root_value state r ≡ Some w → root_value (with_new_cell cell t v state) r ≡ Some w
new_root state cell t v new (ProgramVariable x) w there = there
new_root state cell t v new (OwnValue n x) w there = there
new_root state cell t v new (CellOf other) w there =
    let r = behind content_of (row_of state.heap other) w there in
    ap (option_and_then content_of) (new_row state.heap cell other t v r.item new r.is) ∙ r.gives

pub new_look : (state : State) (cell : ℕ) (t : TypeId) (v : Value) → is_new state.heap cell ≡ true → (a : Place) (w : Value) → look state a ≡ Some w → look (with_new_cell cell t v state) a ≡ Some w
new_look state cell t v new a w there =
    let r = behind (λ u. part_at u a.path) (root_value state a.root) w there in
    ap (option_and_then (λ u. part_at u a.path)) (new_root state cell t v new a.root r.item r.is) ∙ r.gives

-- where a root has something, a new cell does not change whether it is a cell of a type
new_lies : (state : State) (cell : ℕ) (t : TypeId) (v : Value) → is_new state.heap cell ≡ true → (r : Root) (w : Value) → root_value state r ≡ Some w → (u : TypeId) → lies_in (with_new_cell cell t v state).heap r u ≡ lies_in state.heap r u
new_lies state cell t v new (ProgramVariable x) w there u = refl
new_lies state cell t v new (OwnValue n x) w there u = refl
new_lies state cell t v new (CellOf other) w there u =
    let r = behind content_of (row_of state.heap other) w there in
    ap (λ o. is_cell_of u o) (new_row state.heap cell other t v r.item new r.is) ∙ sym (ap (λ o. is_cell_of u o) r.is)

pub new_overlap : (state : State) (cell : ℕ) (t : TypeId) (v : Value) → is_new state.heap cell ≡ true → (a : Place) (w : Value) → root_value state a.root ≡ Some w → (b : Area) → overlap (with_new_cell cell t v state).heap b (At a) ≡ overlap state.heap b (At a)
new_overlap state cell t v new a w there (At b) = refl
new_overlap state cell t v new a w there (CellsOf u) = new_lies state cell t v new a.root w there u

-- what touched no place that is there, touches it beside a new cell neither
pub new_touches : (state : State) (cell : ℕ) (t : TypeId) (v : Value) → is_new state.heap cell ≡ true → (areas : List Area) (a : Place) (w : Value) → root_value state a.root ≡ Some w → is_touched (with_new_cell cell t v state).heap areas (At a) ≡ is_touched state.heap areas (At a)
new_touches state cell t v new areas a w there = any_same _ (λ b. overlap state.heap b (At a)) (new_overlap state cell t v new a w there) areas

-- a new cell of another type is none of a type
new_none : (state : State) (cell : ℕ) (t u : TypeId) (v : Value) → same_type t u ≡ false → (r : Root) → lies_in state.heap r u ≡ false → lies_in (with_new_cell cell t v state).heap r u ≡ false
new_none state cell t u v other (ProgramVariable x) h = refl
new_none state cell t u v other (OwnValue n x) h = refl
new_none state cell t u v other (CellOf c) h = by_cell (nat_eq cell c)
  where
    by_cell : (b : Bool) → is_cell_of u (cond b (Some (record { cell = cell; type = t; content = v })) (row_of state.heap c)) ≡ false
    by_cell true = other
    by_cell false = h

pub new_touches_class : (state : State) (cell : ℕ) (t u : TypeId) (v : Value) → same_type t u ≡ false → (areas : List Area) → is_touched state.heap areas (CellsOf u) ≡ false → is_touched (with_new_cell cell t v state).heap areas (CellsOf u) ≡ false
new_touches_class state cell t u v other areas h = any_fails _ (λ b. overlap state.heap b (CellsOf u)) each areas h
  where
    each : (b : Area) → overlap state.heap b (CellsOf u) ≡ false → overlap (with_new_cell cell t v state).heap b (CellsOf u) ≡ false
    each (At b) k = new_none state cell t u v other b.root k
    each (CellsOf w) k = k

pub new_class : (p : Program) (state : State) (cell : ℕ) (t u : TypeId) (v : Value) → same_type t u ≡ false → class_of (shapes p) (with_new_cell cell t v state).heap u ≡ class_of (shapes p) state.heap u
new_class p state cell t u v other = ap (λ b. cond b (with_heap_row (record { cell = cell; type = t; content = v }) (class_of (shapes p) state.heap u)) (class_of (shapes p) state.heap u)) other
