-- A class of which one cell was written.
use Rattle.std.proofs.Common.{◌≡◌, ℕ, zero, suc, Bool, true, false, cond, ◌&&◌, ◌||◌, not, List, [], ◌∷◌, pos, refl, sym, ap, subst, ◌∙◌, nat_eq, nat_lt, Option, Some, None, is_some}
use Rattle.std.specs.Option.{option_and_then}
use Rattle.std.specs.List.{list_all}
use Rattle.std.specs.Ordering.{int_eq}
use Rattle.std.specs.Cmp.Derive.{both_true}
use Rattle.std.proofs.lemmas.Bool.{false≢true, eqb-true, eq-eqb}
use Rattle.spv_logic.proofs.list.Tests.{left_true, right_true}
use Rattle.spv_logic.specs.declared.types.TypeId.{TypeId}
use Rattle.spv_logic.specs.declared.types.Sort.{Sort}
use Rattle.spv_logic.specs.declared.types.Sort.TheVariants as sort
use Rattle.spv_logic.specs.Values.{Value, Rows, ClassOf, Pointer, members_of, default_in, rows_in, row_at, put_row, with_cell, with_member}
use Rattle.spv_logic.specs.Terms.{class_with}
use Rattle.spv_logic.specs.Shapes.{shapes_ok, sort_of_type}
use Rattle.spv_logic.specs.Fits.{ascend, lacks, keys_are_pointers, cells_after, fits, rows_fit}
use Rattle.spv_logic.proofs.Sorting.{class_parts, class_put, with_cell-after}
use Rattle.spv_logic.proofs.Changes.{class_same, pos_differs, differs}
use Rattle.spv_program.specs.Types.{same_type, sort_of}
use Rattle.spv_program.specs.Programs.{Program, shapes}
use Rattle.spv_program.proofs.SortFacts.{nothing_there, some_is, sort_is, behind}
use Rattle.spv_program.proofs.ExpressionSorting.{same_types}
use Rattle.spv_meaning.specs.Places.{Root, PathStep, Place, HeapRow, State, ProgramVariable, OwnValue, CellOf, whole, row_of, content_of, root_value, with_content, with_root, with_part, look, put, value_or_zero}
use Rattle.spv_meaning.specs.Views.{with_heap_row, class_of}
use Rattle.spv_meaning.specs.Walks.{is_new, with_new_cell}
use Rattle.spv_meaning.specs.Evaluation.{is_cell_of}
use Rattle.spv_meaning.specs.FrameTypes.{FrameType, row_type, cell_type}
use Rattle.spv_meaning.specs.Starts.{Area, At, CellsOf, IsRight, is_of_type, row_ok, same_root, lies_in, overlap}
use Rattle.spv_meaning.proofs.Heaps.{class_fits}
use Rattle.spv_meaning.proofs.Puts.{look_elsewhere}
use Rattle.spv_rule_soundness.proofs.evaluation.Settings.{content}
use Rattle.spv_preservation.specs.facts.Places.{IsPlace}
use Rattle.spv_preservation.proofs.facts.Places.{root_after}
use Rattle.spv_preservation.proofs.Roots.{root_there}
use Rattle.spv_preservation.proofs.Frames.{leaves_now}
use Rattle.spv_preservation.proofs.Statements.{new_is_nowhere, with_cell_right}
use Rattle.spv_writes.specs.Writes.{Writes, begins_with, is_below, is_in, is_cells_of, lies_below, is_touched_in}
use Rattle.spv_writes.proofs.Lists.{or_left, not_so, clash, chosen_from, all_same, number_swap}
use Rattle.spv_writes.proofs.Places.{roots_same, below_root, below_on, in_no_class, lies_by}
use Rattle.spv_writes.proofs.Steps.{put_types, put_overlaps, put_class, new_grows, new_look, new_class}
use Rattle.spv_writes.proofs.Kept.{Steps, kept, one_put}
use Rattle.spv_writes.proofs.Right.{put_stays_right}
use Rattle.spv_writes.proofs.Rows.{InOrder, put_twice, put_back, put_either}

-- a class with another content in a cell
abbrev pub set_cell : Value → ℕ → Value → Value
set_cell c cell w = class_with (members_of c) c (Pointer cell) w

-- ---- classes by their rows

module _ (p : Program) (ok : shapes_ok (shapes p) ≡ true) (t : TypeId) where
  abbrev s : Sort
  s = sort.Class t

  abbrev e : Sort
  e = sort_of_type (shapes p) t

  abbrev IsClass : Value → Type 0
  IsClass c = fits (shapes p) c (sort.Class t) ≡ true

  class_order : (cells : List ℕ) (d : Value) (rows : Rows) → IsClass (ClassOf cells d rows) → InOrder d rows
  class_order cells d rows h =
      let rest = right_true (rows_fit (shapes p) rows e) (ascend rows && (lacks d rows && (keys_are_pointers rows && cells_after 0 cells))) (right_true (fits (shapes p) d e) _ h) in
      let after = right_true (ascend rows) (lacks d rows && (keys_are_pointers rows && cells_after 0 cells)) rest in
      record { ascends = left_true (ascend rows) _ rest; lacks_it = left_true (lacks d rows) _ after }

  set_fits : (c : Value) (cell : ℕ) (w : Value) → IsClass c → fits (shapes p) w e ≡ true → IsClass (set_cell c cell w)
  set_fits c cell w h fit = class_put (shapes p) c s e cell w (λ cells. cells) (λ cells k. k) refl h fit

  row_fits : (c : Value) (r : HeapRow) → IsClass c → nat_lt 0 r.cell ≡ true → fits (shapes p) r.content e ≡ true → IsClass (with_heap_row r c)
  row_fits c r h above fit = class_put (shapes p) c s e r.cell r.content (λ cells. with_cell cells r.cell) (λ cells k. with_cell-after 0 r.cell cells above k) refl h fit

  -- the second content of a cell counts
  set_twice : (c : Value) (cell : ℕ) (v w : Value) → IsClass c → fits (shapes p) v e ≡ true → fits (shapes p) w e ≡ true → set_cell (set_cell c cell v) cell w ≡ set_cell c cell w
  set_twice c cell v w h one two =
      let first = set_fits c cell v h one in
      ap (ClassOf (members_of c) (default_in c))
      (put_twice (default_in c) (rows_in c) (pos cell) v w
      (class_order (members_of c) (default_in c) _ (set_fits (set_cell c cell v) cell w first two)) (class_order (members_of c) (default_in c) _ (set_fits c cell w h two))
      (class_same (shapes p) s e (set_cell c cell v) w (pos cell) refl first) (class_same (shapes p) s e c w (pos cell) refl h))

  -- the content of a cell, put there again
  set_back : (c : Value) (cell : ℕ) (v : Value) → IsClass c → fits (shapes p) v e ≡ true → row_at (rows_in c) (pos cell) (default_in c) ≡ v → set_cell c cell v ≡ c
  set_back c cell v h fit there =
      let q = class_parts (shapes p) c s e refl h in
      let now : fits (shapes p) (row_at (rows_in c) (pos cell) (default_in c)) e ≡ true = ap (λ k. fits (shapes p) k e) there ∙ fit in
      let rows : put_row (rows_in c) (pos cell) (row_at (rows_in c) (pos cell) (default_in c)) (default_in c) ≡ rows_in c = put_back (default_in c) (rows_in c) (pos cell)
      (class_order (members_of c) (default_in c) _ (set_fits c cell (row_at (rows_in c) (pos cell) (default_in c)) h now))
      (class_order q.cells (default_in c) (rows_in c) (subst (λ k. IsClass (ClassOf q.cells (default_in k) (rows_in k))) (sym q.is) (subst IsClass q.is h)))
      (class_same (shapes p) s e c (row_at (rows_in c) (pos cell) (default_in c)) (pos cell) refl h) in
      ap (λ k. set_cell c cell k) (sym there) ∙ (ap (ClassOf (members_of c) (default_in c)) rows ∙ all_of c q.cells q.other q.rows q.is)
    where
      all_of : (c : Value) (cells : List ℕ) (d : Value) (rows : Rows) → c ≡ ClassOf cells d rows → ClassOf (members_of c) (default_in c) (rows_in c) ≡ c
      all_of c cells d rows is = ap (λ k. ClassOf (members_of k) (default_in k) (rows_in k)) is ∙ sym is

  -- a cell in front of a class whose cell was written
  set_under : (c : Value) (r : HeapRow) (cell : ℕ) (w : Value) → IsClass c → nat_lt 0 r.cell ≡ true → fits (shapes p) r.content e ≡ true → fits (shapes p) w e ≡ true → nat_eq r.cell cell ≡ false → with_heap_row r (set_cell c cell w) ≡ set_cell (with_heap_row r c) cell w
  set_under c r cell w h above fit_r fit_w other =
      ap (ClassOf (with_cell (members_of c) r.cell) (default_in c))
      (put_either (default_in c) (rows_in c) (pos cell) (pos r.cell) w r.content (apart cell r.cell (number_swap r.cell cell false other)) (apart r.cell cell other)
      (class_order (with_cell (members_of c) r.cell) (default_in c) _ (row_fits (set_cell c cell w) r set above fit_r)) (class_order (with_cell (members_of c) r.cell) (default_in c) _ (set_fits (with_heap_row r c) cell w under fit_w))
      (class_same (shapes p) s e c w (pos cell) refl h) (class_same (shapes p) s e c r.content (pos r.cell) refl h)
      (class_same (shapes p) s e (set_cell c cell w) r.content (pos r.cell) refl set) (class_same (shapes p) s e (with_heap_row r c) w (pos cell) refl under))
    where
      set : IsClass (set_cell c cell w)
      set = set_fits c cell w h fit_w

      under : IsClass (with_heap_row r c)
      under = row_fits c r h above fit_r

      apart : (n m : ℕ) → nat_eq n m ≡ false → int_eq (pos n) (pos m) ≡ false
      apart n m other = differs (pos n) (pos m) (pos_differs n m (λ same. clash (nat_eq n m) (eq-eqb n m same) other))

  -- the content of a row of the type
  row_content : (r : HeapRow) → row_ok p r ≡ true → same_type r.type t ≡ true → fits (shapes p) r.content e ≡ true
  row_content r h same =
      ap (fits (shapes p) r.content) (sort_is p.forms t ∙ ap (sort_of p.forms) (sym (same_types r.type t same)))
      ∙ right_true (nat_lt 0 r.cell) (fits (shapes p) r.content (sort_of p.forms r.type)) h

  rows_fit_class : (heap : List HeapRow) → list_all (row_ok p) heap ≡ true → IsClass (class_of (shapes p) heap t)
  rows_fit_class [] h = class_fits p ok [] refl t
  rows_fit_class (r ∷ heap) h = by_type (same_type r.type t) refl (rows_fit_class heap (right_true (row_ok p r) _ h))
    where
      by_type : (b : Bool) → same_type r.type t ≡ b → IsClass (class_of (shapes p) heap t) → IsClass (cond b (with_heap_row r (class_of (shapes p) heap t)) (class_of (shapes p) heap t))
      by_type true same later = row_fits (class_of (shapes p) heap t) r later (left_true (nat_lt 0 r.cell) _ (left_true (row_ok p r) _ h)) (row_content r (left_true (row_ok p r) _ h) same)
      by_type false same later = later

  -- a cell of the type with another content: the class with that content
  pub set_in_heap : (heap : List HeapRow) → list_all (row_ok p) heap ≡ true → (cell : ℕ) (r : HeapRow) (w : Value) → row_of heap cell ≡ Some r → same_type r.type t ≡ true → fits (shapes p) w e ≡ true → class_of (shapes p) (with_content heap cell w) t ≡ set_cell (class_of (shapes p) heap t) cell w
  set_in_heap [] all cell r w there same fit = absurd (nothing_there there)
  set_in_heap (q ∷ heap) all cell r w there same fit =
      by_cell (nat_eq q.cell cell) refl there (λ there. set_in_heap heap (right_true (row_ok p q) _ all) cell r w there same fit)
    where
      c : Value
      c = class_of (shapes p) heap t

      fit_c : IsClass c
      fit_c = rows_fit_class heap (right_true (row_ok p q) _ all)

      above : nat_lt 0 q.cell ≡ true
      above = left_true (nat_lt 0 q.cell) _ (left_true (row_ok p q) _ all)

      content_fits : same_type q.type t ≡ true → fits (shapes p) q.content e ≡ true
      content_fits same = row_content q (left_true (row_ok p q) _ all) same

      by_type : (b : Bool) → same_type q.type t ≡ b → nat_eq q.cell cell ≡ false → class_of (shapes p) (with_content heap cell w) t ≡ set_cell c cell w
          → cond b (with_heap_row q (class_of (shapes p) (with_content heap cell w) t)) (class_of (shapes p) (with_content heap cell w) t) ≡ set_cell (cond b (with_heap_row q c) c) cell w
      by_type true is other later = ap (with_heap_row q) later ∙ set_under c q cell w fit_c above (content_fits is) fit other
      by_type false is other later = later

      by_cell : (b : Bool) → nat_eq q.cell cell ≡ b → cond b (Some q) (row_of heap cell) ≡ Some r → (row_of heap cell ≡ Some r → class_of (shapes p) (with_content heap cell w) t ≡ set_cell c cell w)
          → class_of (shapes p) (cond b (record { cell = q.cell; type = q.type; content = w } ∷ heap) (q ∷ with_content heap cell w)) t ≡ set_cell (class_of (shapes p) (q ∷ heap) t) cell w
      by_cell true is there later =
          let type : same_type q.type t ≡ true = ap (λ (k : HeapRow). same_type k.type t) (some_is there) ∙ same in
          ap (λ b. cond b (with_heap_row (record { cell = q.cell; type = q.type; content = w }) c) c) type
          ∙ (sym (set_twice_at q.cell q.content w fit_c above (content_fits type) fit)
          ∙ (ap (λ k. set_cell (with_heap_row q c) k w) (eqb-true q.cell cell is) ∙ sym (ap (λ b. set_cell (cond b (with_heap_row q c) c) cell w) type)))
        where
          set_twice_at : (n : ℕ) (v w : Value) → IsClass c → nat_lt 0 n ≡ true → fits (shapes p) v e ≡ true → fits (shapes p) w e ≡ true
              → ClassOf (with_cell (members_of c) n) (default_in c) (put_row (put_row (rows_in c) (pos n) v (default_in c)) (pos n) w (default_in c)) ≡ ClassOf (with_cell (members_of c) n) (default_in c) (put_row (rows_in c) (pos n) w (default_in c))
          set_twice_at n v w h above one two = ap (λ k. ClassOf (with_cell (members_of c) n) (default_in c) (rows_in k)) (set_twice c n v w h one two)
      by_cell false is there later = by_type (same_type q.type t) refl is (later there)

-- ---- new rows

-- a new cell of the type: the class that is extended by it
pub new_extends : (p : Program) (state : State) (cell : ℕ) (t : TypeId) (v : Value) → is_new state.heap cell ≡ true → class_of (shapes p) (with_new_cell cell t v state).heap t ≡ class_with (with_member (members_of (class_of (shapes p) state.heap t)) cell) (class_of (shapes p) state.heap t) (Pointer cell) v
new_extends p state zero t v new = absurd (false≢true new)
new_extends p state (suc n) t v new =
    ap (λ b. cond b (with_heap_row (record { cell = suc n; type = t; content = v }) (class_of (shapes p) state.heap t)) (class_of (shapes p) state.heap t)) (eq-eqb t.0 t.0 refl)

-- a new cell of another type leaves what lies in cells of the type
new_lies_other : (state : State) (cell : ℕ) (u t : TypeId) (v : Value) → is_new state.heap cell ≡ true → same_type u t ≡ false → (r : Root) → lies_in (with_new_cell cell u v state).heap r t ≡ lies_in state.heap r t
new_lies_other state cell u t v new other (ProgramVariable x) = refl
new_lies_other state cell u t v new other (OwnValue n x) = refl
new_lies_other state cell u t v new other (CellOf c) = by_cell (nat_eq cell c) refl
  where
    nowhere : (o : Option HeapRow) → is_some o ≡ false → is_cell_of t o ≡ false
    nowhere None h = refl
    nowhere (Some r) h = absurd (false≢true (sym h))

    by_cell : (b : Bool) → nat_eq cell c ≡ b → is_cell_of t (cond b (Some (record { cell = cell; type = u; content = v })) (row_of state.heap c)) ≡ is_cell_of t (row_of state.heap c)
    by_cell true e = other ∙ sym (nowhere (row_of state.heap c) (ap (λ k. is_some (row_of state.heap k)) (sym (eqb-true cell c e)) ∙ new_is_nowhere state.heap cell new))
    by_cell false e = refl

new_overlap_other : (state : State) (cell : ℕ) (u t : TypeId) (v : Value) → is_new state.heap cell ≡ true → same_type u t ≡ false → (b : Area) → overlap (with_new_cell cell u v state).heap b (CellsOf t) ≡ overlap state.heap b (CellsOf t)
new_overlap_other state cell u t v new other (At b) = new_lies_other state cell u t v new other b.root
new_overlap_other state cell u t v new other (CellsOf w) = refl

-- ---- writing

module _ (p : Program) (ok : shapes_ok (shapes p) ≡ true) (types : List FrameType) (areas : List Area) (t : TypeId) (cell : ℕ) (c : Value) (fit : fits (shapes p) c (sort.Class t) ≡ true) where
  -- the class is the old one with what the cell holds now
  record OneCell (x : State) : Type 0 where
    now : Value
    right : IsRight p types x
    type : cell_type x.heap cell ≡ Some t
    there : look x (whole (CellOf cell)) ≡ Some now
    is : class_of (shapes p) x.heap t ≡ set_cell c cell now
    below : is_touched_in x.heap areas t cell ≡ true

  content_ok : (x : State) (now : Value) → IsRight p types x → cell_type x.heap cell ≡ Some t → look x (whole (CellOf cell)) ≡ Some now → fits (shapes p) now (sort_of_type (shapes p) t) ≡ true
  content_ok x now right type there =
      ap (fits (shapes p) now) (sort_is p.forms t) ∙ (ap (is_of_type p t) (sym (whole_there (root_value x (CellOf cell)) there)) ∙ root_there p types x right (CellOf cell) t type)
    where
      whole_there : (o : Option Value) → option_and_then (λ v. Some v) o ≡ Some now → o ≡ Some now
      whole_there None e = absurd (nothing_there e)
      whole_there (Some v) e = e

  still_below : (x : State) (b : Place) (v : Value) → is_touched_in x.heap areas t cell ≡ true → is_touched_in (put x b v).heap areas t cell ≡ true
  still_below x b v h = all_same _ (λ a. not (overlap x.heap a (CellsOf t)) || lies_below (whole (CellOf cell)) a) (λ a. ap (λ k. not k || lies_below (whole (CellOf cell)) a) (put_overlaps x b.root (with_part (value_or_zero (root_value x b.root)) b.path v) a (CellsOf t))) areas ∙ h

  -- a put in the cell
  put_inside : (x : State) (b : Place) (f : Sort) (v : Value) → IsPlace (shapes p) x b f → fits (shapes p) v f ≡ true → OneCell x → CellOf cell ≡ b.root → OneCell (put x b v)
  put_inside x b f v place ok_v q root =
      let next : Value = with_part place.whole b.path v in
      let right = put_stays_right p types x q.right b f v place ok_v in
      let type = put_types x b.root (with_part (value_or_zero (root_value x b.root)) b.path v) cell ∙ q.type in
      let there : look (put x b v) (whole (CellOf cell)) ≡ Some next = ap (λ r. option_and_then (λ w. Some w) (root_value (put x b v) r)) root ∙ ap (option_and_then (λ w. Some w)) (root_after (shapes p) x b f place v) in
      let r = behind row_type (row_of x.heap cell) t q.type in
      record {
        now = next;
        right = right;
        type = type;
        there = there;
        is = at_cell x b v next (ap (λ o. with_part (value_or_zero o) b.path v) place.is) root
            ∙ (set_in_heap p ok t x.heap (left_true (list_all (row_ok p) x.heap) _ q.right.heap) cell r.item next r.is (ap (λ k. same_type k t) (some_is r.gives) ∙ eq-eqb t.0 t.0 refl) (content_ok (put x b v) next right type there)
            ∙ (ap (λ k. set_cell k cell next) q.is ∙ set_twice p ok t c cell q.now next fit (content_ok x q.now q.right q.type q.there) (content_ok (put x b v) next right type there)));
        below = still_below x b v q.below;
      }
    where
      at_cell : (x : State) (b : Place) (v next : Value) → with_part (value_or_zero (root_value x b.root)) b.path v ≡ next → CellOf cell ≡ b.root → class_of (shapes p) (put x b v).heap t ≡ class_of (shapes p) (with_content x.heap cell next) t
      at_cell x b v next is root = ap (λ w. class_of (shapes p) (with_root x b.root w).heap t) is ∙ sym (ap (λ r. class_of (shapes p) (with_root x r next).heap t) root)

  -- a put elsewhere
  put_outside : (x : State) (b : Place) (f : Sort) (v : Value) → IsPlace (shapes p) x b f → fits (shapes p) v f ≡ true → OneCell x → lies_in x.heap b.root t ≡ false → OneCell (put x b v)
  put_outside x b f v place ok_v q outside = record {
    now = q.now;
    right = put_stays_right p types x q.right b f v place ok_v;
    type = put_types x b.root (with_part (value_or_zero (root_value x b.root)) b.path v) cell ∙ q.type;
    there = look_elsewhere x b (whole (CellOf cell)) v (not_so (same_root b.root (CellOf cell)) (λ h. sym outside ∙ (ap (λ r. lies_in x.heap r t) (roots_same b.root (CellOf cell) h) ∙ (lies_by x.heap cell t t q.type ∙ eq-eqb t.0 t.0 refl)))) ∙ q.there;
    is = put_class p x b v place.whole t place.is outside ∙ q.is;
    below = still_below x b v q.below;
  }

  one_cell_steps : Steps p areas OneCell
  one_cell_steps = record {
    put = λ x b f v place ok_v inside q.
        let a = chosen_from (is_in x.heap b) (λ a. not (overlap x.heap a (CellsOf t)) || lies_below (whole (CellOf cell)) a) areas inside q.below in
        by_area x b f v place ok_v q a.item a.one (overlap x.heap a.item (CellsOf t)) refl a.two;
    new = λ x d u v new ok_v has q.
        let a = chosen_from (is_cells_of u) (λ a. not (overlap x.heap a (CellsOf t)) || lies_below (whole (CellOf cell)) a) areas has q.below in
        let other = another x u a.item a.one a.two in
        record {
          now = q.now;
          right = (with_cell_right p types x.heap x d u v (leaves_now p types x q.right) new ok_v).right;
          type = (new_grows x d u v new).keeps cell t q.type;
          there = new_look x d u v new (whole (CellOf cell)) q.now q.there;
          is = new_class p x d u t v other ∙ q.is;
          below = all_same _ (λ a. not (overlap x.heap a (CellsOf t)) || lies_below (whole (CellOf cell)) a) (λ a. ap (λ k. not k || lies_below (whole (CellOf cell)) a) (new_overlap_other x d u t v new other a)) areas ∙ q.below;
        };
  }
    where
      under : (x : State) (b : Place) (a : Area) → is_in x.heap b a ≡ true → lies_below (whole (CellOf cell)) a ≡ true → CellOf cell ≡ b.root
      under x b (At a) inside h = below_root b (whole (CellOf cell)) (below_on b a (whole (CellOf cell)) inside h)
      under x b (CellsOf w) inside h = absurd (false≢true h)

      another : (x : State) (u : TypeId) (a : Area) → is_cells_of u a ≡ true → (not (overlap x.heap a (CellsOf t)) || lies_below (whole (CellOf cell)) a) ≡ true → same_type u t ≡ false
      another x u (At a) h k = absurd (false≢true h)
      another x u (CellsOf w) h k = ap (λ z. same_type z t) (sym (same_types w u h)) ∙ by_not (same_type w t) k
        where
          by_not : (b : Bool) → (not b || false) ≡ true → b ≡ false
          by_not true h = absurd (false≢true h)
          by_not false h = refl

      by_area : (x : State) (b : Place) (f : Sort) (v : Value) → IsPlace (shapes p) x b f → fits (shapes p) v f ≡ true → OneCell x → (a : Area) → is_in x.heap b a ≡ true → (k : Bool) → overlap x.heap a (CellsOf t) ≡ k → (not k || lies_below (whole (CellOf cell)) a) ≡ true → OneCell (put x b v)
      by_area x b f v place ok_v q a inside true is h = put_inside x b f v place ok_v q (under x b a inside h)
      by_area x b f v place ok_v q a inside false is h = put_outside x b f v place ok_v q (in_no_class x.heap b t a inside is)

-- where each area that overlaps the cells of a type lies in one of them, the class afterwards is the old class with what
-- that cell holds
pub one_cell_written : (p : Program) → shapes_ok (shapes p) ≡ true → (types : List FrameType) (areas : List Area) (s t : State) → Writes p areas s t → IsRight p types s → (u : TypeId) (cell : ℕ) → cell_type s.heap cell ≡ Some u → is_touched_in s.heap areas u cell ≡ true
    → class_of (shapes p) t.heap u ≡ set_cell (class_of (shapes p) s.heap u) cell (value_or_zero (look t (whole (CellOf cell))))
one_cell_written p ok types areas s t w right u cell type below =
    let c : Value = class_of (shapes p) s.heap u in
    let fit = class_fits p ok s.heap right.heap u in
    let r = behind row_type (row_of s.heap cell) u type in
    let same : same_type r.item.type u ≡ true = ap (λ k. same_type k u) (some_is r.gives) ∙ eq-eqb u.0 u.0 refl in
    let held : look s (whole (CellOf cell)) ≡ Some r.item.content = ap (λ o. option_and_then (λ v. Some v) (option_and_then content_of o)) r.is in
    let q = kept p areas (OneCell p ok types areas u cell c fit) (one_cell_steps p ok types areas u cell c fit) s t w (record {
      now = r.item.content;
      right = right;
      type = type;
      there = held;
      is = sym (set_back p ok u c cell r.item.content fit (content_ok p ok types areas u cell c fit s r.item.content right type held) (content p ok s.heap right.heap u r.item cell r.is same));
      below = below;
    }) in
    q.is ∙ ap (λ o. set_cell c cell (value_or_zero o)) (sym q.there)

-- a put at or below a cell
pub put_in_cell : (p : Program) → shapes_ok (shapes p) ≡ true → (types : List FrameType) (s : State) → IsRight p types s → (u : TypeId) (cell : ℕ) → cell_type s.heap cell ≡ Some u → (path : List PathStep) (e : Sort) (w : Value) → IsPlace (shapes p) s (record { root = CellOf cell; path = path }) e → fits (shapes p) w e ≡ true
    → class_of (shapes p) (put s (record { root = CellOf cell; path = path }) w).heap u ≡ set_cell (class_of (shapes p) s.heap u) cell (value_or_zero (look (put s (record { root = CellOf cell; path = path }) w) (whole (CellOf cell))))
put_in_cell p ok types s right u cell type path e w place fit =
    let a : Place = record { root = CellOf cell; path = path } in
    let areas : List Area = At (whole (CellOf cell)) ∷ [] in
    one_cell_written p ok types areas s (put s a w) (one_put p areas s a e w place fit (or_left (is_below a (whole (CellOf cell))) false (inside path))) right u cell type
    (at_itself (not (lies_in s.heap (CellOf cell) u)))
  where
    same : (nat_eq cell cell && true) ≡ true
    same = both_true (eq-eqb cell cell refl) refl

    inside : (path : List PathStep) → (nat_eq cell cell && begins_with path []) ≡ true
    inside [] = same
    inside (x ∷ path) = same

    at_itself : (b : Bool) → ((b || (nat_eq cell cell && true)) && true) ≡ true
    at_itself true = refl
    at_itself false = both_true same refl
