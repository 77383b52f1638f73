-- What a put leaves as it was.
use Rattle.std.proofs.Common.{◌≡◌, ℕ, zero, suc, Bool, true, false, cond, ◌&&◌, List, [], ◌∷◌, length, refl, sym, ap, ◌∙◌, nat_eq, Some, None}
use Rattle.std.specs.Option.{option_and_then}
use Rattle.std.proofs.lemmas.Bool.{false≢true}
use Rattle.std.proofs.lemmas.Bool.Decides.{nat_tests}
use Rattle.std.proofs.Common.{arith}
use Rattle.spv_logic.specs.declared.names.names.Symbol.{Symbol}
use Rattle.spv_logic.specs.declared.types.TypeId.{TypeId}
use Rattle.spv_logic.specs.declared.operators.Head.{Head}
use Rattle.spv_logic.specs.declared.operators.Head.TheVariants as head
use Rattle.spv_logic.specs.Values.{Value}
use Rattle.spv_logic.specs.Terms.{head_eq}
use Rattle.spv_program.specs.Lists.{same_name, found, changed}
use Rattle.spv_program.specs.Types.{sort_of}
use Rattle.spv_program.specs.Programs.{Program, shapes}
use Rattle.spv_meaning.specs.Places.{Root, Place, PathStep, Frame, HeapRow, State, ProgramVariable, OwnValue, CellOf, Holding, held, part_at, with_part, frame_at, own_value, row_of, content_of, root_value, with_frame_value, with_content, with_root, look, put, value_or_zero}
use Rattle.spv_meaning.specs.Views.{with_heap_row, class_of, now_view}
use Rattle.spv_meaning.specs.Starts.{same_root}
use Rattle.spv_meaning.proofs.Maps.{found-changed-other}
use Rattle.spv_meaning.proofs.MainViews.{view-other}

-- ---- cells

numbers_swap : (a b c : ℕ) → nat_eq a b ≡ true → nat_eq b c ≡ false → nat_eq a c ≡ false
numbers_swap a b c h g = grind (arith, nat_tests)

-- another cell keeps its row
other_row : (heap : List HeapRow) (cell other : ℕ) (v : Value) → nat_eq cell other ≡ false → row_of (with_content heap cell v) other ≡ row_of heap other
other_row [] cell other v apart = refl
other_row (r ∷ heap) cell other v apart = by_case (nat_eq r.cell cell) refl (other_row heap cell other v apart)
  where
    by_case : (b : Bool) → nat_eq r.cell cell ≡ b → row_of (with_content heap cell v) other ≡ row_of heap other
        → row_of (cond b (record { cell = r.cell; type = r.type; content = v } ∷ heap) (r ∷ with_content heap cell v)) other ≡ cond (nat_eq r.cell other) (Some r) (row_of heap other)
    by_case true same later =
        let differ = numbers_swap r.cell cell other same apart in
        ap (λ b. cond b (Some (record { cell = r.cell; type = r.type; content = v })) (row_of heap other)) differ ∙ sym (ap (λ b. cond b (Some r) (row_of heap other)) differ)
    by_case false same later = ap (cond (nat_eq r.cell other) (Some r)) later

some_row : {r s : HeapRow} → Some r ≡ Some s → r ≡ s
some_row {r} {s} e = cc

-- a class of another type than the cell's stays
other_class : (p : Program) (heap : List HeapRow) (cell : ℕ) (r : HeapRow) (v : Value) (u : TypeId) → row_of heap cell ≡ Some r → nat_eq r.type.0 u.0 ≡ false → class_of (shapes p) (with_content heap cell v) u ≡ class_of (shapes p) heap u
other_class p [] cell r v u is apart = refl
other_class p (s ∷ heap) cell r v u is apart = by_case (nat_eq s.cell cell) is (other_class p heap cell r v u)
  where
    by_case : (b : Bool) → cond b (Some s) (row_of heap cell) ≡ Some r → (row_of heap cell ≡ Some r → nat_eq r.type.0 u.0 ≡ false → class_of (shapes p) (with_content heap cell v) u ≡ class_of (shapes p) heap u)
        → class_of (shapes p) (cond b (record { cell = s.cell; type = s.type; content = v } ∷ heap) (s ∷ with_content heap cell v)) u ≡ cond (nat_eq s.type.0 u.0) (with_heap_row s (class_of (shapes p) heap u)) (class_of (shapes p) heap u)
    by_case true is later =
        let differ : nat_eq s.type.0 u.0 ≡ false = ap (λ (q : HeapRow). nat_eq q.type.0 u.0) (some_row is) ∙ apart in
        ap (λ b. cond b (with_heap_row (record { cell = s.cell; type = s.type; content = v }) (class_of (shapes p) heap u)) (class_of (shapes p) heap u)) differ
        ∙ sym (ap (λ b. cond b (with_heap_row s (class_of (shapes p) heap u)) (class_of (shapes p) heap u)) differ)
    by_case false is later =
        ap (λ c. cond (nat_eq s.type.0 u.0) (with_heap_row s c) c) (later is apart)

-- ---- views of the main block

pub below_variable : (p : Program) (state : State) (x : Symbol) (t : TypeId) → found p.variables x ≡ Some t → (path : List PathStep) (v : Value) (h : Head) → head_eq h (head.Var x (sort_of p.forms t) 0) ≡ false → now_view p None (put state (record { root = ProgramVariable x; path = path }) v) h ≡ now_view p None state h
below_variable p state x t is path v h apart =
    view-other p state x (with_part (value_or_zero (found state.variables x)) path v) t (record { is = is }) h apart

and_true : (b : Bool) → (b && true) ≡ false → b ≡ false
and_true true e = e
and_true false e = e

pub below_cell : (p : Program) (state : State) (cell : ℕ) (r : HeapRow) → row_of state.heap cell ≡ Some r → (path : List PathStep) (v : Value) (h : Head) → head_eq h (head.ClassVar r.type 0) ≡ false → now_view p None (put state (record { root = CellOf cell; path = path }) v) h ≡ now_view p None state h
below_cell p state cell r is path v (head.ClassVar u zero) apart =
    ap Some (other_class p state.heap cell r _ u is (swapped u.0 r.type.0 (and_true (nat_eq u.0 r.type.0) apart)))
  where
    swapped : (m n : ℕ) → nat_eq m n ≡ false → nat_eq n m ≡ false
    swapped m n h = grind (arith, nat_tests)
below_cell p state cell r is path v (head.ClassVar u (suc n)) apart = refl
below_cell p state cell r is path v (head.Var y s zero) apart = refl
below_cell p state cell r is path v (head.Var y s (suc n)) apart = refl
below_cell p state cell r is path v _ apart = refl

-- ---- frames

pub same_length : (frames : List Frame) (number : ℕ) (x : Symbol) (v : Value) → length (with_frame_value frames number x v) ≡ length frames
same_length [] number x v = refl
same_length (f ∷ frames) number x v = by_case (nat_eq number (length frames)) (same_length frames number x v)
  where
    by_case : (b : Bool) → length (with_frame_value frames number x v) ≡ length frames → length (cond b (record { routine = f.routine; names = changed f.names x (Holding v) } ∷ frames) (f ∷ with_frame_value frames number x v)) ≡ suc (length frames)
    by_case true e = refl
    by_case false e = ap suc e

-- what a frame keeps under another name, or another frame keeps, stays
other_own : (frames : List Frame) (n m : ℕ) (x y : Symbol) (v : Value) → (nat_eq n m && same_name x y) ≡ false → option_and_then (own_value y) (frame_at (with_frame_value frames n x v) m) ≡ option_and_then (own_value y) (frame_at frames m)
other_own [] n m x y v apart = refl
other_own (f ∷ frames) n m x y v apart = by_case (nat_eq n (length frames)) refl (other_own frames n m x y v apart)
  where
    here : (b : Bool) → nat_eq m (length frames) ≡ b → nat_eq n (length frames) ≡ true → option_and_then (own_value y) (cond b (Some (record { routine = f.routine; names = changed f.names x (Holding v) })) (frame_at frames m)) ≡ option_and_then (own_value y) (cond b (Some f) (frame_at frames m))
    here true e same = ap (option_and_then held) (found-changed-other f.names x y (Holding v) (names_apart (nat_eq n m) (numbers (length frames) same e) apart))
      where
        numbers : (k : ℕ) → nat_eq n k ≡ true → nat_eq m k ≡ true → nat_eq n m ≡ true
        numbers k a b = grind (arith, nat_tests)

        names_apart : (b : Bool) → b ≡ true → (b && same_name x y) ≡ false → same_name x y ≡ false
        names_apart true e apart = apart
        names_apart false e apart = absurd (false≢true e)
    here false e same = refl

    by_case : (b : Bool) → nat_eq n (length frames) ≡ b → option_and_then (own_value y) (frame_at (with_frame_value frames n x v) m) ≡ option_and_then (own_value y) (frame_at frames m)
        → option_and_then (own_value y) (frame_at (cond b (record { routine = f.routine; names = changed f.names x (Holding v) } ∷ frames) (f ∷ with_frame_value frames n x v)) m) ≡ option_and_then (own_value y) (cond (nat_eq m (length frames)) (Some f) (frame_at frames m))
    by_case true same later = here (nat_eq m (length frames)) refl same
    by_case false same later =
        ap (λ k. option_and_then (own_value y) (cond (nat_eq m k) (Some f) (frame_at (with_frame_value frames n x v) m))) (same_length frames n x v) ∙ below (nat_eq m (length frames))
      where
        below : (b : Bool) → option_and_then (own_value y) (cond b (Some f) (frame_at (with_frame_value frames n x v) m)) ≡ option_and_then (own_value y) (cond b (Some f) (frame_at frames m))
        below true = refl
        below false = later

-- ---- places

other_root : (state : State) (r s : Root) (v : Value) → same_root r s ≡ false → root_value (with_root state r v) s ≡ root_value state s
other_root state (ProgramVariable x) (ProgramVariable y) v apart = found-changed-other state.variables x y v apart
other_root state (ProgramVariable x) (OwnValue m y) v apart = refl
other_root state (ProgramVariable x) (CellOf d) v apart = refl
other_root state (OwnValue n x) (ProgramVariable y) v apart = refl
other_root state (OwnValue n x) (OwnValue m y) v apart = other_own state.frames n m x y v apart
other_root state (OwnValue n x) (CellOf d) v apart = refl
other_root state (CellOf c) (ProgramVariable y) v apart = refl
other_root state (CellOf c) (OwnValue m y) v apart = refl
other_root state (CellOf c) (CellOf d) v apart = ap (option_and_then content_of) (other_row state.heap c d v apart)

-- a put leaves what is at a place with another root
pub look_elsewhere : (state : State) (a b : Place) (v : Value) → same_root a.root b.root ≡ false → look (put state a v) b ≡ look state b
look_elsewhere state a b v apart =
    ap (option_and_then (λ w. part_at w b.path)) (other_root state a.root b.root (with_part (value_or_zero (root_value state a.root)) a.path v) apart)
