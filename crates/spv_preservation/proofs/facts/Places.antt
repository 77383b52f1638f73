-- What a put does to places.
use Rattle.std.proofs.Common.{◌≡◌, ℕ, Bool, true, false, cond, List, [], ◌∷◌, refl, sym, ap, subst, ◌∙◌, Option, Some, None, is_some, nat_eq, length}
use Rattle.std.specs.Option.{option_and_then}
use Rattle.std.proofs.lemmas.Bool.{false≢true, eqb-true}
use Rattle.spv_logic.specs.declared.names.names.Symbol.{Symbol}
use Rattle.spv_logic.specs.declared.types.Sort.{Sort}
use Rattle.spv_logic.specs.declared.types.Shape.{Shape}
use Rattle.spv_logic.specs.Values.{Value}
use Rattle.spv_logic.specs.Fits.{fits}
use Rattle.spv_logic.proofs.list.Tests.{left_true, right_true}
use Rattle.spv_program.specs.Lists.{found, changed}
use Rattle.spv_program.proofs.SortFacts.{nothing_there}
use Rattle.spv_meaning.specs.Places.{Root, PathStep, Place, Binding, Frame, HeapRow, State, ProgramVariable, OwnValue, CellOf, Holding, frame_at, held, own_value, row_of, content_of, root_value, with_frame_value, with_content, with_root, part_at, with_part, look, exists, value_or_zero, put}
use Rattle.spv_meaning.specs.Starts.{same_root, paths_meet}
use Rattle.spv_meaning.proofs.Maps.{same_names, found-changed-same}
use Rattle.spv_meaning.proofs.Puts.{same_length, look_elsewhere}
use Rattle.spv_preservation.specs.facts.Places.{IsPlace}
use Rattle.spv_preservation.proofs.facts.Parts.{with_fits, part_same, part_other, alike}

-- ---- roots

held_there : (o : Option Binding) (u : Value) → option_and_then held o ≡ Some u → is_some o ≡ true
held_there None u e = absurd (nothing_there e)
held_there (Some b) u e = refl

own_put : (frames : List Frame) (n : ℕ) (x : Symbol) (u w : Value) → option_and_then (own_value x) (frame_at frames n) ≡ Some u → option_and_then (own_value x) (frame_at (with_frame_value frames n x w) n) ≡ Some w
own_put [] n x u w e = absurd (nothing_there e)
own_put (f ∷ frames) n x u w e = by_case (nat_eq n (length frames)) refl e (own_put frames n x u w)
  where
    by_case : (b : Bool) → nat_eq n (length frames) ≡ b → option_and_then (own_value x) (cond b (Some f) (frame_at frames n)) ≡ Some u
        → (option_and_then (own_value x) (frame_at frames n) ≡ Some u → option_and_then (own_value x) (frame_at (with_frame_value frames n x w) n) ≡ Some w)
        → option_and_then (own_value x) (frame_at (cond b (record { routine = f.routine; names = changed f.names x (Holding w) } ∷ frames) (f ∷ with_frame_value frames n x w)) n) ≡ Some w
    by_case true same e later =
        ap (λ b. option_and_then (own_value x) (cond b (Some (record { routine = f.routine; names = changed f.names x (Holding w) })) (frame_at frames n))) same
        ∙ ap (option_and_then held) (found-changed-same f.names x (Holding w) (held_there (found f.names x) u e))
    by_case false same e later =
        ap (λ k. option_and_then (own_value x) (cond (nat_eq n k) (Some f) (frame_at (with_frame_value frames n x w) n))) (same_length frames n x w)
        ∙ (ap (λ b. option_and_then (own_value x) (cond b (Some f) (frame_at (with_frame_value frames n x w) n))) same ∙ later e)

cell_put : (heap : List HeapRow) (cell : ℕ) (u w : Value) → option_and_then content_of (row_of heap cell) ≡ Some u → option_and_then content_of (row_of (with_content heap cell w) cell) ≡ Some w
cell_put [] cell u w e = absurd (nothing_there e)
cell_put (r ∷ heap) cell u w e = by_case (nat_eq r.cell cell) refl e (cell_put heap cell u w)
  where
    by_case : (b : Bool) → nat_eq r.cell cell ≡ b → option_and_then content_of (cond b (Some r) (row_of heap cell)) ≡ Some u
        → (option_and_then content_of (row_of heap cell) ≡ Some u → option_and_then content_of (row_of (with_content heap cell w) cell) ≡ Some w)
        → option_and_then content_of (row_of (cond b (record { cell = r.cell; type = r.type; content = w } ∷ heap) (r ∷ with_content heap cell w)) cell) ≡ Some w
    by_case true same e later = ap (λ b. option_and_then content_of (cond b (Some (record { cell = r.cell; type = r.type; content = w })) (row_of heap cell))) same
    by_case false same e later = ap (λ b. option_and_then content_of (cond b (Some r) (row_of (with_content heap cell w) cell))) same ∙ later e

found_there : (o : Option Value) (u : Value) → o ≡ Some u → is_some o ≡ true
found_there o u e = ap is_some e

root_put : (state : State) (r : Root) (u w : Value) → root_value state r ≡ Some u → root_value (with_root state r w) r ≡ Some w
root_put state (ProgramVariable x) u w e = found-changed-same state.variables x w (found_there (found state.variables x) u e)
root_put state (OwnValue n x) u w e = own_put state.frames n x u w e
root_put state (CellOf cell) u w e = cell_put state.heap cell u w e

-- ---- places

module _ (shapes : List Shape) (state : State) (a : Place) (e : Sort) (place : IsPlace shapes state a e) (v : Value) where
  -- what the root holds after the put
  pub root_after : root_value (put state a v) a.root ≡ Some (with_part place.whole a.path v)
  root_after =
      ap (λ o. root_value (with_root state a.root (with_part (value_or_zero o) a.path v)) a.root) place.is
      ∙ root_put state a.root place.whole (with_part place.whole a.path v) place.is

  pub put_found : look (put state a v) a ≡ Some v
  put_found =
      ap (option_and_then (λ w. part_at w a.path)) root_after
      ∙ part_same shapes a.path place.whole place.sort e place.leads place.fit v

  pub put_parts : (path : List PathStep) → paths_meet a.path path ≡ false → look (put state a v) (record { root = a.root; path = path }) ≡ look state (record { root = a.root; path = path })
  put_parts path apart =
      ap (option_and_then (λ w. part_at w path)) root_after
      ∙ (part_other shapes a.path path place.whole place.sort e place.leads place.fit v apart ∙ sym (ap (option_and_then (λ w. part_at w path)) place.is))

  pub put_sorted : fits shapes v e ≡ true → IsPlace shapes (put state a v) (record { root = a.root; path = [] }) place.sort
  put_sorted ok = record {
    whole = with_part place.whole a.path v;
    sort = place.sort;
    is = root_after;
    fit = with_fits shapes a.path place.whole place.sort e place.leads place.fit v ok;
    leads = refl;
  }

  roots_same : (r s : Root) → same_root r s ≡ true → r ≡ s
  roots_same (ProgramVariable x) (ProgramVariable y) h = ap ProgramVariable (same_names x y h)
  roots_same (ProgramVariable x) (OwnValue m y) h = absurd (false≢true h)
  roots_same (ProgramVariable x) (CellOf d) h = absurd (false≢true h)
  roots_same (OwnValue n x) (ProgramVariable y) h = absurd (false≢true h)
  roots_same (OwnValue n x) (OwnValue m y) h =
      let i = eqb-true n m (left_true (nat_eq n m) _ h) in
      let j = same_names x y (right_true (nat_eq n m) _ h) in
      λ k. OwnValue (i k) (j k)
  roots_same (OwnValue n x) (CellOf d) h = absurd (false≢true h)
  roots_same (CellOf c) (ProgramVariable y) h = absurd (false≢true h)
  roots_same (CellOf c) (OwnValue m y) h = absurd (false≢true h)
  roots_same (CellOf c) (CellOf d) h = ap CellOf (eqb-true c d h)

  pub put_exists : fits shapes v e ≡ true → (b : Place) → exists (put state a v) b ≡ exists state b
  put_exists ok b = by_root (same_root a.root b.root) refl
    where
      same : exists (put state a v) (record { root = a.root; path = b.path }) ≡ exists state (record { root = a.root; path = b.path })
      same =
          ap (λ o. is_some (option_and_then (λ w. part_at w b.path) o)) root_after
          ∙ (alike shapes b.path (with_part place.whole a.path v) place.whole place.sort (with_fits shapes a.path place.whole place.sort e place.leads place.fit v ok) place.fit
          ∙ sym (ap (λ o. is_some (option_and_then (λ w. part_at w b.path) o)) place.is))

      by_root : (test : Bool) → same_root a.root b.root ≡ test → exists (put state a v) b ≡ exists state b
      by_root true is = subst (λ r. exists (put state a v) (record { root = r; path = b.path }) ≡ exists state (record { root = r; path = b.path })) (roots_same a.root b.root is) same
      by_root false is = ap is_some (look_elsewhere state a b v is)
