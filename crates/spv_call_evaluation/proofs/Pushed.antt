-- What places hold below a frame that is pushed or popped.
use Rattle.std.proofs.Common.{arith, ◌≡◌, ℕ, suc, Bool, true, false, cond, List, [], ◌∷◌, drop, length, nat_eq, nat_lt, refl, sym, ap, ◌∙◌, Some, None}
use Rattle.std.specs.Option.{option_and_then}
use Rattle.std.proofs.lemmas.Bool.Decides.{nat_tests}
use Rattle.spv_logic.specs.Values.{Value}
use Rattle.spv_program.proofs.SortFacts.{nothing_there}
use Rattle.spv_meaning.specs.Places.{Root, Place, Frame, State, ProgramVariable, OwnValue, CellOf, part_at, own_value, frame_at, root_value, look}
use Rattle.spv_meaning.specs.Levels.{pop}

-- frames are numbered below their count
none_at : (frames : List Frame) (n : ℕ) → nat_lt n (length frames) ≡ false → frame_at frames n ≡ None
none_at [] n h = refl
none_at (f ∷ frames) n h = ap (λ b. cond b (Some f) (frame_at frames n)) (other n (length frames) h) ∙ none_at frames n (below n (length frames) h)
  where
    other : (n k : ℕ) → nat_lt n (suc k) ≡ false → nat_eq n k ≡ false
    other n k h = grind (arith, nat_tests)

    below : (n k : ℕ) → nat_lt n (suc k) ≡ false → nat_lt n k ≡ false
    below n k h = grind (arith, nat_tests)

-- what a place holds it holds under a new frame
pub pushed_look : (f : Frame) (s : State) (a : Place) (w : Value) → look s a ≡ Some w → look (record { variables = s.variables; frames = f ∷ s.frames; heap = s.heap }) a ≡ Some w
pushed_look f s a w e = by_root a.root e
  where
    by_root : (r : Root) → option_and_then (λ v. part_at v a.path) (root_value s r) ≡ Some w → option_and_then (λ v. part_at v a.path) (root_value (record { variables = s.variables; frames = f ∷ s.frames; heap = s.heap }) r) ≡ Some w
    by_root (ProgramVariable x) e = e
    by_root (CellOf cell) e = e
    by_root (OwnValue n x) e = by_number (nat_eq n (length s.frames)) refl
      where
        by_number : (b : Bool) → nat_eq n (length s.frames) ≡ b → option_and_then (λ v. part_at v a.path) (option_and_then (own_value x) (cond b (Some f) (frame_at s.frames n))) ≡ Some w
        by_number false other = e
        by_number true same = absurd (nothing_there (sym (ap (λ o. option_and_then (λ v. part_at v a.path) (option_and_then (own_value x) o)) (none_at s.frames n (last n (length s.frames) same))) ∙ e))
          where
            last : (n k : ℕ) → nat_eq n k ≡ true → nat_lt n k ≡ false
            last n k h = grind (arith, nat_tests)

-- and what it holds under a frame that is popped it held before
pub unpopped_look : (s : State) (a : Place) (w : Value) → look (pop s) a ≡ Some w → look s a ≡ Some w
unpopped_look s a w e = by_frames s.frames e
  where
    by_frames : (frames : List Frame) → look (record { variables = s.variables; frames = drop 1 frames; heap = s.heap }) a ≡ Some w → look (record { variables = s.variables; frames = frames; heap = s.heap }) a ≡ Some w
    by_frames [] e = e
    by_frames (g ∷ frames) e = pushed_look g (record { variables = s.variables; frames = frames; heap = s.heap }) a w e
