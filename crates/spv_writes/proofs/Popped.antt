-- What was written over a frame that is popped.
use Rattle.std.proofs.Common.{◌≡◌, ℕ, Bool, true, false, cond, not, List, [], ◌∷◌, drop, length, refl, sym, ap, subst, ◌∙◌, nat_eq, Some}
use Rattle.std.specs.Option.{option_and_then}
use Rattle.std.specs.List.{list_all}
use Rattle.std.proofs.lemmas.Bool.{false≢true}
use Rattle.spv_logic.specs.declared.names.names.Symbol.{Symbol}
use Rattle.spv_logic.specs.declared.types.TypeId.{TypeId}
use Rattle.spv_logic.specs.Values.{Value}
use Rattle.spv_logic.proofs.list.Tests.{left_true, right_true}
use Rattle.spv_program.specs.Lists.{changed}
use Rattle.spv_program.specs.Programs.{Program}
use Rattle.spv_meaning.specs.Places.{Root, Place, Frame, HeapRow, State, ProgramVariable, OwnValue, CellOf, Holding, frame_at, own_value, root_value, with_frame_value, with_root, with_part, value_or_zero, put}
use Rattle.spv_meaning.specs.Levels.{pop}
use Rattle.spv_meaning.specs.Walks.{with_new_cell}
use Rattle.spv_meaning.specs.Starts.{Area, At, CellsOf}
use Rattle.spv_meaning.proofs.Puts.{same_length}
use Rattle.spv_writes.specs.Writes.{Writes, nothing, puts, creates, is_in, is_cells_of, is_kept_by, is_area_of, without_frame}
use Rattle.spv_writes.proofs.Lists.{any_filter}
use Rattle.spv_writes.proofs.Places.{below_root}
use Rattle.spv_writes.proofs.Kept.{unwritten}

-- ---- roots under a frame

abbrev pub frames_below : State → ℕ
frames_below s = length (drop 1 s.frames)

frame_under : (frames : List Frame) (n : ℕ) → nat_eq n (length (drop 1 frames)) ≡ false → frame_at (drop 1 frames) n ≡ frame_at frames n
frame_under [] n other = refl
frame_under (f ∷ frames) n other = sym (ap (λ b. cond b (Some f) (frame_at frames n)) other)

-- what lies not in the newest frame is there also when that is popped
root_under : (s : State) (r : Root) → is_kept_by (frames_below s) r ≡ false → root_value (pop s) r ≡ root_value s r
root_under s (ProgramVariable x) other = refl
root_under s (OwnValue n x) other = ap (option_and_then (own_value x)) (frame_under s.frames n other)
root_under s (CellOf cell) other = refl

frames_kept : (frames : List Frame) (n : ℕ) (x : Symbol) (w : Value) → nat_eq n (length (drop 1 frames)) ≡ true → drop 1 (with_frame_value frames n x w) ≡ drop 1 frames
frames_kept [] n x w same = refl
frames_kept (f ∷ frames) n x w same =
    ap (λ b. drop 1 (cond b (record { routine = f.routine; names = changed f.names x (Holding w) } ∷ frames) (f ∷ with_frame_value frames n x w))) same

frames_put : (frames : List Frame) (n : ℕ) (x : Symbol) (w : Value) → nat_eq n (length (drop 1 frames)) ≡ false → drop 1 (with_frame_value frames n x w) ≡ with_frame_value (drop 1 frames) n x w
frames_put [] n x w other = refl
frames_put (f ∷ frames) n x w other =
    ap (λ b. drop 1 (cond b (record { routine = f.routine; names = changed f.names x (Holding w) } ∷ frames) (f ∷ with_frame_value frames n x w))) other

abbrev with_frames : State → List Frame → State
with_frames s frames = record s { frames = frames }

kept_root : (s : State) (r : Root) (w : Value) → is_kept_by (frames_below s) r ≡ true → pop (with_root s r w) ≡ pop s
kept_root s (ProgramVariable x) w h = absurd (false≢true h)
kept_root s (OwnValue n x) w h = ap (with_frames s) (frames_kept s.frames n x w h)
kept_root s (CellOf cell) w h = absurd (false≢true h)

other_root : (s : State) (r : Root) (w : Value) → is_kept_by (frames_below s) r ≡ false → pop (with_root s r w) ≡ with_root (pop s) r w
other_root s (ProgramVariable x) w h = refl
other_root s (OwnValue n x) w h = ap (with_frames s) (frames_put s.frames n x w h)
other_root s (CellOf cell) w h = refl

other_put : (s : State) (a : Place) (v : Value) → is_kept_by (frames_below s) a.root ≡ false → pop (put s a v) ≡ put (pop s) a v
other_put s a v h =
    other_root s a.root (with_part (value_or_zero (root_value s a.root)) a.path v) h
    ∙ ap (λ o. with_root (pop s) a.root (with_part (value_or_zero o) a.path v)) (sym (root_under s a.root h))

as_many_below : (frames : List Frame) (n : ℕ) (x : Symbol) (w : Value) → length (drop 1 (with_frame_value frames n x w)) ≡ length (drop 1 frames)
as_many_below [] n x w = refl
as_many_below (f ∷ frames) n x w = by_number (nat_eq n (length frames))
  where
    by_number : (b : Bool) → length (drop 1 (cond b (record { routine = f.routine; names = changed f.names x (Holding w) } ∷ frames) (f ∷ with_frame_value frames n x w))) ≡ length frames
    by_number true = refl
    by_number false = same_length frames n x w

as_many : (s : State) (r : Root) (w : Value) → frames_below (with_root s r w) ≡ frames_below s
as_many s (ProgramVariable x) w = refl
as_many s (OwnValue n x) w = as_many_below s.frames n x w
as_many s (CellOf cell) w = refl

-- ---- areas under a frame

in_other : (heap : List HeapRow) (number : ℕ) (a : Place) → is_kept_by number a.root ≡ false → (area : Area) → is_in heap a area ≡ true → not (is_area_of number area) ≡ true
in_other heap number a other (At b) inside = ap not (ap (is_kept_by number) (below_root a b inside) ∙ other)
in_other heap number a other (CellsOf t) inside = refl

cells_other : (number : ℕ) (u : TypeId) (area : Area) → is_cells_of u area ≡ true → not (is_area_of number area) ≡ true
cells_other number u (At b) h = absurd (false≢true h)
cells_other number u (CellsOf t) h = refl

-- ---- writing

-- over a pushed state, popped, it is writing in the areas that do not lie in the newest frame
pub popped : (p : Program) (areas : List Area) (number : ℕ) (s t : State) → Writes p areas s t → frames_below s ≡ number → Writes p (without_frame number areas) (pop s) (pop t)
popped p areas number _ _ (nothing s) top = nothing (pop s)
popped p areas number _ _ (puts s t a e v place fit inside more) top =
    by_root (is_kept_by number a.root) refl
    (popped p areas number (put s a v) t more (as_many s a.root (with_part (value_or_zero (root_value s a.root)) a.path v) ∙ top))
  where
    by_root : (b : Bool) → is_kept_by number a.root ≡ b → Writes p (without_frame number areas) (pop (put s a v)) (pop t) → Writes p (without_frame number areas) (pop s) (pop t)
    by_root true own later =
        subst (λ x. Writes p (without_frame number areas) x (pop t)) (kept_root s a.root (with_part (value_or_zero (root_value s a.root)) a.path v) (ap (λ k. is_kept_by k a.root) top ∙ own)) later
    by_root false own later =
        let other : is_kept_by (frames_below s) a.root ≡ false = ap (λ k. is_kept_by k a.root) top ∙ own in
        puts (pop s) (pop t) a e v
        (record { whole = place.whole; sort = place.sort; is = root_under s a.root other ∙ place.is; fit = place.fit; leads = place.leads })
        fit (any_filter (is_in s.heap a) (λ k. not (is_area_of number k)) (in_other s.heap number a own) areas inside)
        (subst (λ x. Writes p (without_frame number areas) x (pop t)) (other_put s a v other) later)
popped p areas number _ _ (creates s t cell u v new fit has more) top =
    creates (pop s) (pop t) cell u v new fit (any_filter (is_cells_of u) (λ k. not (is_area_of number k)) (cells_other number u) areas has)
    (popped p areas number (with_new_cell cell u v s) t more top)

none_without : (number : ℕ) (areas : List Area) → list_all (is_area_of number) areas ≡ true → without_frame number areas ≡ []
none_without number [] h = refl
none_without number (a ∷ areas) h =
    ap (λ b. cond (not b) (a ∷ without_frame number areas) (without_frame number areas)) (left_true (is_area_of number a) (list_all (is_area_of number) areas) h)
    ∙ none_without number areas (right_true (is_area_of number a) (list_all (is_area_of number) areas) h)

-- where all areas lie in the newest frame, the popped state is as it was
pub popped_same : (p : Program) (areas : List Area) (s t : State) → Writes p areas s t → list_all (is_area_of (frames_below s)) areas ≡ true → pop t ≡ pop s
popped_same p areas s t w own =
    unwritten p (pop s) (pop t) (subst (λ k. Writes p k (pop s) (pop t)) (none_without (frames_below s) areas own) (popped p areas (frames_below s) s t w refl))
