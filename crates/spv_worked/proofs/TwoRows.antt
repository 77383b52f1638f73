-- A state with a value of no sort is no start.
use Rattle.std.proofs.Common.{◌≡◌, true, ◌&&◌, not, List, [], ◌∷◌, nat_eq, Option, Some, None, pos}
use Rattle.std.proofs.lemmas.Bool.{false≢true}
use Rattle.spv_logic.proofs.list.Tests.{left_true, right_true}
use Rattle.spv_logic.specs.declared.types.Sort.{Sort}
use Rattle.spv_logic.specs.Values.{Rows, Truth, ArrayOf, no_rows, row}
use Rattle.spv_logic.specs.Shapes.{element_sort}
use Rattle.spv_logic.specs.Fits.{fits, rows_fit, on_sort, ascend, lacks}
use Rattle.spv_program.specs.Lists.{same_name}
use Rattle.spv_program.specs.Types.{sort_of}
use Rattle.spv_program.specs.Programs.{shapes}
use Rattle.spv_meaning.specs.Places.{Frame, Holding}
use Rattle.spv_meaning.specs.FrameTypes.{Slot, FrameType, binding_right, names_right, frames_right}
use Rattle.spv_meaning.specs.Starts.{IsStart}
use Rattle.spv_worked.specs.Small.{y, routine, z}
use Rattle.spv_worked.specs.Doubts.{zeroing, with_two_rows}

abbrev two_rows : Rows
two_rows = row (pos 3) (z 1) (row (pos 3) (Truth true) no_rows)

abbrev below : Frame
below = record { routine = routine 0; names = (y, Holding (ArrayOf (z 0) two_rows)) ∷ [] }

-- two rows for one index do not ascend
no_sort : (o : Option Sort) → on_sort o (λ e. fits (shapes zeroing) (z 0) e && (rows_fit (shapes zeroing) two_rows e && (ascend two_rows && lacks (z 0) two_rows))) ≡ true → ⊥
no_sort None h = false≢true h
no_sort (Some e) h =
    false≢true (right_true (rows_fit (shapes zeroing) two_rows e) _ (right_true (fits (shapes zeroing) (z 0) e) _ h))

not_bound : (older : List FrameType) (slots : List Slot) → names_right zeroing older [] slots below.names ≡ true → ⊥
not_bound older [] h = false≢true h
not_bound older (s ∷ slots) h =
    no_sort (element_sort (shapes zeroing) (sort_of zeroing.forms s.of))
    (right_true (not s.by_place) _ (left_true (binding_right zeroing older [] s (Holding (ArrayOf (z 0) two_rows))) _ (right_true (same_name s.name y) _ h)))

not_framed : (types : List FrameType) → frames_right zeroing types [] (below ∷ []) ≡ true → ⊥
not_framed [] h = false≢true h
not_framed (t ∷ types) h =
    not_bound types t.slots (left_true (names_right zeroing types [] t.slots below.names) _ (right_true (nat_eq t.routine.0 0) _ h))

not_right : (types : List FrameType) → frames_right zeroing types [] with_two_rows.frames ≡ true → ⊥
not_right [] h = false≢true h
not_right (t ∷ types) h = not_framed types (right_true (names_right zeroing types [] t.slots _) _ (right_true (nat_eq t.routine.0 0) _ h))

pub no_start : IsStart zeroing (Some (routine 0)) with_two_rows → ⊥
no_start start = not_right start.right.types start.right.right.frames
