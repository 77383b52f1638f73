-- The exchange of a row's column with that of a slot, on the numbers of a dictionary.
use Rattle.std.specs.Prelude.{◌≡◌, ℕ, ◌<◌, false, List, length, nat_eq, slice_set, if◌then◌else◌}
use Rattle.spv_frac.specs.rational.Rational.{Rational, plus, times, opposite}
use Rattle.spv_tableau_rules.specs.tableaux.Numbers.{one, divided}
use Rattle.spv_dictionary.specs.declared.spot.Spot.{Spot}
use Rattle.spv_dictionary.specs.declared.spot.Spot.TheVariants as spot
use Rattle.spv_dictionary.specs.Cells.{cell}
use Rattle.spv_dictionary.specs.Dictionary.{Dictionary, basic_at, outside_at, row_at}

-- a row solved for the column of a slot, which takes the slot of its own column
abbrev pub solved_at : List Rational → ℕ → ℕ → Rational
solved_at row j x = if nat_eq x j then divided one (cell row j) else opposite (divided (cell row x) (cell row j))

-- another row, with the solved one put in for the column of that slot
abbrev pub mixed_at : List Rational → List Rational → ℕ → ℕ → Rational
mixed_at row solved j x = if nat_eq x j then times (cell solved j) (cell row j) else plus (cell row x) (times (cell solved x) (cell row j))

abbrev pub exchanged_spots : Dictionary → ℕ → ℕ → List Spot
exchanged_spots d i j = slice_set (slice_set d.spots (basic_at d i) (spot.Slot j)) (outside_at d j) (spot.Row i)

-- the column of row i and that of slot j are exchanged
pub record IsExchanged (old new : Dictionary) (i j : ℕ) : Type 0 where
  pub spots : new.spots ≡ exchanged_spots old i j
  pub basic : new.basic ≡ slice_set old.basic i (outside_at old j)
  pub outside : new.outside ≡ slice_set old.outside j (basic_at old i)
  pub row_count : length new.cells ≡ length old.cells
  pub widths : (k : ℕ) → k < length old.basic → length (row_at new k) ≡ length (row_at old k)
  pub solved : (x : ℕ) → x < length old.outside → cell (row_at new i) x ≡ solved_at (row_at old i) j x
  pub solved_width : length new.solved ≡ length old.solved
  pub mixed : (k x : ℕ) → k < length old.basic → nat_eq k i ≡ false → x < length old.outside → cell (row_at new k) x ≡ mixed_at (row_at old k) (row_at new i) j x
