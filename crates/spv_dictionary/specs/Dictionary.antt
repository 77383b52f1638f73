-- A solved form as rows of numbers: a row for each column in the basis, a slot for each column outside it.
use Rattle.std.specs.Prelude.{◌≡◌, ℕ, ◌+◌, ◌<◌, List, [], ◌++◌, length, replicate, nat_eq, slice_index_or, if◌then◌else◌}
use Rattle.spv_frac.specs.rational.Rational.{Rational}
use Rattle.spv_tableau_rules.specs.tableaux.Numbers.{nothing, minus_one}
use Rattle.spv_tableau_rules.specs.tableaux.Solved.{Place, Basic, Held, Places, Entries}
use Rattle.spv_dictionary.specs.declared.spot.Spot.{Spot}
use Rattle.spv_dictionary.specs.declared.spot.Spot.TheVariants as spot
use Rattle.spv_dictionary.specs.Cells.{cell, listed, numbers_from}

pub record Dictionary : Type 0 where
  -- where each column is
  pub spots : List Spot
  -- the column of each row, and of each slot
  pub basic : List ℕ
  pub outside : List ℕ
  -- the numbers of each row, slot by slot
  pub cells : List (List Rational)
  -- what a row would be after an exchange that is being tested
  pub solved : List Rational

-- the same solved form, with another row that is tested
abbrev pub with_solved : Dictionary → List Rational → Dictionary
with_solved d solved = record { spots = d.spots; basic = d.basic; outside = d.outside; cells = d.cells; solved = solved }

abbrev pub spot_of : Dictionary → ℕ → Spot
spot_of d c = slice_index_or d.spots c (spot.Slot 0)

abbrev pub basic_at : Dictionary → ℕ → ℕ
basic_at d i = slice_index_or d.basic i 0

abbrev pub outside_at : Dictionary → ℕ → ℕ
outside_at d j = slice_index_or d.outside j 0

abbrev pub row_at : Dictionary → ℕ → List Rational
row_at d i = slice_index_or d.cells i []

-- ---- as a solved form

abbrev pub entry_between : Dictionary → Spot → Spot → Rational
entry_between d (spot.Row i) (spot.Slot j) = cell (row_at d i) j
entry_between d (spot.Row i) (spot.Row k) = if nat_eq i k then minus_one else nothing
entry_between d (spot.Slot i) s = nothing

abbrev pub entries : Dictionary → Entries
entries d b c = entry_between d (spot_of d b) (spot_of d c)

abbrev pub place_of : Spot → Place
place_of (spot.Row i) = Basic
place_of (spot.Slot j) = Held

-- the basis, with each other column at the value that it holds
abbrev pub places : Dictionary → Places
places d c = place_of (spot_of d c)

-- ---- what each dictionary keeps

-- a column is where it is said to be
abbrev pub IsSpot : Dictionary → ℕ → Spot → Type 0
IsSpot d c (spot.Row i) = (i < length d.basic) × (basic_at d i ≡ c)
IsSpot d c (spot.Slot j) = (j < length d.outside) × (outside_at d j ≡ c)

-- the column of a row or of a slot is there, and says so
abbrev pub IsColumn : Dictionary → ℕ → Spot → Type 0
IsColumn d c s = (c < length d.spots) × (spot_of d c ≡ s)

pub record IsDictionary (d : Dictionary) : Type 0 where
  pub count : length d.spots ≡ length d.outside + length d.basic
  pub row_count : length d.cells ≡ length d.basic
  pub widths : (i : ℕ) → i < length d.basic → length (row_at d i) ≡ length d.outside
  pub rows : (i : ℕ) → i < length d.basic → IsColumn d (basic_at d i) (spot.Row i)
  pub slots : (j : ℕ) → j < length d.outside → IsColumn d (outside_at d j) (spot.Slot j)
  pub columns : (c : ℕ) → c < length d.spots → IsSpot d c (spot_of d c)
  pub solved_width : length d.solved ≡ length d.outside

-- ---- as it begins

abbrev pub slots_to : ℕ → List Spot
slots_to n = listed spot.Slot n

abbrev pub rows_to : ℕ → List Spot
rows_to n = listed spot.Row n

-- the columns of the rows, which come last, are in the basis
abbrev pub first : ℕ → List (List Rational) → Dictionary
first width cells = record {
  spots = slots_to width ++ rows_to (length cells);
  basic = numbers_from width (length cells);
  outside = numbers_from 0 width;
  cells = cells;
  solved = replicate width nothing;
}
