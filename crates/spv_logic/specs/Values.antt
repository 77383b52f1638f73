-- The values that terms are worth.
use Rattle.std.specs.Prelude.{ℕ, zero, suc, Bool, true, false, ◌&&◌, not, List, [], ◌∷◌, ℤ, pos, nat_eq, nat_lt, if◌then◌else◌}
use Rattle.std.specs.Int.RustNames.{int_lt}
use Rattle.std.specs.Ordering.{int_eq}

mutual
  -- a whole number; a truth value; a pointer (0 is NIL); an array as the value of all elements but these;
  -- a record as its fields' values in order; a class as its members, the content of all pointers but these; a list
  pub data Value : Type 0 where
    Number : ℤ → Value
    Truth : Bool → Value
    Pointer : ℕ → Value
    ArrayOf : Value → Rows → Value
    RecordOf : Rows → Value
    ClassOf : List ℕ → Value → Rows → Value
    AtomOf : ℤ → Value
    PairOf : Value → Value → Value

  -- values under keys: an index, a field's name, or a pointer
  pub data Rows : Type 0 where
    no_rows : Rows
    row : ℤ → Value → Rows → Rows

abbrev pub bool_eq : Bool → Bool → Bool
bool_eq true b = b
bool_eq false b = not b

-- whether two lists of cells are the same
abbrev pub cells_eq : List ℕ → List ℕ → Bool
cells_eq [] [] = true
cells_eq (c ∷ cs) (d ∷ ds) = nat_eq c d && cells_eq cs ds
cells_eq _ _ = false

abbrev mutual
  -- whether two values are the same
  pub value_eq : Value → Value → Bool
  value_eq (Number x) (Number y) = int_eq x y
  value_eq (Truth a) (Truth b) = bool_eq a b
  value_eq (Pointer p) (Pointer q) = nat_eq p q
  value_eq (ArrayOf d rows) (ArrayOf e others) = value_eq d e && rows_eq rows others
  value_eq (RecordOf rows) (RecordOf others) = rows_eq rows others
  value_eq (ClassOf cells d rows) (ClassOf cells' e others) = cells_eq cells cells' && (value_eq d e && rows_eq rows others)
  value_eq (AtomOf x) (AtomOf y) = int_eq x y
  value_eq (PairOf a b) (PairOf c d) = value_eq a c && value_eq b d
  value_eq _ _ = false

  -- whether two lists of rows are the same
  pub rows_eq : Rows → Rows → Bool
  rows_eq no_rows no_rows = true
  rows_eq (row i v rows) (row j w others) = int_eq i j && (value_eq v w && rows_eq rows others)
  rows_eq _ _ = false

-- ---- the parts of a value; of a value of another kind, the default of that part

abbrev pub number_of : Value → ℤ
number_of (Number z) = z
number_of _ = pos 0

abbrev pub truth_of : Value → Bool
truth_of (Truth b) = b
truth_of _ = false

abbrev pub pointer_of : Value → ℕ
pointer_of (Pointer p) = p
pointer_of _ = 0

-- the value of what has no row
abbrev pub default_in : Value → Value
default_in (ArrayOf d rows) = d
default_in (ClassOf cells d rows) = d
default_in _ = Number (pos 0)

abbrev pub rows_in : Value → Rows
rows_in (ArrayOf d rows) = rows
rows_in (RecordOf rows) = rows
rows_in (ClassOf cells d rows) = rows
rows_in _ = no_rows

abbrev pub members_of : Value → List ℕ
members_of (ClassOf cells d rows) = cells
members_of _ = []

abbrev pub first_of_pair : Value → Value
first_of_pair (PairOf a b) = a
first_of_pair _ = AtomOf (pos 0)

abbrev pub second_of_pair : Value → Value
second_of_pair (PairOf a b) = b
second_of_pair _ = AtomOf (pos 0)

abbrev pub is_pair : Value → Bool
is_pair (PairOf a b) = true
is_pair _ = false

-- ---- rows

-- the value under a key, or the default where it has no row
abbrev pub row_at : Rows → ℤ → Value → Value
row_at no_rows key d = d
row_at (row i v rows) key d = if int_eq key i then v else row_at rows key d

-- the rows without the one under a key
abbrev pub without_row : Rows → ℤ → Rows
without_row no_rows key = no_rows
without_row (row i v rows) key = if int_eq key i then rows else row i v (without_row rows key)

-- ascending rows with this value under a key
abbrev pub with_row : Rows → ℤ → Value → Rows
with_row no_rows key v = row key v no_rows
with_row (row i w rows) key v =
    if int_lt key i then row key v (row i w rows) else (if int_eq key i then row key v rows else row i w (with_row rows key v))

-- ascending rows with this value under a key, where the default has no row
abbrev pub put_row : Rows → ℤ → Value → Value → Rows
put_row rows key v d = if value_eq v d then without_row rows key else with_row rows key v

-- rows with this value under a key that is there
abbrev pub set_row : Rows → ℤ → Value → Rows
set_row no_rows key v = no_rows
set_row (row i w rows) key v = if int_eq key i then row i v rows else row i w (set_row rows key v)

-- ascending cells with this one
abbrev pub with_cell : List ℕ → ℕ → List ℕ
with_cell [] cell = cell ∷ []
with_cell (c ∷ cells) cell =
    if nat_lt cell c then cell ∷ c ∷ cells else (if nat_eq cell c then c ∷ cells else c ∷ with_cell cells cell)

-- NIL is no member
abbrev pub with_member : List ℕ → ℕ → List ℕ
with_member cells zero = cells
with_member cells (suc p) = with_cell cells (suc p)
