-- How the values of the columns in a basis go on with that of a column outside it.
use Rattle.std.specs.Prelude.{◌≡◌, ℕ, ◌<◌, Bool, true, false, ◌&&◌, List, length, nat_eq, slice_index_or}
use Rattle.spv_frac.specs.rational.Rational.{Rational, plus, times, is_zero}
use Rattle.spv_frac.specs.declared.frac.Op.TheVariants.{Add, Mul}
use Rattle.spv_tableau_rules.specs.tableaux.Numbers.{nothing}
use Rattle.spv_tableau_rules.specs.tableaux.Operations.{Operation, operation, fits}
use Rattle.spv_dictionary.specs.Cells.{cell}
use Rattle.spv_dictionary.specs.Dictionary.{Dictionary, basic_at, row_at}

abbrev pub value_in : List Rational → ℕ → Rational
value_in values c = slice_index_or values c nothing

-- the entry of a row at a slot
abbrev pub entry_in : Dictionary → ℕ → ℕ → Rational
entry_in d k slot = cell (row_at d k) slot

-- a value, and a distance times an entry
abbrev pub gone : Rational → Rational → Rational → Rational
gone value distance entry = plus value (times distance entry)

abbrev pub can_go : Rational → Rational → Rational → Bool
can_go value distance entry = fits (operation Mul distance entry) && fits (operation Add value (times distance entry))

-- an operation by which a value goes on
pub data IsGoing (value distance entry : Rational) : Operation → Type 0 where
  scaling : IsGoing value distance entry (operation Mul distance entry)
  adding : IsGoing value distance entry (operation Add value (times distance entry))

-- one by which the value of a row's column does, but for one row
pub record IsRowGoing (d : Dictionary) (values : List Rational) (slot : ℕ) (distance : Rational) (skip : ℕ) (o : Operation) : Type 0 where
  pub row : ℕ
  pub row_in : row < length d.basic
  pub other : nat_eq row skip ≡ false
  pub going : IsGoing (value_in values (basic_at d row)) distance (entry_in d row slot) o

-- all of them fit, up to a row
pub record CanGoTo (d : Dictionary) (values : List Rational) (slot : ℕ) (distance : Rational) (skip row : ℕ) : Type 0 where
  pub each : (k : ℕ) → k < row → nat_eq k skip ≡ false → is_zero (entry_in d k slot) ≡ false → can_go (value_in values (basic_at d k)) distance (entry_in d k slot) ≡ true

-- a column that is not in the basis for a row up to this one, but for one row
abbrev pub IsOther : Dictionary → ℕ → ℕ → ℕ → Type 0
IsOther d skip row c = (k : ℕ) → k < row → nat_eq k skip ≡ false → nat_eq c (basic_at d k) ≡ false

-- the values of the rows' columns have gone on, up to a row
pub record HasGoneTo (d : Dictionary) (values : List Rational) (slot : ℕ) (distance : Rational) (skip row : ℕ) (new : List Rational) : Type 0 where
  pub count : length new ≡ length values
  pub each : (k : ℕ) → k < row → nat_eq k skip ≡ false → value_in new (basic_at d k) ≡ gone (value_in values (basic_at d k)) distance (entry_in d k slot)
  pub others : (c : ℕ) → IsOther d skip row c → value_in new c ≡ value_in values c

-- one column's value has gone on, if it has to
pub record HasGone (d : Dictionary) (values : List Rational) (slot : ℕ) (distance : Rational) (skip row : ℕ) (new : List Rational) : Type 0 where
  pub count : length new ≡ length values
  pub here : nat_eq row skip ≡ false → value_in new (basic_at d row) ≡ gone (value_in values (basic_at d row)) distance (entry_in d row slot)
  pub skipped : nat_eq row skip ≡ true → value_in new (basic_at d row) ≡ value_in values (basic_at d row)
  pub others : (c : ℕ) → nat_eq c (basic_at d row) ≡ false → value_in new c ≡ value_in values c
