-- The operations of an exchange on the numbers, and whether they fit.
use Rattle.std.specs.Prelude.{◌≡◌, ℕ, ◌<◌, ◌≤◌, Bool, true, false, ◌&&◌, ◌||◌, not, List, [], length, nat_eq, slice_index_or, if◌then◌else◌}
use Rattle.spv_frac.specs.rational.Rational.{Rational, plus, times, is_zero}
use Rattle.spv_frac.specs.declared.frac.Op.TheVariants.{Add, Mul, Div}
use Rattle.spv_tableau_rules.specs.tableaux.Numbers.{one}
use Rattle.spv_tableau_rules.specs.tableaux.Operations.{Operation, operation, fits}
use Rattle.spv_dictionary.specs.Cells.{cell}
use Rattle.spv_dictionary.specs.Dictionary.{Dictionary, row_at}
use Rattle.spv_dictionary.specs.Exchanges.{solved_at, mixed_at}

-- what a number becomes where a solved number times a factor is added; the factor's own place has nothing to be added to
abbrev pub mixed : Bool → Rational → Rational → Rational → Rational
mixed is_slot number solved factor = if is_slot then times solved factor else plus number (times solved factor)

-- the operations of this fit
abbrev pub can_mix : Bool → Rational → Rational → Rational → Bool
can_mix is_slot number solved factor = fits (operation Mul solved factor) && (is_slot || fits (operation Add number (times solved factor)))

-- nothing is added where the solved number is 0
abbrev pub is_idle : Bool → Rational → Bool
is_idle is_slot solved = not is_slot && is_zero solved

-- one of them does not
pub data IsMixing (is_slot : Bool) (number solved factor : Rational) : Operation → Type 0 where
  scaling : IsMixing is_slot number solved factor (operation Mul solved factor)
  adding : is_slot ≡ false → IsMixing is_slot number solved factor (operation Add number (times solved factor))

-- ---- rows

-- an operation by which a row is solved for the column of a slot
pub data IsSolving (row : List Rational) (j : ℕ) : Operation → Type 0 where
  inverting : IsSolving row j (operation Div one (cell row j))
  dividing : (x : ℕ) → x < length row → nat_eq x j ≡ false → IsSolving row j (operation Div (cell row x) (cell row j))

-- an operation by which a solved row is put into another
pub data IsRowMixing (row solved : List Rational) (j : ℕ) : Operation → Type 0 where
  mixing : (x : ℕ) (o : Operation) → x < length row → IsMixing (nat_eq x j) (cell row x) (cell solved x) (cell row j) o → IsRowMixing row solved j o

pub record IsSolved (row solved : List Rational) (j : ℕ) : Type 0 where
  pub count : length solved ≡ length row
  pub each : (x : ℕ) → x < length row → cell solved x ≡ solved_at row j x

pub record IsMixed (row solved : List Rational) (j : ℕ) (new : List Rational) : Type 0 where
  pub count : length new ≡ length row
  pub each : (x : ℕ) → x < length row → cell new x ≡ mixed_at row solved j x

-- all operations on this row fit, if there are any
pub record CanMixRow (row solved : List Rational) (j : ℕ) : Type 0 where
  pub each : is_zero (cell row j) ≡ false → (x : ℕ) → x < length row → is_idle (nat_eq x j) (cell solved x) ≡ false → can_mix (nat_eq x j) (cell row x) (cell solved x) (cell row j) ≡ true

-- the operations up to a place fit
pub record CanMixTo (row solved : List Rational) (j place : ℕ) : Type 0 where
  pub each : (x : ℕ) → x < place → is_idle (nat_eq x j) (cell solved x) ≡ false → can_mix (nat_eq x j) (cell row x) (cell solved x) (cell row j) ≡ true

-- mixed up to a place
pub record MixedTo (row solved : List Rational) (j place : ℕ) (now : List Rational) : Type 0 where
  pub count : length now ≡ length row
  pub each : (x : ℕ) → x < place → cell now x ≡ mixed_at row solved j x
  pub rest : (x : ℕ) → place ≤ x → cell now x ≡ cell row x

-- one place is mixed, and all others are as they were
pub record IsMixedAt (row solved : List Rational) (j place : ℕ) (factor : Rational) (new : List Rational) : Type 0 where
  pub count : length new ≡ length row
  pub here : cell new place ≡ (if is_idle (nat_eq place j) (cell solved place) then cell row place else mixed (nat_eq place j) (cell row place) (cell solved place) factor)
  pub others : (x : ℕ) → nat_eq x place ≡ false → cell new x ≡ cell row x

-- ---- all rows

abbrev pub number_row : List (List Rational) → ℕ → List Rational
number_row rows k = slice_index_or rows k []

-- the operations on all rows but one fit, up to a row
pub record CanMixRowsTo (rows : List (List Rational)) (solved : List Rational) (i j row : ℕ) : Type 0 where
  pub each : (k : ℕ) → k < row → nat_eq k i ≡ false → CanMixRow (number_row rows k) solved j

-- the operations on all rows but one fit
pub record CanMixRows (rows : List (List Rational)) (solved : List Rational) (i j : ℕ) : Type 0 where
  pub each : (k : ℕ) → k < length rows → nat_eq k i ≡ false → CanMixRow (number_row rows k) solved j

-- an operation by which a solved row is put into one of the others
pub record IsRowsMixing (rows : List (List Rational)) (solved : List Rational) (i j : ℕ) (o : Operation) : Type 0 where
  pub row : ℕ
  pub row_in : row < length rows
  pub other : nat_eq row i ≡ false
  pub mixing : IsRowMixing (number_row rows row) solved j o

-- all rows but one are mixed, up to a row
pub record AreMixedTo (rows : List (List Rational)) (solved : List Rational) (i j row : ℕ) (new : List (List Rational)) : Type 0 where
  pub count : length new ≡ length rows
  pub each : (k : ℕ) → k < row → nat_eq k i ≡ false → IsMixed (number_row rows k) solved j (number_row new k)
  pub here : number_row new i ≡ number_row rows i
  pub rest : (k : ℕ) → row ≤ k → number_row new k ≡ number_row rows k

-- one row is mixed, if it is not that one, and all others are as they were
pub record IsMixedRow (rows : List (List Rational)) (solved : List Rational) (i j row : ℕ) (new : List (List Rational)) : Type 0 where
  pub count : length new ≡ length rows
  pub mixed : nat_eq row i ≡ false → IsMixed (number_row rows row) solved j (number_row new row)
  pub here : number_row new i ≡ number_row rows i
  pub others : (k : ℕ) → nat_eq k row ≡ false → number_row new k ≡ number_row rows k

-- all rows have slots up to here
pub record AreWide (rows : List (List Rational)) (width : ℕ) : Type 0 where
  pub each : (k : ℕ) → k < length rows → length (number_row rows k) ≡ width

-- an operation of an exchange
pub data IsExchanging (rows : List (List Rational)) (solved : List Rational) (i j : ℕ) (o : Operation) : Type 0 where
  solving : IsSolving (number_row rows i) j o → IsExchanging rows solved i j o
  mixing : IsSolved (number_row rows i) solved j → IsRowsMixing rows solved i j o → IsExchanging rows solved i j o

-- ---- in a dictionary

-- the exchange was tested: the solved row is there, and all operations fit
pub record IsReady (d : Dictionary) (i j : ℕ) : Type 0 where
  pub solved : IsSolved (row_at d i) d.solved j
  pub can : CanMixRows d.cells d.solved i j

-- an operation of the exchange of a row's column with that of a slot
pub record IsRefused (d : Dictionary) (i j : ℕ) (o : Operation) : Type 0 where
  pub solved : List Rational
  pub exchanging : IsExchanging d.cells solved i j o
