-- What an exchange on the numbers is.
use Rattle.std.specs.Prelude.{◌≡◌, ℕ, ◌<◌, true, false, List, [], length, slice_index_or}
use Rattle.spv_frac.specs.rational.Rational.{Rational, is_zero}
use Rattle.spv_tableau_rules.specs.declared.tableaux.side.Side.{Side}
use Rattle.spv_tableau_rules.specs.tableaux.Rows.{Rows, columns}
use Rattle.spv_tableau_rules.specs.tableaux.Solved.{is_basic, exchanged, pivot, row_entries}
use Rattle.spv_tableau_rules.specs.tableaux.Operations.{Operation, Pivots}
use Rattle.spv_dictionary.specs.Cells.{cell}
use Rattle.spv_dictionary.specs.Dictionary.{Dictionary, IsDictionary, basic_at, outside_at, row_at, entries, places, first}
use Rattle.spv_dictionary.specs.Exchanges.{IsExchanged}
use Rattle.spv_dictionary.specs.Mixing.{IsRefused}

-- an exchange, where the entry is not 0
pub record Exchange (old new : Dictionary) (i j : ℕ) : Type 0 where
  pub dictionary : IsDictionary old
  pub exchanged : IsExchanged old new i j
  pub row_in : i < length old.basic
  pub slot_in : j < length old.outside
  pub nonzero : is_zero (cell (row_at old i) j) ≡ false

-- the basis is the exchanged one
abbrev pub ExchangesBasis : Type 0
ExchangesBasis = (old new : Dictionary) (i j : ℕ) → Exchange old new i j → (side : Side) (c : ℕ)
    → is_basic (places new c) ≡ is_basic (exchanged (places old) (basic_at old i) side (outside_at old j) c)

-- and the entries are those of the pivot
abbrev pub IsPivot : Type 0
IsPivot = (old new : Dictionary) (i j : ℕ) → Exchange old new i j → (b c : ℕ) → b < length old.spots → is_basic (places new b) ≡ true → c < length old.spots
    → entries new b c ≡ pivot (entries old) (basic_at old i) (outside_at old j) b c

-- what is refused is an operation of the pivot
abbrev pub RefusesPivot : Type 0
RefusesPivot = (rows : Rows) (d : Dictionary) (i j : ℕ) (o : Operation) → IsDictionary d → columns rows ≡ length d.spots → i < length d.basic → j < length d.outside
    → IsRefused d i j o → Pivots rows (places d) (entries d) (basic_at d i) (outside_at d j) o

-- rows as they begin are the solved form for their own columns
abbrev pub IsFirstForm : Type 0
IsFirstForm = (rows : Rows) (cells : List (List Rational)) → length cells ≡ rows.count → ((i c : ℕ) → i < rows.count → c < rows.parts → cell (slice_index_or cells i []) c ≡ rows.coefficient i c)
    → (b c : ℕ) → b < columns rows → is_basic (places (first rows.parts cells) b) ≡ true → c < columns rows → entries (first rows.parts cells) b c ≡ row_entries rows b c
