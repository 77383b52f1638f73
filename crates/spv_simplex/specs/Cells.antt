-- The rows of forms as rows of numbers.
use Rattle.std.specs.Prelude.{◌≡◌, ℕ, ◌<◌, List, [], length, Some, slice_get, slice_index_or}
use Rattle.spv_logic.specs.declared.conditions.TermId.{TermId}
use Rattle.spv_frac.specs.rational.Rational.{Rational}
use Rattle.spv_atoms.specs.Linear.{IdForm}
use Rattle.spv_tableau_rules.specs.tableaux.Forms.{coefficient_in}
use Rattle.spv_dictionary.specs.Cells.{cell}

-- a row has the coefficients of a form, up to a place
pub record IsRowTo (form : IdForm) (ids : List TermId) (place : ℕ) (row : List Rational) : Type 0 where
  pub count : length row ≡ length ids
  pub each : (x : ℕ) → x < place → cell row x ≡ coefficient_in (Some form) (slice_get ids x)

-- the rows of the first forms
pub record AreRowsTo (forms : List IdForm) (ids : List TermId) (rows : List (List Rational)) : Type 0 where
  pub widths : (i : ℕ) → i < length rows → length (slice_index_or rows i []) ≡ length ids
  pub each : (i x : ℕ) → i < length rows → x < length ids → cell (slice_index_or rows i []) x ≡ coefficient_in (slice_get forms i) (slice_get ids x)
