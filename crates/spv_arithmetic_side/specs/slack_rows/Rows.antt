-- The rows of relations, and why there are none.
use Rattle.std.specs.Prelude.{◌≡◌, ℕ, true, false, List, Some, slice_get}
use Rattle.spv_logic.specs.declared.conditions.TermId.{TermId}
use Rattle.spv_logic.specs.Terms.{Term}
use Rattle.spv_term.specs.Arena.{Arena, tree}
use Rattle.spv_atoms.specs.Forms.{is_narrow}
use Rattle.spv_atoms.specs.Linear.{IdForm, IsIdForm}
use Rattle.spv_proof.specs.sums.Readings.{number_in}
use Rattle.spv_tableau_rules.specs.constraints.Relations.{number_sides, IsRowOf, fits_each_way}
use Rattle.spv_arithmetic_side.specs.bounds.Bounds.{has_room}
use Rattle.spv_arithmetic_side.specs.declared.slack_rows.row.RowFault.{RowFault}
use Rattle.spv_arithmetic_side.specs.declared.slack_rows.row.RowFault.TheVariants.{Wide, Memory}

-- each row's constant leaves room for each bound of its relation, and its form is as forms over ids are kept
pub record HaveRoom (forms : List IdForm) : Type 0 where
  pub each : (i : ℕ) (f : IdForm) → slice_get forms i ≡ Some f → has_room f.constant ≡ true
  pub kept : (i : ℕ) (f : IdForm) → slice_get forms i ≡ Some f → IsIdForm f

-- the row of a relation with these sides, whose forms fit each way
pub record IsFittingRow (a : Arena) (st : Term × Term) (f : IdForm) : Type 0 where
  pub row : IsRowOf a st f
  pub kept : IsIdForm f
  pub room : has_room f.constant ≡ true
  pub fits : fits_each_way st ≡ true

-- ---- faults, of a relation that is named

abbrev pub IsWideForm : Term → TermId → RowFault → Type 0
IsWideForm side relation (Wide u) = (u ≡ relation) × (is_narrow side ≡ false)
IsWideForm side relation Memory = Unit {0}

abbrev pub IsMisfit : Term × Term → TermId → RowFault → Type 0
IsMisfit st relation (Wide u) = (u ≡ relation) × (fits_each_way st ≡ false)
IsMisfit st relation Memory = Unit {0}

-- a relation of whole numbers whose forms do not fit each way
pub record IsUnfit (a : Arena) (t : TermId) : Type 0 where
  pub sides : Term × Term
  pub are : number_sides (number_in a) (tree a t) ≡ Some sides
  pub unfit : fits_each_way sides ≡ false

abbrev pub IsWideTerm : Arena → TermId → RowFault → Type 0
IsWideTerm a t (Wide u) = (u ≡ t) × IsUnfit a t
IsWideTerm a t Memory = Unit {0}

-- one of these terms is such a relation
pub record HasUnfit (a : Arena) (ts : List TermId) (u : TermId) : Type 0 where
  pub place : ℕ
  pub there : slice_get ts place ≡ Some u
  pub unfit : IsUnfit a u

abbrev pub IsWideAmong : Arena → List TermId → RowFault → Type 0
IsWideAmong a ts (Wide u) = HasUnfit a ts u
IsWideAmong a ts Memory = Unit {0}
