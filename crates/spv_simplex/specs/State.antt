-- A tableau, as contracts see it.
use Rattle.std.specs.Prelude.{◌≡◌, ℕ, ◌<◌, ◌≤◌, ◌^◌, Bool, true, false, List, [], ◌∷◌, ◌++◌, take, length, Option, Some, None, slice_index_or}
use Rattle.std.specs.List.{position}
use Rattle.spv_logic.specs.declared.conditions.TermId.{TermId}
use Rattle.spv_frac.specs.rational.Rational.{Rational}
use Rattle.spv_atoms.specs.Order.{same_id}
use Rattle.spv_atoms.specs.Linear.{IdForm}
use Rattle.spv_tableau_rules.specs.declared.tableaux.side.Side.{Side}
use Rattle.spv_tableau_rules.specs.declared.tableaux.side.Side.TheVariants.{Lower, Upper}
use Rattle.spv_tableau_rules.specs.tableaux.Numbers.{nothing, is_less}
use Rattle.spv_tableau_rules.specs.tableaux.Rows.{Rows, columns, Point, IsSolution}
use Rattle.spv_tableau_rules.specs.tableaux.Bounds.{Bound, bound_on, other_side, AreBounds}
use Rattle.spv_tableau_rules.specs.tableaux.Solved.{is_basic, row_places, IsSolved}
use Rattle.spv_tableau_rules.specs.tableaux.Forms.{rows_of, part_ids}
use Rattle.spv_frac.specs.declared.frac.Op.TheVariants.{Cmp}
use Rattle.spv_tableau_rules.specs.tableaux.Operations.{Operation, operation, fits}
use Rattle.spv_tableau_rules.specs.tableaux.Contradictions.{Multiple}
use Rattle.spv_dictionary.specs.Dictionary.{Dictionary, entries, places}
use Rattle.spv_simplex.specs.declared.checked.Checked.{Checked}
use Rattle.spv_dictionary.specs.pivoting.Choosing.{are_met}
use Rattle.spv_simplex.specs.declared.evidence.Room.{Room}
use Rattle.spv_simplex.specs.Evidence.{EvidenceValue}
use Rattle.spv_dictionary.specs.pivoting.Trail.{Trail}

pub record State : Type 0 where
  -- the forms whose rows these are
  pub forms : List IdForm
  -- at most so many bounds stand, and a check makes at most so many steps
  pub trail : ℕ
  pub pivots : ℕ
  -- the bounds that stand, in the order in which they came
  pub bounds : List Bound
  -- the solved form of the kept basis
  pub form : Dictionary
  -- the value of each column at the kept point
  pub values : List Rational
  -- what the last check came to, and what it left
  pub answer : Option Checked
  pub combination : List Multiple
  pub evidence : EvidenceValue

abbrev pub rows_in : State → Rows
rows_in s = rows_of s.forms

-- the kept point
abbrev pub kept_point : State → Point
kept_point s c = slice_index_or s.values c nothing

-- ---- what each tableau keeps

pub record IsTableau (s : State) : Type 0 where
  pub few_columns : columns (rows_in s) < 2 ^ 32
  pub few_pivots : s.pivots ≤ 1000000
  pub few_bounds : length s.bounds ≤ s.trail
  pub bounds : AreBounds (rows_in s) s.bounds
  -- the kept basis has this solved form
  pub solved : IsSolved (rows_in s) (places s.form) (entries s.form)
  pub spots : length s.form.spots ≡ columns (rows_in s)
  pub width : length s.form.outside ≡ (rows_in s).parts
  -- the kept point solves the rows, and each part outside the basis holds 0
  pub count : length s.values ≡ columns (rows_in s)
  pub solution : IsSolution (rows_in s) (kept_point s)
  pub parts : (c : ℕ) → c < (rows_in s).parts → is_basic (places s.form c) ≡ false → kept_point s c ≡ nothing

-- how much evidence there is room for
abbrev pub room_in : State → Room
room_in s = record { bounds = s.trail; basis = length s.forms; held = (rows_in s).parts; steps = s.pivots }

-- what its fields have in common; the kept point is known to meet the first bounds
pub record IsKept (s : State) (ids : List TermId) (trail : Trail) (met capacity : ℕ) : Type 0 where
  pub tableau : IsTableau s
  pub ids_are : ids ≡ part_ids s.forms
  pub rows_are : trail.rows ≡ length s.forms
  pub room_is : s.evidence.room ≡ room_in s
  pub combination_room : length s.forms ≤ capacity
  pub within : met ≤ length s.bounds
  pub known : are_met (rows_in s).parts (kept_point s) (take met s.bounds) ≡ true

-- ---- calls

-- as it begins: no bounds, the rows in the basis, and 0 for each column
pub record IsOpened (forms : List IdForm) (trail pivots : ℕ) (s : State) : Type 0 where
  pub forms_are : s.forms ≡ forms
  pub trail_is : s.trail ≡ trail
  pub pivots_are : s.pivots ≡ pivots
  pub no_bounds : s.bounds ≡ []
  pub all_rows : (c : ℕ) → c < columns (rows_of forms) → is_basic (places s.form c) ≡ is_basic (row_places (rows_of forms) c)
  pub zeros : (c : ℕ) → kept_point s c ≡ nothing
  pub not_checked : s.answer ≡ None

-- one bound more
abbrev pub with_bound : State → Bound → State
with_bound s b = record s { bounds = s.bounds ++ b ∷ [] }

-- the first bounds
abbrev pub with_first : State → ℕ → State
with_first s n = record s { bounds = take n s.bounds }

-- a bound contradicts the one on the other side of its row
abbrev pub clashes : Side → Rational → Rational → Bool
clashes Lower value other = is_less other value
clashes Upper value other = is_less value other

-- a bound on a side leaves a value to the one on the other side, if there is one
abbrev pub LeavesValue : Side → Rational → Option Rational → Type 0
LeavesValue side value bound = (other : Rational) → bound ≡ Some other → clashes side value other ≡ false

-- the comparison of a bound on a side with the one on the other side
abbrev pub compared : Side → Rational → Rational → Operation
compared Lower value other = operation Cmp other value
compared Upper value other = operation Cmp value other

-- the bound on the other side cannot be compared with a value, since the comparison does not fit
pub record IsUncomparable (side : Side) (value : Rational) (bound : Option Rational) : Type 0 where
  pub other : Rational
  pub there : bound ≡ Some other
  pub unfit : fits (compared side value other) ≡ false

-- the bound may be asserted
pub record MayAssert (s : State) (b : Bound) : Type 0 where
  pub row_in : b.row < length s.forms
  pub room : length s.bounds < s.trail
  pub free : bound_on s.bounds b.row b.side ≡ None
  pub ordered : LeavesValue b.side b.value (bound_on s.bounds b.row (other_side b.side))

-- the value of a term that is a column, 0 for any other
abbrev pub value_from : State → Option ℕ → Rational
value_from s None = nothing
value_from s (Some c) = kept_point s c

abbrev pub value_of : State → TermId → Rational
value_of s t = value_from s (position (same_id t) (part_ids s.forms))
