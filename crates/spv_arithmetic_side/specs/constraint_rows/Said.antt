-- What rows say, what may be said of them, and what excludes it.
use Rattle.std.specs.Prelude.{◌≡◌, ℕ, ◌<◌, Bool, true, false, List, [], ◌∷◌, length, Option, Some, None, ℤ, pos, ◌+ℤ◌, neg_ℤ, slice_get}
use Rattle.spv_whole.specs.Fraction.{Fraction}
use Rattle.spv_whole.specs.Fraction as fraction
use Rattle.spv_frac.specs.rational.Rational.{Rational, number, whole}
use Rattle.spv_term.specs.Arena.{Arena}
use Rattle.spv_atoms.specs.Linear.{IdForm}
use Rattle.spv_proof_rules.specs.Sums.{Reading}
use Rattle.spv_tableau_rules.specs.tableaux.Numbers.{is_less}
use Rattle.spv_tableau_rules.specs.declared.tableaux.side.Side.{Side}
use Rattle.spv_tableau_rules.specs.declared.tableaux.side.Side.TheVariants.{Lower, Upper}
use Rattle.spv_tableau_rules.specs.tableaux.Bounds.{Bound, bound_on, other_side}
use Rattle.spv_tableau_rules.specs.tableaux.Operations.{fits}
use Rattle.spv_simplex.specs.State.{clashes, compared}
use Rattle.spv_tableau_rules.specs.declared.constraints.saying.RowConstraint.{RowConstraint}
use Rattle.spv_tableau_rules.specs.declared.constraints.saying.RowConstraint.TheVariants.{Equal, Below, AtMost, Above, AtLeast, Differs}
use Rattle.spv_tableau_rules.specs.constraints.Sources.{IsSourced}
use Rattle.spv_arithmetic_side.specs.declared.bounds.sources.RowSources.{RowSources}
use Rattle.spv_arithmetic_side.specs.declared.constraint_rows.standing.Standing.{Standing}
use Rattle.spv_arithmetic_side.specs.constraint_rows.Standing.{Adds, AreBoundsOf, SaidBy, Sourced, Stands}

-- the bound that a saying is on a side of a row whose form has this constant
abbrev pub bound_in : ℤ → RowConstraint → Side → Option Rational
bound_in constant Equal Lower = Some (whole (neg_ℤ constant))
bound_in constant Equal Upper = Some (whole (neg_ℤ constant))
bound_in constant Below Lower = None
bound_in constant Below Upper = Some (whole (neg_ℤ (constant +ℤ pos 1)))
bound_in constant AtMost Lower = None
bound_in constant AtMost Upper = Some (whole (neg_ℤ constant))
bound_in constant Above Lower = Some (whole (neg_ℤ constant +ℤ pos 1))
bound_in constant Above Upper = None
bound_in constant AtLeast Lower = Some (whole (neg_ℤ constant))
bound_in constant AtLeast Upper = None
bound_in constant Differs Lower = None
bound_in constant Differs Upper = None

-- whether a saying is a bound on the lower side
abbrev pub has_lower : RowConstraint → Bool
has_lower Equal = true
has_lower Above = true
has_lower AtLeast = true
has_lower _ = false

-- exactly the bounds that a saying is stand on a row whose form has this constant
pub record Says (bounds : List Bound) (row : ℕ) (constant : ℤ) (x : RowConstraint) : Type 0 where
  pub on : (side : Side) → bound_on bounds row side ≡ bound_in constant x side

abbrev pub RowSays : Standing → ℕ → RowConstraint → Type 0
RowSays b row x = (f : IdForm) → slice_get b.tableau.forms row ≡ Some f → Says b.tableau.bounds row f.constant x

-- no bound stands on a row
pub record IsBare (b : Standing) (row : ℕ) : Type 0 where
  pub on : (side : Side) → bound_on b.tableau.bounds row side ≡ None

-- whether two sayings exclude each other: a bound that one is on the lower side is above one that the other is on the upper side
abbrev pub excludes : RowConstraint → RowConstraint → Bool
excludes Equal Below = true
excludes Equal Above = true
excludes Below Equal = true
excludes Below Above = true
excludes Below AtLeast = true
excludes Above Equal = true
excludes Above Below = true
excludes Above AtMost = true
excludes AtMost Above = true
excludes AtLeast Below = true
excludes _ _ = false

-- beside what is said of a row: nothing was said, or is; or it is the same; or both exclude each other
pub data GoesWith (x y : RowConstraint) : Type 0 where
  none_said : x ≡ Differs → GoesWith x y
  says_none : y ≡ Differs → GoesWith x y
  same_said : x ≡ y → GoesWith x y
  contrary : excludes x y ≡ true → GoesWith x y

-- this may be said of a row: what the row says goes with it
pub record MaySay (b : Standing) (row : ℕ) (y : RowConstraint) : Type 0 where
  pub other : RowConstraint
  pub says : RowSays b row other
  pub fits : GoesWith other y

-- what a row says excludes this
pub record IsOpposed (b : Standing) (row : ℕ) (y : RowConstraint) : Type 0 where
  pub other : RowConstraint
  pub says : RowSays b row other
  pub excluded : excludes other y ≡ true

-- after something was said of a row: it stood there; or nothing did, and now exactly the bounds that it is
pub data IsGiven (old new : Standing) (row : ℕ) (x : RowConstraint) : Type 0 where
  stood : new ≡ old → Stands old row x → IsGiven old new row x
  added : IsBare old row → ((bounds : List Bound) → AreBoundsOf old row x bounds → Adds old new bounds) → IsGiven old new row x

-- a row says what it said, or this
pub data SaysStill (row : ℕ) (x : RowConstraint) (bounds : List Bound) (i : ℕ) (constant : ℤ) (y : RowConstraint) : Type 0 where
  as_before : Says bounds i constant y → SaysStill row x bounds i constant y
  just_said : i ≡ row → Says bounds i constant x → SaysStill row x bounds i constant y

-- ---- a bound that may be asserted

-- the bound on the other side of the row, if there is one, leaves a value and can be compared
abbrev pub LeavesRoom : Side → Rational → Option Rational → Type 0
LeavesRoom side value None = Unit {0}
LeavesRoom side value (Some other) = (clashes side value other ≡ false) × (fits (compared side value other) ≡ true)

-- a side of a row is free for a bound
pub record IsFreeFor (b : Standing) (row : ℕ) (side : Side) (value : Rational) : Type 0 where
  pub row_in : row < length b.tableau.forms
  pub free : bound_on b.tableau.bounds row side ≡ None
  pub leaves : LeavesRoom side value (bound_on b.tableau.bounds row (other_side side))

abbrev pub IsFreeIf : Standing → ℕ → Side → Option Fraction → Type 0
IsFreeIf b row side None = Unit {0}
IsFreeIf b row side (Some v) = IsFreeFor b row side (number v)

-- ---- two bounds that exclude each other

-- the lower bound of a row is above the upper one, and each comes from a source
pub record IsContrary (a : Arena) (read : ℕ → Option Reading) (row : ℕ) (f : IdForm) (s : RowSources) : Type 0 where
  pub low : Rational
  pub high : Rational
  pub less : is_less high low ≡ true
  pub lower : IsSourced a read row f Lower low s.lower
  pub upper : IsSourced a read row f Upper high s.upper

-- what stands on a row and what a fact says of it are two such bounds
pub record AreOpposed (b : Standing) (row : ℕ) (x : RowConstraint) (k : ℕ) (s : RowSources) : Type 0 where
  pub shown : (a : Arena) (read : ℕ → Option Reading) (f : IdForm) → slice_get b.tableau.forms row ≡ Some f → Sourced a read b b.tableau.bounds → SaidBy a read b row x k → IsContrary a read row f s

-- both sides of one row, each once
abbrev pub two_sides : List (ℕ × Side × Fraction)
two_sides = (0, Lower, fraction.whole (pos 1)) ∷ (0, Upper, fraction.whole (pos 1)) ∷ []
