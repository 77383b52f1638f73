-- Bounds that stand, and the facts that they come from.
use Rattle.std.specs.Prelude.{◌≡◌, false, ℕ, ◌+◌, ◌<◌, ◌≤◌, List, ◌++◌, take, length, Option, Some, None, slice_get}
use Rattle.spv_whole.specs.Fraction.{Fraction}
use Rattle.spv_frac.specs.rational.Rational.{Rational, number}
use Rattle.spv_logic.specs.Terms.{Term}
use Rattle.spv_term.specs.Arena.{Arena}
use Rattle.spv_atoms.specs.Linear.{IdForm}
use Rattle.spv_proof_rules.specs.Sums.{Reading}
use Rattle.spv_tableau_rules.specs.declared.tableaux.side.Side.{Side}
use Rattle.spv_tableau_rules.specs.tableaux.Rows.{Point, column_of}
use Rattle.spv_tableau_rules.specs.tableaux.Bounds.{Bound, bound_on, breaks}
use Rattle.spv_simplex.specs.State.{kept_point, rows_in}
use Rattle.spv_simplex.specs.Checks.{IsAmong}
use Rattle.spv_dictionary.specs.pivoting.Trail.{bound_of}
use Rattle.spv_derivations.specs.declared.derivation.entries.Entry.{Entry}
use Rattle.spv_derivations.specs.derivation.Derivation.{facts}
use Rattle.spv_derivations.specs.derivation.Derived.{is_number}
use Rattle.spv_tableau_rules.specs.declared.constraints.saying.RowConstraint.{RowConstraint}
use Rattle.spv_tableau_rules.specs.declared.constraints.source.Source.{Source}
use Rattle.spv_tableau_rules.specs.constraints.Relations.{IsRowOf}
use Rattle.spv_tableau_rules.specs.constraints.Sayings.{bounds_of, says_equal}
use Rattle.spv_tableau_rules.specs.constraints.Sources.{fact_reading, AreSourced, IsSourced}
use Rattle.spv_arithmetic_side.specs.bounds.Sources.{sources_in}
use Rattle.spv_arithmetic_side.specs.slack_rows.Rows.{HaveRoom}
use Rattle.spv_arithmetic_side.specs.declared.constraint_rows.standing.Standing.{Standing}

-- the facts of a derivation, as they are read
abbrev pub readings : Arena → List Entry → ℕ → Option Reading
readings a es k = fact_reading (is_number a) (facts a es) k

-- each of these bounds comes from its source, by these readings
abbrev pub Sourced : Arena → (ℕ → Option Reading) → Standing → List Bound → Type 0
Sourced a read b bounds = AreSourced a read b.tableau.forms bounds (sources_in b.sources.items)

-- rows with room, each with its form, and sources for all; and so many bounds may stand as rows have sides
pub record IsStanding (b : Standing) : Type 0 where
  pub forms : b.forms.items ≡ b.tableau.forms
  pub sources : length b.sources.items ≡ length b.tableau.forms
  pub room : HaveRoom b.tableau.forms
  pub trail : b.tableau.trail ≡ length b.tableau.forms + length b.tableau.forms

-- only bounds come behind the others; and what is known of the sources of the first bounds stays true
pub record Adds (old new : Standing) (more : List Bound) : Type 0 where
  pub forms : new.tableau.forms ≡ old.tableau.forms
  pub pivots : new.tableau.pivots ≡ old.tableau.pivots
  pub bounds : new.tableau.bounds ≡ old.tableau.bounds ++ more
  pub first : (a : Arena) (read : ℕ → Option Reading) (n : ℕ) → n ≤ length old.tableau.bounds → Sourced a read old (take n old.tableau.bounds) → Sourced a read new (take n old.tableau.bounds)

-- a bound of a row comes from a source
abbrev pub ComesFrom : Arena → (ℕ → Option Reading) → Standing → ℕ → Side → Option Fraction → Source → Type 0
ComesFrom a read b row side None s = Unit {0}
ComesFrom a read b row side (Some v) s = (f : IdForm) → slice_get b.tableau.forms row ≡ Some f → IsSourced a read row f side (number v) s

-- the row of two terms
pub record HasRow (a : Arena) (b : Standing) (row : ℕ) (st : Term × Term) : Type 0 where
  pub there : row < length b.tableau.forms
  pub is : (f : IdForm) → slice_get b.tableau.forms row ≡ Some f → IsRowOf a st f

pub record AreBoundsOf (b : Standing) (row : ℕ) (x : RowConstraint) (bounds : List Bound) : Type 0 where
  pub form : IdForm
  pub there : slice_get b.tableau.forms row ≡ Some form
  pub are : bounds ≡ bounds_of row form.constant x

-- bounds come behind the others
pub record AddsSome (old new : Standing) : Type 0 where
  pub more : List Bound
  pub adds : Adds old new more

-- each bound that a saying is on a row comes from a fact
abbrev pub SaidBy : Arena → (ℕ → Option Reading) → Standing → ℕ → RowConstraint → ℕ → Type 0
SaidBy a read b row x k = (f : IdForm) → slice_get b.tableau.forms row ≡ Some f → (side : Side) (value : Rational) → bound_on (bounds_of row f.constant x) row side ≡ Some value
    → IsSourced a read row f side value (record { fact = k; is_equal = says_equal x })

-- as it was: the rows, the bounds, and what is known of the sources of the first of them
pub record IsBack (old new : Standing) : Type 0 where
  pub forms : new.tableau.forms ≡ old.tableau.forms
  pub pivots : new.tableau.pivots ≡ old.tableau.pivots
  pub bounds : new.tableau.bounds ≡ old.tableau.bounds
  pub first : (a : Arena) (read : ℕ → Option Reading) (n : ℕ) → n ≤ length old.tableau.bounds → Sourced a read old (take n old.tableau.bounds) → Sourced a read new (take n old.tableau.bounds)

-- ---- bounds that were ever asserted

-- each bound that a saying is on a row is among these
pub record HasSaid (known : List Bound) (b : Standing) (row : ℕ) (x : RowConstraint) : Type 0 where
  pub each : (f : IdForm) → slice_get b.tableau.forms row ≡ Some f → (j : ℕ) (bound : Bound) → slice_get (bounds_of row f.constant x) j ≡ Some bound → IsAmong known bound

-- a bound on a side of a row, if it is one, is among these
abbrev pub IsAmongIf : List Bound → ℕ → Side → Option Fraction → Type 0
IsAmongIf known row side None = Unit {0}
IsAmongIf known row side (Some v) = IsAmong known (bound_of row side (number v))

-- ---- what stands on a row

-- a bound stands on a side of a row, if it is one
abbrev pub StandsOn : Standing → ℕ → Side → Option Fraction → Type 0
StandsOn b row side None = Unit {0}
StandsOn b row side (Some v) = bound_on b.tableau.bounds row side ≡ Some (number v)

-- each bound that a saying is on a row stands there
pub record Stands (b : Standing) (row : ℕ) (x : RowConstraint) : Type 0 where
  pub each : (f : IdForm) → slice_get b.tableau.forms row ≡ Some f → (j : ℕ) (bound : Bound) → slice_get (bounds_of row f.constant x) j ≡ Some bound
      → bound_on b.tableau.bounds row bound.side ≡ Some bound.value

-- a value is on the right side of a bound, if it is one
abbrev pub KeepsWithin : Side → Option Fraction → Rational → Type 0
KeepsWithin side None value = Unit {0}
KeepsWithin side (Some v) value = breaks side (number v) value ≡ false

-- a point meets each bound that a saying is on a row
pub record IsMetAt (b : Standing) (row : ℕ) (x : RowConstraint) (v : Point) : Type 0 where
  pub each : (f : IdForm) → slice_get b.tableau.forms row ≡ Some f → (j : ℕ) (bound : Bound) → slice_get (bounds_of row f.constant x) j ≡ Some bound
      → breaks bound.side bound.value (v (column_of (rows_in b.tableau) row)) ≡ false

-- the kept point does
abbrev pub IsMet : Standing → ℕ → RowConstraint → Type 0
IsMet b row x = IsMetAt b row x (kept_point b.tableau)
