-- What is tried of a row.
use Rattle.std.specs.Prelude.{◌≡◌, ◌⊎◌, ℕ, true, List, pos, Some, slice_get}
use Rattle.spv_whole.specs.Fraction.{Fraction}
use Rattle.spv_logic.specs.Terms.{Term}
use Rattle.spv_term.specs.Arena.{Arena, IsArena}
use Rattle.spv_proof_rules.specs.Sums.{difference, is_at_most_zero, cited_reading, refutes}
use Rattle.spv_derivations.specs.declared.derivation.entries.Entry.{Entry}
use Rattle.spv_derivations.specs.derivation.Derivation.{facts}
use Rattle.spv_derivations.specs.derivation.Derived.{is_number}
use Rattle.spv_tableau_rules.specs.declared.constraints.saying.RowConstraint.{RowConstraint}
use Rattle.spv_tableau_rules.specs.constraints.Relations.{AreIn}
use Rattle.spv_tableau_rules.specs.tableaux.Bounds.{AreBounds, Bound, limits, Meets}
use Rattle.spv_tableau_rules.specs.tableaux.Rows.{Point, IsSolution}
use Rattle.spv_tableau_rules.specs.tableaux.Solved.{basis_of}
use Rattle.spv_tableau_rules.specs.tableaux.Walks.{held_at, HoldsBounds, IsUnfinished, IsWide}
use Rattle.spv_simplex.specs.Checks.{IsAmong}
use Rattle.spv_simplex.specs.Evidence.{no_operation}
use Rattle.spv_simplex.specs.State.{State, rows_in}
use Rattle.spv_simplex.specs.declared.checked.Checked.{Checked}
use Rattle.spv_simplex.specs.declared.checked.Checked.TheVariants.{Feasible, Infeasible, Wide, Pivots}
use Rattle.spv_tableau_rules.specs.constraints.Sources.{fact_multiples}
use Rattle.spv_arithmetic_side.specs.bounds.Sources.{sources_in}
use Rattle.spv_arithmetic_side.specs.declared.constraint_rows.standing.Standing.{Standing}
use Rattle.spv_arithmetic_side.specs.declared.constraint_rows.forcing.Tried.{Tried}
use Rattle.spv_arithmetic_side.specs.declared.constraint_rows.forcing.Tried.TheVariants.{Refuted, Met, Stopped}
use Rattle.spv_arithmetic_side.specs.constraint_rows.Standing.{IsMetAt, readings, SaidBy, Sourced}

-- where the bounds that stand come from facts of a derivation, the multiples of these refute that p is above q
pub record Refutes (b : Standing) (row : ℕ) (x : RowConstraint) (multiples : List (Fraction × ℕ)) : Type 0 where
  pub shown : (a : Arena) (es : List Entry) (p q : Term) → IsArena a → AreIn a b.tableau.forms → Sourced a (readings a es) b b.tableau.bounds
      → SaidBy a (cited_reading (is_number a) (facts a es) (is_at_most_zero (difference q p (pos 1)))) b row x 0
      → refutes (is_number a) (facts a es) p q multiples ≡ true

-- a point solves the rows, and meets the bounds that stand and those that a saying is
pub record HasPoint (b : Standing) (row : ℕ) (x : RowConstraint) : Type 0 where
  pub point : Point
  pub solution : IsSolution (rows_in b.tableau) point
  pub stand : Meets (limits (rows_in b.tableau) b.tableau.bounds) point
  pub meets : IsMetAt b row x point

-- what came of trying
abbrev pub IsTried : Standing → ℕ → RowConstraint → Tried → Type 0
IsTried b row x (Refuted multiples) = Refutes b row x multiples
IsTried b row x Met = HasPoint b row x
IsTried b row x Stopped = Unit {0}

-- the last check was stopped
abbrev pub IsStopped : Standing → Type 0
IsStopped b = (b.tableau.answer ≡ Some Wide) ⊎ (b.tableau.answer ≡ Some Pivots)

-- why a check was stopped: after its steps an operation does not fit, or there are as many steps as are allowed and one more would follow
pub data Halts (s : State) : Type 0 where
  too_wide : s.answer ≡ Some Wide → IsWide (rows_in s) s.evidence.start s.evidence.steps s.evidence.operation → Halts s
  all_pivots : s.answer ≡ Some Pivots → IsUnfinished (rows_in s) s.evidence.start s.evidence.steps s.pivots → s.evidence.operation ≡ no_operation → Halts s

-- The evidence of a check that was stopped, where these bounds were ever asserted: it began with some of them, no two of which
-- stood on one side of a row or left a row no room; outside its basis each part held 0, and each row's column one of them on its row; and it says why it was stopped.
pub record HasEvidence (known : List Bound) (s : State) : Type 0 where
  pub bounds : (place : ℕ) (x : Bound) → slice_get s.evidence.start.bounds place ≡ Some x → IsAmong known x
  pub are : AreBounds (rows_in s) s.evidence.start.bounds
  pub held : HoldsBounds (rows_in s) known (basis_of s.evidence.start.basis) (held_at s.evidence.start.held)
  pub halts : Halts s

-- what came of a check
abbrev pub IsOutcome : Standing → Checked → Tried → Type 0
IsOutcome b checked (Refuted multiples) = (checked ≡ Infeasible) × (multiples ≡ fact_multiples (sources_in b.sources.items) b.tableau.combination)
IsOutcome b checked Met = checked ≡ Feasible
IsOutcome b checked Stopped = (checked ≡ Wide) ⊎ (checked ≡ Pivots)

-- multiples of facts refute it
abbrev pub IsRefutedBy : Standing → ℕ → RowConstraint → Tried → Type 0
IsRefutedBy b row x (Refuted multiples) = Refutes b row x multiples
IsRefutedBy b row x _ = ⊥
