-- What a check promises.
use Rattle.std.specs.Prelude.{◌≡◌, ℕ, ◌<◌, false, List, Some, slice_get}
use Rattle.spv_tableau_rules.specs.declared.tableaux.side.Side.{Side}
use Rattle.spv_tableau_rules.specs.tableaux.Rows.{columns}
use Rattle.spv_tableau_rules.specs.tableaux.Bounds.{Bound, limits, Meets}
use Rattle.spv_tableau_rules.specs.tableaux.Solved.{is_basic, basis_of}
use Rattle.spv_tableau_rules.specs.tableaux.Walks.{Start, held_at, IsWide, IsUnfinished, HoldsBounds}
use Rattle.spv_tableau_rules.specs.tableaux.Contradictions.{IsContradiction}
use Rattle.spv_dictionary.specs.Dictionary.{places}
use Rattle.spv_simplex.specs.pivot_runs.Arrivals.{in_basis_after}
use Rattle.spv_simplex.specs.declared.checked.Checked.{Checked}
use Rattle.spv_simplex.specs.declared.checked.Checked.TheVariants as checked
use Rattle.spv_simplex.specs.Evidence.{no_operation}
use Rattle.spv_simplex.specs.State.{State, rows_in, kept_point}

-- the evidence begins with the bounds that stand, the kept basis and the values that the other columns hold
pub record BeginsWith (s : State) (start : Start) : Type 0 where
  pub bounds : start.bounds ≡ s.bounds
  pub basis : start.basis ≡ s.form.basic
  pub in_basis : (c : ℕ) → is_basic (basis_of start.basis c) ≡ is_basic (places s.form c)
  pub held : (c : ℕ) → c < columns (rows_in s) → is_basic (places s.form c) ≡ false → held_at start.held c ≡ kept_point s c

-- ---- the four answers

-- the kept point meets all bounds
abbrev pub IsFeasible : State → Type 0
IsFeasible s = Meets (limits (rows_in s) s.bounds) (kept_point s)

-- the kept combination is a contradiction of the bounds
abbrev pub IsInfeasible : State → Type 0
IsInfeasible s = IsContradiction (rows_in s) s.bounds s.combination

-- the kept basis is the one that the evidence begins with, after the kept steps
abbrev pub KeepsSteps : State → Type 0
KeepsSteps s =
    (c : ℕ) → c < columns (rows_in s) → is_basic (places s.form c) ≡ in_basis_after (λ y. is_basic (basis_of s.evidence.start.basis y)) s.evidence.steps c

-- the kept operation, after the kept steps, does not fit
pub record IsTooWide (old new : State) : Type 0 where
  pub begins : BeginsWith old new.evidence.start
  pub wide : IsWide (rows_in old) new.evidence.start new.evidence.steps new.evidence.operation
  pub kept : KeepsSteps new

-- the kept steps are as many as may be, and one more would follow
pub record HasAllPivots (old new : State) : Type 0 where
  pub begins : BeginsWith old new.evidence.start
  pub unfinished : IsUnfinished (rows_in old) new.evidence.start new.evidence.steps old.pivots
  pub kept : KeepsSteps new
  pub operation : new.evidence.operation ≡ no_operation

abbrev pub Means : Checked → State → State → Type 0
Means checked.Feasible old new = IsFeasible new
Means checked.Infeasible old new = IsInfeasible new
Means checked.Wide old new = IsTooWide old new
Means checked.Pivots old new = HasAllPivots old new

-- what a column outside the basis holds: what it held outside of it before, or a bound that stands
pub data Rests (old new : State) (c : ℕ) : Type 0 where
  as_before : is_basic (places old.form c) ≡ false → kept_point new c ≡ kept_point old c → Rests old new c
  at_bound : (side : Side) → limits (rows_in old) old.bounds c side ≡ Some (kept_point new c) → Rests old new c

-- what a check leaves as it was, and its answer
pub record IsChecked (old new : State) (answer : Checked) : Type 0 where
  pub forms : new.forms ≡ old.forms
  pub trail : new.trail ≡ old.trail
  pub pivots : new.pivots ≡ old.pivots
  pub bounds : new.bounds ≡ old.bounds
  pub answered : new.answer ≡ Some answer
  pub rests : (c : ℕ) → c < columns (rows_in old) → is_basic (places new.form c) ≡ false → Rests old new c
  pub means : Means answer old new

-- ---- the bounds that were asserted since the tableau was opened, undone or not

-- a bound is among those that were asserted
pub record IsAmong (asserted : List Bound) (b : Bound) : Type 0 where
  pub place : ℕ
  pub there : slice_get asserted place ≡ Some b

-- all bounds that stand are among them, and what the columns of rows outside the basis hold are bounds of them on their rows
pub record HoldsAsserted (asserted : List Bound) (s : State) : Type 0 where
  pub standing : (place : ℕ) (b : Bound) → slice_get s.bounds place ≡ Some b → IsAmong asserted b
  pub held : HoldsBounds (rows_in s) asserted (places s.form) (kept_point s)
