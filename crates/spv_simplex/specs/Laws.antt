-- What is known of the bounds that were ever asserted.
use Rattle.std.specs.Prelude.{ℕ, List, [], ◌∷◌, ◌++◌}
use Rattle.spv_atoms.specs.Linear.{IdForm}
use Rattle.spv_tableau_rules.specs.tableaux.Bounds.{Bound}
use Rattle.spv_simplex.specs.State.{State, IsOpened, with_bound, with_first}
use Rattle.spv_simplex.specs.Checks.{HoldsAsserted}

-- as it begins, none was asserted
abbrev pub OpensWithNone : Type 0
OpensWithNone = (forms : List IdForm) (trail pivots : ℕ) (s : State) → IsOpened forms trail pivots s → HoldsAsserted [] s

abbrev pub AssertsOne : Type 0
AssertsOne = (asserted : List Bound) (s : State) (b : Bound) → HoldsAsserted asserted s → HoldsAsserted (asserted ++ b ∷ []) (with_bound s b)

-- what is undone was asserted all the same
abbrev pub UndoesNone : Type 0
UndoesNone = (asserted : List Bound) (s : State) (n : ℕ) → HoldsAsserted asserted s → HoldsAsserted asserted (with_first s n)
