-- The derivation of a check on the numbers: columns outside the basis move into their bounds, and then steps are made.
use Rattle.std.specs.Prelude.{◌≡◌, ℕ, suc, ◌<◌, List, [], ◌∷◌, ◌++◌, length, Some, None}
use Rattle.spv_frac.specs.rational.Rational.{Rational}
use Rattle.spv_tableau_rules.specs.declared.tableaux.side.Side.{Side}
use Rattle.spv_tableau_rules.specs.tableaux.Bounds.{Limits}
use Rattle.spv_tableau_rules.specs.tableaux.Operations.{Operation, Compares}
use Rattle.spv_tableau_rules.specs.tableaux.Walks.{Exchange}
use Rattle.spv_dictionary.specs.Dictionary.{Dictionary, outside_at}
use Rattle.spv_dictionary.specs.updates.Shifts.{value_in}
use Rattle.spv_dictionary.specs.declared.pivoting.choosing.Chosen.{Chosen}
use Rattle.spv_dictionary.specs.declared.pivoting.entering.Entry.{Entry}
use Rattle.spv_dictionary.specs.pivoting.Choosing.{out_side}
use Rattle.spv_dictionary.specs.pivoting.Finding.{IsChosen}
use Rattle.spv_dictionary.specs.pivoting.Moving.{IsMoving, AreMovedTo}
use Rattle.spv_dictionary.specs.pivoting.Stepping.{IsStepping}
use Rattle.spv_simplex.specs.pivot_runs.Along.{IsGone}

-- ---- before the first step

-- the column of a slot moves to the bound that it breaks, if it breaks one
pub data IsPlaced (limits : Limits) (d : Dictionary) (values : List Rational) (slot : ℕ) (after : List Rational) : Type 0 where
  stays : out_side limits (value_in values) (outside_at d slot) ≡ None → after ≡ values → IsPlaced limits d values slot after
  moves : (side : Side) (bound : Rational) → out_side limits (value_in values) (outside_at d slot) ≡ Some side → limits (outside_at d slot) side ≡ Some bound
      → AreMovedTo d values slot bound after → IsPlaced limits d values slot after

-- an operation of it
pub data IsPlacing (limits : Limits) (d : Dictionary) (values : List Rational) (slot : ℕ) (o : Operation) : Type 0 where
  compares : Compares limits (value_in values) o → IsPlacing limits d values slot o
  moving : (side : Side) (bound : Rational) → out_side limits (value_in values) (outside_at d slot) ≡ Some side → limits (outside_at d slot) side ≡ Some bound
      → IsMoving d values slot bound o → IsPlacing limits d values slot o

-- the columns of the first n slots have moved
pub data ArePlaced (limits : Limits) (d : Dictionary) (values : List Rational) : ℕ → List Rational → Type 0 where
  none : ArePlaced limits d values 0 values
  more : (n m : ℕ) (now after : List Rational) → ArePlaced limits d values n now → n < length d.outside → IsPlaced limits d now n after → m ≡ suc n
      → ArePlaced limits d values m after

-- ---- steps

-- the steps that lead from a solved form and its values to others
pub data Goes (limits : Limits) (d : Dictionary) (values : List Rational) : List Exchange → Dictionary → List Rational → Type 0 where
  begins : Goes limits d values [] d values
  steps : (made : List Exchange) (here : Dictionary) (now : List Rational) (chosen : Chosen) (entry : Entry) (next : Dictionary) (after : List Rational)
      → Goes limits d values made here now → IsGone limits here now chosen entry next after
      → Goes limits d values (made ++ record { leaving = chosen.column; entering = entry.column } ∷ []) next after

-- an operation of the next step
pub data IsNextOn (limits : Limits) (d : Dictionary) (values : List Rational) (o : Operation) : Type 0 where
  compares : Compares limits (value_in values) o → IsNextOn limits d values o
  makes : (chosen : Chosen) (entry : Entry) → IsChosen limits d (value_in values) chosen entry → IsStepping d values chosen.row entry.slot chosen.bound o
      → IsNextOn limits d values o
