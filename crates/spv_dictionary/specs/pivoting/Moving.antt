-- A column outside the basis moves to a bound, on the numbers.
use Rattle.std.specs.Prelude.{◌≡◌, ℕ, ◌<◌, false, List, length, nat_eq}
use Rattle.spv_frac.specs.rational.Rational.{Rational, plus, times}
use Rattle.spv_frac.specs.declared.frac.Op.TheVariants.{Sub}
use Rattle.spv_tableau_rules.specs.tableaux.Numbers.{minus}
use Rattle.spv_tableau_rules.specs.tableaux.Operations.{Operation, operation}
use Rattle.spv_dictionary.specs.Dictionary.{Dictionary, basic_at, outside_at}
use Rattle.spv_dictionary.specs.updates.Shifts.{value_in, entry_in, IsRowGoing}

abbrev pub way_to : Dictionary → List Rational → ℕ → Rational → Rational
way_to d values slot bound = minus bound (value_in values (outside_at d slot))

-- an operation of the move
pub data IsMoving (d : Dictionary) (values : List Rational) (slot : ℕ) (bound : Rational) (o : Operation) : Type 0 where
  distance : o ≡ operation Sub bound (value_in values (outside_at d slot)) → IsMoving d values slot bound o
  going : IsRowGoing d values slot (way_to d values slot bound) (length d.basic) o → IsMoving d values slot bound o

-- the values after the move: the slot's column is at the bound, and those of all rows have gone on
pub record AreMovedTo (d : Dictionary) (values : List Rational) (slot : ℕ) (bound : Rational) (new : List Rational) : Type 0 where
  pub count : length new ≡ length values
  pub column : value_in new (outside_at d slot) ≡ bound
  pub rows : (k : ℕ) → k < length d.basic → value_in new (basic_at d k) ≡ plus (value_in values (basic_at d k)) (times (way_to d values slot bound) (entry_in d k slot))
  pub slots : (j : ℕ) → j < length d.outside → nat_eq j slot ≡ false → value_in new (outside_at d j) ≡ value_in values (outside_at d j)
