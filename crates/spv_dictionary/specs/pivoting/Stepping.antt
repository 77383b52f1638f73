-- A step on the numbers: the column of a row goes to a bound, and that of a slot enters for it.
use Rattle.std.specs.Prelude.{◌≡◌, ℕ, ◌<◌, false, List, length, nat_eq}
use Rattle.spv_frac.specs.rational.Rational.{Rational, plus, times}
use Rattle.spv_frac.specs.declared.frac.Op.TheVariants.{Add, Sub, Div}
use Rattle.spv_tableau_rules.specs.tableaux.Numbers.{minus, divided}
use Rattle.spv_tableau_rules.specs.tableaux.Operations.{Operation, operation}
use Rattle.spv_dictionary.specs.Dictionary.{Dictionary, basic_at, outside_at, with_solved}
use Rattle.spv_dictionary.specs.Exchanges.{IsExchanged}
use Rattle.spv_dictionary.specs.Mixing.{IsReady, IsRefused}
use Rattle.spv_dictionary.specs.updates.Shifts.{value_in, entry_in, IsRowGoing, CanGoTo}

-- how far the value of the row's column is from the bound
abbrev pub distance_of : Dictionary → List Rational → ℕ → Rational → Rational
distance_of d values row bound = minus bound (value_in values (basic_at d row))

-- how far the slot's column has to go for it
abbrev pub shift_of : Dictionary → List Rational → ℕ → ℕ → Rational → Rational
shift_of d values row slot bound = divided (distance_of d values row bound) (entry_in d row slot)

-- an operation of a step
pub data IsStepping (d : Dictionary) (values : List Rational) (row slot : ℕ) (bound : Rational) (o : Operation) : Type 0 where
  distance : o ≡ operation Sub bound (value_in values (basic_at d row)) → IsStepping d values row slot bound o
  dividing : o ≡ operation Div (distance_of d values row bound) (entry_in d row slot) → IsStepping d values row slot bound o
  entering : o ≡ operation Add (value_in values (outside_at d slot)) (shift_of d values row slot bound) → IsStepping d values row slot bound o
  going : IsRowGoing d values slot (shift_of d values row slot bound) row o → IsStepping d values row slot bound o
  exchanging : IsRefused d row slot o → IsStepping d values row slot bound o

-- what a test of a step leaves
pub record IsTested (d : Dictionary) (values : List Rational) (row slot : ℕ) (bound : Rational) (new : Dictionary) (shift next : Rational) : Type 0 where
  pub shift_is : shift ≡ shift_of d values row slot bound
  pub next_is : next ≡ plus (value_in values (outside_at d slot)) shift
  pub can_go : CanGoTo d values slot shift row (length d.basic)
  pub ready : IsReady new row slot

-- the values after a step: the row's column is at the bound, the slot's column and those of the other rows have gone on
pub record AreStepped (d : Dictionary) (values : List Rational) (row slot : ℕ) (bound shift : Rational) (new : List Rational) : Type 0 where
  pub count : length new ≡ length values
  pub leaving : value_in new (basic_at d row) ≡ bound
  pub entering : value_in new (outside_at d slot) ≡ plus (value_in values (outside_at d slot)) shift
  pub rows : (k : ℕ) → k < length d.basic → nat_eq k row ≡ false → value_in new (basic_at d k) ≡ plus (value_in values (basic_at d k)) (times shift (entry_in d k slot))
  pub slots : (j : ℕ) → j < length d.outside → nat_eq j slot ≡ false → value_in new (outside_at d j) ≡ value_in values (outside_at d j)

-- a step that was made
pub record IsMade (d : Dictionary) (values : List Rational) (row slot : ℕ) (bound : Rational) (new : Dictionary) (after : List Rational) : Type 0 where
  pub solved : List Rational
  pub exchanged : IsExchanged (with_solved d solved) new row slot
  pub stepped : AreStepped d values row slot bound (shift_of d values row slot bound) after
