-- What is true of bounds.
use Rattle.std.specs.Prelude.{◌≡◌, ℕ}
use Rattle.std.specs.Option.{option_map}
use Rattle.spv_frac.specs.rational.Rational.{number}
use Rattle.spv_tableau_rules.specs.declared.tableaux.side.Side.TheVariants.{Lower, Upper}
use Rattle.spv_tableau_rules.specs.tableaux.Bounds.{bound_on}
use Rattle.spv_arithmetic_side.specs.declared.bounds.bounds.Bounds.{Bounds}
use Rattle.spv_arithmetic_side.specs.bounds.Bounds.{bounds_in}

-- the bound that is found on the lower side of a row, and on the upper side
abbrev pub LowerIsFound : Type 0
LowerIsFound = (row : ℕ) (b : Bounds) → bound_on (bounds_in row b) row Lower ≡ option_map number b.lower

abbrev pub UpperIsFound : Type 0
UpperIsFound = (row : ℕ) (b : Bounds) → bound_on (bounds_in row b) row Upper ≡ option_map number b.upper
