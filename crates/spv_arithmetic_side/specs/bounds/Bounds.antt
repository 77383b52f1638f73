-- The bounds of the code as the definitions have them.
use Rattle.std.specs.Prelude.{ℕ, Bool, ◌&&◌, List, [], ◌∷◌, ◌++◌, Option, Some, None, ℤ, pos, ◌+ℤ◌, neg_ℤ}
use Rattle.spv_whole.specs.Fraction.{Fraction}
use Rattle.spv_frac.specs.rational.Rational.{number}
use Rattle.spv_frac.specs.Range.{fits}
use Rattle.spv_tableau_rules.specs.declared.tableaux.side.Side.{Side}
use Rattle.spv_tableau_rules.specs.declared.tableaux.side.Side.TheVariants.{Lower, Upper}
use Rattle.spv_tableau_rules.specs.tableaux.Bounds.{Bound}
use Rattle.spv_arithmetic_side.specs.declared.bounds.bounds.Bounds.{Bounds}

-- a bound on a side of a row, if there is one
abbrev pub bound_at : ℕ → Side → Option Fraction → List Bound
bound_at row side None = []
bound_at row side (Some f) = record { row = row; side = side; value = number f } ∷ []

abbrev pub bounds_in : ℕ → Bounds → List Bound
bounds_in row b = bound_at row Lower b.lower ++ bound_at row Upper b.upper

-- a number, the one after it and the one after its opposite fit
abbrev pub has_room : ℤ → Bool
has_room n = fits n && (fits (n +ℤ pos 1) && fits (neg_ℤ n +ℤ pos 1))
