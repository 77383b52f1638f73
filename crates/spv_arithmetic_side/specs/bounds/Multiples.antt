-- Multiples of bounds, as a tableau tells them.
use Rattle.std.specs.Prelude.{ℕ}
use Rattle.spv_whole.specs.Fraction.{Fraction}
use Rattle.spv_frac.specs.rational.Rational.{number}
use Rattle.spv_tableau_rules.specs.declared.tableaux.side.Side.{Side}
use Rattle.spv_tableau_rules.specs.tableaux.Contradictions.{Multiple}

abbrev pub multiple_in : ℕ × Side × Fraction → Multiple
multiple_in m = record { row = m.0; side = m.1; factor = number m.2 }
