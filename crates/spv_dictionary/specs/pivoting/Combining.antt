-- The combination that a stuck column is read as, on the numbers.
use Rattle.std.specs.Prelude.{ℕ, ◌+◌, List}
use Rattle.spv_whole.specs.Fraction.{Fraction}
use Rattle.spv_frac.specs.rational.Rational.{number}
use Rattle.spv_tableau_rules.specs.declared.tableaux.side.Side.{Side}
use Rattle.spv_tableau_rules.specs.pivots.Moved.{turned, multiples_to}
use Rattle.spv_tableau_rules.specs.tableaux.Contradictions.{Multiple}
use Rattle.spv_dictionary.specs.Dictionary.{Dictionary, entries}

-- the multiples of the first rows
abbrev pub multiples_in : Dictionary → ℕ → ℕ → Side → ℕ → List Multiple
multiples_in d width leaving side n = multiples_to n (λ i. turned (entries d) leaving side (width + i))

-- a multiple of a bound, as the code keeps it
abbrev pub multiple_in : ℕ × Side × Fraction → Multiple
multiple_in m = record { row = m.0; side = m.1; factor = number m.2 }
