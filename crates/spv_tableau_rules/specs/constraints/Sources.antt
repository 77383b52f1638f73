-- Where bounds come from, and a contradiction of them as multiples of facts.
use Rattle.std.specs.Prelude.{◌≡◌, ℕ, zero, suc, Bool, true, false, ◌&&◌, List, map, Option, Some, None, nat_eq, slice_get, if◌then◌else◌}
use Rattle.spv_whole.specs.Fraction.{Fraction}
use Rattle.spv_frac.specs.rational.Rational.{Rational}
use Rattle.spv_logic.specs.Terms.{Term}
use Rattle.spv_term.specs.Arena.{Arena}
use Rattle.spv_atoms.specs.Linear.{IdForm}
use Rattle.spv_proof_rules.specs.Sums.{Reading, read_cited}
use Rattle.spv_tableau_rules.specs.declared.tableaux.side.Side.{Side}
use Rattle.spv_tableau_rules.specs.tableaux.Bounds.{Bound, bound_on, same_side}
use Rattle.spv_tableau_rules.specs.tableaux.Contradictions.{Multiple, signed}
use Rattle.spv_tableau_rules.specs.declared.constraints.saying.RowConstraint.{RowConstraint}
use Rattle.spv_tableau_rules.specs.declared.constraints.source.Source.{Source}
use Rattle.spv_tableau_rules.specs.constraints.Sayings.{reading_of, says_equal, bounds_of}
use Rattle.spv_tableau_rules.specs.constraints.Relations.{IsRowOf}

-- what a fact says, by its number from 1
abbrev pub fact_reading : (Term → Bool) → List Term → ℕ → Option Reading
fact_reading is_number facts zero = None
fact_reading is_number facts (suc k) = read_cited is_number (slice_get facts k)

-- where the bound on each side of each row comes from
abbrev pub Sources : Type 0
Sources = ℕ → Side → Source

-- a bound on a side of a row comes from this source: the fact of its number, read by `facts`, says of the sides of the row what gives the bound
pub record IsSourced (a : Arena) (facts : ℕ → Option Reading) (i : ℕ) (f : IdForm) (side : Side) (value : Rational) (s : Source) : Type 0 where
  pub left : Term
  pub right : Term
  pub saying : RowConstraint
  pub row : IsRowOf a (left, right) f
  pub bound : bound_on (bounds_of i f.constant saying) i side ≡ Some value
  pub read : facts s.fact ≡ reading_of saying left right
  pub equal : s.is_equal ≡ says_equal saying

-- each bound on one of these rows comes from its source
pub record AreSourced (a : Arena) (facts : ℕ → Option Reading) (forms : List IdForm) (bounds : List Bound) (sources : Sources) : Type 0 where
  pub each : (i : ℕ) (f : IdForm) (side : Side) (value : Rational) → slice_get forms i ≡ Some f → bound_on bounds i side ≡ Some value
      → IsSourced a facts i f side value (sources i side)

-- the sources with another one for a side of a row
abbrev pub with_source : Sources → ℕ → Side → Source → Sources
with_source sources i side s j other = if nat_eq i j && same_side side other then s else sources j other

-- ---- contradictions as multiples of facts

-- what a fact is multiplied by: an inequality by the factor of its bound; an equality by its opposite, where the bound is a lower one
abbrev pub multiplier : Bool → Side → Rational → Rational
multiplier true side factor = signed side factor
multiplier false side factor = factor

abbrev pub multiple_of : Sources → Multiple → Fraction × ℕ
multiple_of sources m = ((multiplier (sources m.row m.side).is_equal m.side m.factor).fraction, (sources m.row m.side).fact)

-- multiples of bounds as multiples of the facts that these come from
abbrev pub fact_multiples : Sources → List Multiple → List (Fraction × ℕ)
fact_multiples sources multiples = map (multiple_of sources) multiples
