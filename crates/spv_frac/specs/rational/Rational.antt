-- The rational numbers: one value for each number, so that equal numbers are equal values.
use Rattle.std.specs.Prelude.{ℕ, zero, suc, Bool, ℤ, pos}
use Rattle.std.specs.Int.RustNames.{int_lt}
use Rattle.std.specs.Ordering.{int_eq}
use Rattle.std.proofs.Math.Nat.{zero-lt-suc}
use Rattle.spv_whole.specs.Fraction.{Fraction, IsLowest}
use Rattle.spv_whole.specs.Fraction as fraction
use Rattle.spv_whole.proofs.Arithmetic.{sum-IsLowest, product-IsLowest}
use Rattle.spv_whole.proofs.Lowest.{lowest-IsLowest}
use Rattle.spv_whole.proofs.Units.{whole-IsLowest, negated-IsLowest}

-- a fraction in lowest terms
pub record Rational : Type 0 where
  pub fraction : Fraction
  pub is_lowest : IsLowest fraction

-- the whole number n
abbrev pub whole : ℤ → Rational
whole n = record { fraction = fraction.whole n; is_lowest = whole-IsLowest n }

-- num / den; for the denominator 0, which no fraction has, the number 0
abbrev pub ratio : ℤ → ℕ → Rational
ratio num zero = whole (pos 0)
ratio num (suc d) = record { fraction = fraction.lowest num (suc d); is_lowest = lowest-IsLowest num (suc d) (zero-lt-suc d) }

-- the number that a fraction stands for
abbrev pub number : Fraction → Rational
number f = ratio f.num f.den

abbrev pub plus : Rational → Rational → Rational
plus a b = record {
  fraction = fraction.sum a.fraction b.fraction;
  is_lowest = sum-IsLowest a.fraction b.fraction a.is_lowest.positive b.is_lowest.positive;
}

abbrev pub times : Rational → Rational → Rational
times a b = record {
  fraction = fraction.product a.fraction b.fraction;
  is_lowest = product-IsLowest a.fraction b.fraction a.is_lowest.positive b.is_lowest.positive;
}

abbrev pub opposite : Rational → Rational
opposite a = record { fraction = fraction.negated a.fraction; is_lowest = negated-IsLowest a.fraction a.is_lowest }

-- ---- signs

abbrev pub is_zero : Rational → Bool
is_zero a = int_eq a.fraction.num (pos 0)

abbrev pub is_positive : Rational → Bool
is_positive a = int_lt (pos 0) a.fraction.num

abbrev pub is_negative : Rational → Bool
is_negative a = int_lt a.fraction.num (pos 0)
