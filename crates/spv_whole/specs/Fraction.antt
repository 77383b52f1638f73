-- Fractions of whole numbers without limit.
use Rattle.std.specs.Prelude.{◌≡◌, ℕ, ◌*◌, ◌/◌, ◌<◌, ℤ, pos, ◌+ℤ◌, ◌*ℤ◌, neg_ℤ, ◌<ℤ◌, unsigned_abs, int_div}
use Rattle.std.specs.Int.{int_signum}
use Rattle.std.specs.Ordering.{int_cmp}
use Rattle.std.specs.declared.cmp.Ordering.{Ordering}
use Rattle.spv_whole.specs.Gcd.{gcd}

-- a whole number over a natural one, the numerator and the denominator
pub record Fraction : Type 0 where
  pub num : ℤ
  pub den : ℕ

-- the denominator is at least 1, and nothing above 1 divides both numbers
pub record IsLowest (f : Fraction) : Type 0 where
  pub positive : 0 < f.den
  pub coprime : gcd (unsigned_abs f.num) f.den ≡ 1

-- num / den in lowest terms
unfoldable pub lowest : ℤ → ℕ → Fraction
lowest num den = let g = gcd (unsigned_abs num) den in record { num = int_div num (pos g); den = den / g }

-- the whole number n
abbrev pub whole : ℤ → Fraction
whole n = record { num = n; den = 1 }

abbrev pub negated : Fraction → Fraction
negated a = record { num = neg_ℤ a.num; den = a.den }

unfoldable pub sum : Fraction → Fraction → Fraction
sum a b = lowest (a.num *ℤ pos b.den +ℤ b.num *ℤ pos a.den) (a.den * b.den)

unfoldable pub product : Fraction → Fraction → Fraction
product a b = lowest (a.num *ℤ b.num) (a.den * b.den)

-- den / num, with the sign of num above
abbrev pub reciprocal : Fraction → Fraction
reciprocal a = record { num = int_signum a.num *ℤ pos a.den; den = unsigned_abs a.num }

-- a is less than b, after multiplying out
abbrev pub IsLess : Fraction → Fraction → Type 0
IsLess a b = (a.num *ℤ pos b.den) <ℤ (b.num *ℤ pos a.den)

-- how a compares with b, after multiplying out
abbrev pub order : Fraction → Fraction → Ordering
order a b = int_cmp (a.num *ℤ pos b.den) (b.num *ℤ pos a.den)
