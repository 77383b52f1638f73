-- Rational numbers as rows and bounds take them: differences, quotients, their order, and sums over columns.
use Rattle.std.specs.Prelude.{ℕ, zero, suc, Bool, pos, negsuc, ◌*ℤ◌, if◌then◌else◌}
use Rattle.std.specs.Int.RustNames.{int_lt}
use Rattle.spv_whole.specs.Fraction.{reciprocal}
use Rattle.spv_frac.specs.rational.Rational.{Rational, whole, number, plus, times, opposite}

abbrev pub nothing : Rational
nothing = whole (pos 0)

abbrev pub one : Rational
one = whole (pos 1)

abbrev pub minus_one : Rational
minus_one = whole (negsuc 0)

abbrev pub minus : Rational → Rational → Rational
minus a b = plus a (opposite b)

-- 1 / a, and 0 for 0
abbrev pub inverse : Rational → Rational
inverse a = number (reciprocal a.fraction)

abbrev pub divided : Rational → Rational → Rational
divided a b = times a (inverse b)

-- a is less than b, after multiplying out
abbrev pub is_less : Rational → Rational → Bool
is_less a b = int_lt (a.fraction.num *ℤ pos b.fraction.den) (b.fraction.num *ℤ pos a.fraction.den)

-- the sum over the columns below n
abbrev pub sum_to : ℕ → (ℕ → Rational) → Rational
sum_to zero f = nothing
sum_to (suc n) f = plus (sum_to n f) (f n)

-- how many of the columns below n pass a test
abbrev pub count_to : ℕ → (ℕ → Bool) → ℕ
count_to zero test = 0
count_to (suc n) test = if test n then suc (count_to n test) else count_to n test
