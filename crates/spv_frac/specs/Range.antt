-- The range of numbers, and the operations that stay in it.
use Rattle.std.specs.Prelude.{ℕ, ◌*◌, ◌/◌, ◌^◌, ◌<◌, nat_lt, Bool, ◌&&◌, ℤ, pos, ◌+ℤ◌, ◌*ℤ◌, unsigned_abs}
use Rattle.spv_whole.specs.Gcd.{gcd}
use Rattle.spv_whole.specs.Fraction.{Fraction, IsLowest, product, negated, reciprocal}
use Rattle.spv_frac.specs.declared.frac.Op.{Op}
use Rattle.spv_frac.specs.declared.frac.Op.TheVariants.{Add, Sub, Mul, Div, Cmp}

-- z lies from -(2^127 - 1) to 2^127 - 1
abbrev pub fits : ℤ → Bool
fits z = nat_lt (unsigned_abs z) (2 ^ 127)

-- what each `Frac` keeps
pub record IsFrac (f : Fraction) : Type 0 where
  pub is_lowest : IsLowest f
  pub num_fits : unsigned_abs f.num < 2 ^ 127
  pub den_fits : f.den < 2 ^ 127

-- what a's denominator is multiplied by to give the least common one of a and b
abbrev pub factor : Fraction → Fraction → ℕ
factor a b = b.den / gcd a.den b.den

-- a's numerator over the least common denominator
abbrev pub left_num : Fraction → Fraction → ℤ
left_num a b = a.num *ℤ pos (factor a b)

-- b's numerator over it
abbrev pub right_num : Fraction → Fraction → ℤ
right_num a b = b.num *ℤ pos (a.den / gcd a.den b.den)

-- both numerators fit
abbrev pub order_fits : Fraction → Fraction → Bool
order_fits a b = fits (left_num a b) && fits (right_num a b)

-- they fit, and so do their sum and the least common denominator
abbrev pub sum_fits : Fraction → Fraction → Bool
sum_fits a b = order_fits a b && fits (left_num a b +ℤ right_num a b) && fits (pos (a.den * factor a b))

-- the product in lowest terms fits
abbrev pub product_fits : Fraction → Fraction → Bool
product_fits a b = fits (product a b).num && fits (pos (product a b).den)

-- all numbers of the operation on a and b fit
abbrev pub op_fits : Op → Fraction → Fraction → Bool
op_fits Add a b = sum_fits a b
op_fits Sub a b = sum_fits a (negated b)
op_fits Mul a b = product_fits a b
op_fits Div a b = product_fits a (reciprocal b)
op_fits Cmp a b = order_fits a b
