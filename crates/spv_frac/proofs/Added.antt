-- The numbers of a sum.
use Rattle.std.proofs.Common.{◌≡◌, ◌*◌, ◌^◌, ◌<◌, ℕ, sym, subst, arith, IsTrue, ℤ, pos, ◌+ℤ◌, ◌*ℤ◌, ◌<ℤ◌, to_z, of_z}
use Rattle.std.proofs.Math.Nat.{div-le_self, mul-pos}
use Rattle.std.proofs.lemmas.Int.{ints}
use Rattle.std.specs.Int.{w128}
use mathlib.Core.Path.{ap₂}
use Rattle.spv_whole.specs.Gcd.{gcd}
use Rattle.spv_whole.specs.Fraction.{Fraction, lowest, sum}
use Rattle.spv_whole.proofs.Lowest.{lowest-IsLowest}
use Rattle.spv_whole.proofs.Crosswise.{sum-over}
use Rattle.spv_frac.specs.Range.{fits, factor, left_num, right_num, order_fits, IsFrac}
use Rattle.spv_frac.proofs.Answered.{first_of, second_of}
use Rattle.spv_frac.proofs.Opened.{Opened, kept_as, below_from_fits, lowest-pos_den}

-- the numbers that the code adds and multiplies for a + b
pub record Added (a b : Fraction) (left right den times : ℤ) : Type 0 where
  pub num_is : to_z w128 (of_z w128 left) +ℤ to_z w128 (of_z w128 right) ≡ left_num a b +ℤ right_num a b
  pub den_is : to_z w128 (of_z w128 den) *ℤ to_z w128 (of_z w128 times) ≡ pos (a.den * factor a b)

pub added : (a b : Fraction) (left right num den times : ℤ) → Opened a num den → IsFrac b → IsTrue (order_fits a b) → left ≡ left_num a b → right ≡ right_num a b → times ≡ pos (factor a b) → Added a b left right den times
added a b left right num den times x y fit el er et = record {
  num_is = ap₂ (λ m n. m +ℤ n)
      (kept_as left (left_num a b) el (below_from_fits (left_num a b) (first_of (fits (left_num a b)) (fits (right_num a b)) fit)))
      (kept_as right (right_num a b) er (below_from_fits (right_num a b) (second_of (fits (left_num a b)) (fits (right_num a b)) fit)));
  den_is = ap₂ (λ m n. m *ℤ n) x.den_kept (kept_as times (pos (factor a b)) et (factor_below b y));
}
  where
    factor_below : (b : Fraction) → IsFrac b → factor a b < 2 ^ 127
    factor_below b y = let k = div-le_self b.den (gcd a.den b.den) in let h = y.den_fits in omega arith

factor_positive : (a b : Fraction) → 0 < b.den → 0 < factor a b
factor_positive a b h = subst (λ (k : ℕ). 0 < k) (lowest-pos_den a.den b.den) (lowest-IsLowest (pos a.den) b.den h).positive

pub positive_pos : (n : ℕ) → 0 < n → pos 0 <ℤ pos n
positive_pos n h = omega (arith, ints)

-- the least common denominator is positive
pub den-positive : (a b : Fraction) → IsFrac a → IsFrac b → pos 0 <ℤ pos (a.den * factor a b)
den-positive a b x y = positive_pos (a.den * factor a b) (mul-pos x.is_lowest.positive (factor_positive a b y.is_lowest.positive))

-- and gives the sum
pub sum_of : (a b : Fraction) → IsFrac b → lowest (left_num a b +ℤ right_num a b) (a.den * factor a b) ≡ sum a b
sum_of a b y = sym (sum-over a b y.is_lowest.positive)
