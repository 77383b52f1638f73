-- The laws of sums and products, each an equation of rational numbers.
use Rattle.std.proofs.Common.{◌≡◌, ℕ, zero, suc, ◌<◌, refl, sym, ap, ◌∙◌, subst, arith, ℤ, pos, ◌+ℤ◌, ◌*ℤ◌}
use Rattle.std.proofs.lemmas.Int.{ints}
use mathlib.Core.Path.{ap₂}
use Rattle.std.proofs.Props.{props}
use Rattle.spv_whole.specs.Fraction.{Fraction, IsLowest}
use Rattle.spv_whole.specs.Fraction as fraction
use Rattle.spv_whole.proofs.Arithmetic.{sum_comm, sum_assoc, product_comm, product_assoc, product-sum, sum-IsLowest, product-IsLowest}
use Rattle.spv_whole.proofs.Lowest.{lowest_is}
use Rattle.spv_whole.proofs.Units.{whole-IsLowest, sum-zero, sum-negated, product-one, product-zero}
use Rattle.spv_frac.specs.rational.Rational.{Rational, whole, ratio, number, plus, times, opposite}

lowest_prop : (f : Fraction) → IsProp (IsLowest f)
lowest_prop f = hlevel props

-- equal fractions make equal numbers
pub same : (a b : Rational) → a.fraction ≡ b.fraction → a ≡ b
same a b e = subst (λ (f : Fraction). (h : IsLowest f) → a ≡ record { fraction = f; is_lowest = h }) e (λ h. ap (λ (g : IsLowest a.fraction). record { fraction = a.fraction; is_lowest = g }) (lowest_prop a.fraction a.is_lowest h)) b.is_lowest

-- ---- sums

pub plus_comm : (a b : Rational) → plus a b ≡ plus b a
plus_comm a b = same (plus a b) (plus b a) (sum_comm a.fraction b.fraction)

pub plus_assoc : (a b c : Rational) → plus (plus a b) c ≡ plus a (plus b c)
plus_assoc a b c = same (plus (plus a b) c) (plus a (plus b c)) (sum_assoc a.fraction b.fraction c.fraction a.is_lowest.positive b.is_lowest.positive c.is_lowest.positive)

pub plus_zero : (a : Rational) → plus a (whole (pos 0)) ≡ a
plus_zero a = same (plus a (whole (pos 0))) a (sum-zero a.fraction a.is_lowest)

pub zero_plus : (a : Rational) → plus (whole (pos 0)) a ≡ a
zero_plus a = plus_comm (whole (pos 0)) a ∙ plus_zero a

pub plus_opposite : (a : Rational) → plus a (opposite a) ≡ whole (pos 0)
plus_opposite a = same (plus a (opposite a)) (whole (pos 0)) (sum-negated a.fraction a.is_lowest.positive)

-- the middle ones of four exchanged
pub plus_middle : (a b c d : Rational) → plus (plus a b) (plus c d) ≡ plus (plus a c) (plus b d)
plus_middle a b c d =
    plus_assoc a b (plus c d) ∙ ap (plus a) (sym (plus_assoc b c d) ∙ ap (λ x. plus x d) (plus_comm b c) ∙ plus_assoc c b d) ∙ sym (plus_assoc a c (plus b d))

-- ---- products

pub times_comm : (a b : Rational) → times a b ≡ times b a
times_comm a b = same (times a b) (times b a) (product_comm a.fraction b.fraction)

pub times_assoc : (a b c : Rational) → times (times a b) c ≡ times a (times b c)
times_assoc a b c = same (times (times a b) c) (times a (times b c)) (product_assoc a.fraction b.fraction c.fraction a.is_lowest.positive b.is_lowest.positive c.is_lowest.positive)

pub times_one : (a : Rational) → times a (whole (pos 1)) ≡ a
times_one a = same (times a (whole (pos 1))) a (product-one a.fraction a.is_lowest)

pub times_zero : (a : Rational) → times a (whole (pos 0)) ≡ whole (pos 0)
times_zero a = same (times a (whole (pos 0))) (whole (pos 0)) (product-zero a.fraction a.is_lowest.positive)

pub zero_times : (a : Rational) → times (whole (pos 0)) a ≡ whole (pos 0)
zero_times a = times_comm (whole (pos 0)) a ∙ times_zero a

pub times_plus : (a b c : Rational) → times a (plus b c) ≡ plus (times a b) (times a c)
times_plus a b c = same (times a (plus b c)) (plus (times a b) (times a c)) (product-sum a.fraction b.fraction c.fraction a.is_lowest.positive b.is_lowest.positive c.is_lowest.positive)

pub plus_times : (a b c : Rational) → times (plus a b) c ≡ plus (times a c) (times b c)
plus_times a b c = times_comm (plus a b) c ∙ times_plus c a b ∙ ap₂ plus (times_comm c a) (times_comm c b)

-- ---- whole numbers

one_product : (a b : ℤ) → a *ℤ pos 1 +ℤ b *ℤ pos 1 ≡ a +ℤ b
one_product a b = omega (arith, ints)

sum_of_whole : (a b : ℤ) → fraction.sum (fraction.whole a) (fraction.whole b) ≡ fraction.whole (a +ℤ b)
unfolding fraction.sum
sum_of_whole a b = ap (λ z. fraction.lowest z 1) (one_product a b) ∙ lowest_is (fraction.whole (a +ℤ b)) (whole-IsLowest (a +ℤ b))

product_of_whole : (a b : ℤ) → fraction.product (fraction.whole a) (fraction.whole b) ≡ fraction.whole (a *ℤ b)
unfolding fraction.product
product_of_whole a b = lowest_is (fraction.whole (a *ℤ b)) (whole-IsLowest (a *ℤ b))

pub whole_plus : (a b : ℤ) → plus (whole a) (whole b) ≡ whole (a +ℤ b)
whole_plus a b = same (plus (whole a) (whole b)) (whole (a +ℤ b)) (sum_of_whole a b)

pub whole_times : (a b : ℤ) → times (whole a) (whole b) ≡ whole (a *ℤ b)
whole_times a b = same (times (whole a) (whole b)) (whole (a *ℤ b)) (product_of_whole a b)

-- ---- the numbers of fractions

pub number_is : (f : Fraction) → IsLowest f → (number f).fraction ≡ f
number_is f h = by_den f.den refl h.positive
  where
    by_den : (d : ℕ) → f.den ≡ d → 0 < d → (ratio f.num d).fraction ≡ f
    by_den zero e positive = absurd (omega arith)
    by_den (suc d) e positive = ap (fraction.lowest f.num) (sym e) ∙ lowest_is f h

pub number_whole : (z : ℤ) → number (fraction.whole z) ≡ whole z
number_whole z = same (number (fraction.whole z)) (whole z) (number_is (fraction.whole z) (whole-IsLowest z))

pub number_sum : (a b : Fraction) → IsLowest a → IsLowest b → number (fraction.sum a b) ≡ plus (number a) (number b)
number_sum a b ha hb =
    same (number (fraction.sum a b)) (plus (number a) (number b))
    (number_is (fraction.sum a b) (sum-IsLowest a b ha.positive hb.positive) ∙ sym (ap₂ fraction.sum (number_is a ha) (number_is b hb)))

pub number_product : (a b : Fraction) → IsLowest a → IsLowest b → number (fraction.product a b) ≡ times (number a) (number b)
number_product a b ha hb =
    same (number (fraction.product a b)) (times (number a) (number b))
    (number_is (fraction.product a b) (product-IsLowest a b ha.positive hb.positive) ∙ sym (ap₂ fraction.product (number_is a ha) (number_is b hb)))
