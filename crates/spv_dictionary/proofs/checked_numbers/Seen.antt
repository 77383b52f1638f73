-- The fractions that operations answer, as rational numbers.
use Rattle.std.proofs.Common.{◌≡◌, ℕ, ◌<◌, ◌^◌, nat_lt, true, false, sym, ap, ◌∙◌, arith, ℤ, pos}
use Rattle.std.specs.Prelude.{unsigned_abs}
use Rattle.std.specs.Ordering.{int_eq}
use Rattle.std.proofs.lemmas.Int.{ints}
use Rattle.std.proofs.lemmas.Bool.Decides.{nat_tests}
use mathlib.Core.Path.{ap₂}
use Rattle.spv_whole.specs.Fraction.{Fraction}
use Rattle.spv_whole.specs.Fraction as fraction
use Rattle.spv_whole.proofs.Units.{whole-IsLowest, reciprocal-IsLowest}
use Rattle.spv_frac.specs.Range.{fits, IsFrac}
use Rattle.spv_frac.specs.rational.Rational.{Rational, number, plus, times, opposite, is_zero}
use Rattle.spv_frac.proofs.rational.Field.{same, number_is}
use Rattle.spv_tableau_rules.specs.tableaux.Numbers.{minus, divided}

seen : (f : Fraction) (r : Rational) → f ≡ r.fraction → number f ≡ r
seen f r e = ap number e ∙ same (number r.fraction) r (number_is r.fraction r.is_lowest)

pub opposite_seen : (a : Rational) (x f : Fraction) → x ≡ a.fraction → f ≡ fraction.negated x → number f ≡ opposite a
opposite_seen a x f ex e = seen f (opposite a) (e ∙ ap fraction.negated ex)

pub sum_seen : (a b : Rational) (x y f : Fraction) → x ≡ a.fraction → y ≡ b.fraction → f ≡ fraction.sum x y → number f ≡ plus a b
sum_seen a b x y f ex ey e = seen f (plus a b) (e ∙ ap₂ fraction.sum ex ey)

pub difference_seen : (a b : Rational) (x y f : Fraction) → x ≡ a.fraction → y ≡ b.fraction → f ≡ fraction.sum x (fraction.negated y) → number f ≡ minus a b
difference_seen a b x y f ex ey e = seen f (minus a b) (e ∙ ap₂ fraction.sum ex (ap fraction.negated ey))

pub product_seen : (a b : Rational) (x y f : Fraction) → x ≡ a.fraction → y ≡ b.fraction → f ≡ fraction.product x y → number f ≡ times a b
product_seen a b x y f ex ey e = seen f (times a b) (e ∙ ap₂ fraction.product ex ey)

pub nonzero_num : (z : ℤ) → int_eq z (pos 0) ≡ false → 0 < unsigned_abs z
nonzero_num z h = grind (arith, ints)

pub quotient_seen : (a b : Rational) (x y f : Fraction) → is_zero b ≡ false → x ≡ a.fraction → y ≡ b.fraction → f ≡ fraction.product x (fraction.reciprocal y)
    → number f ≡ divided a b
quotient_seen a b x y f h ex ey e =
    seen f (divided a b)
    (e ∙ ap₂ fraction.product ex (ap fraction.reciprocal ey) ∙ sym (ap (fraction.product a.fraction) (number_is (fraction.reciprocal b.fraction) (reciprocal-IsLowest b.fraction b.is_lowest (nonzero_num b.fraction.num h)))))

pub whole-IsFrac : (n : ℤ) → fits n ≡ true → IsFrac (fraction.whole n)
whole-IsFrac n h = record {
  is_lowest = whole-IsLowest n;
  num_fits = below (unsigned_abs n) (2 ^ 127) h;
  den_fits = omega arith;
}
  where
    below : (n m : ℕ) → nat_lt n m ≡ true → n < m
    below n m e = grind (arith, nat_tests)
