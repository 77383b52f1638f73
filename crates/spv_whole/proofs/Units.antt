-- Zero, one, negation and the reciprocal.
use Rattle.std.proofs.Common.{◌≡◌, ◌*◌, ◌/◌, ◌<◌, ℕ, zero, suc, min, refl, sym, ◌∙◌, ap, arith, ℤ, pos, negsuc, ◌+ℤ◌, ◌*ℤ◌, neg_ℤ}
use Rattle.std.proofs.Math.Nat.{mul-zero, mul-one, mul-pos, one-mul}
use Rattle.std.proofs.lemmas.Int.{ints}
use Rattle.std.specs.Prelude.{unsigned_abs, int_div}
use Rattle.std.specs.Int.{int_signum}
use mathlib.Core.Path.{ap₂}
use Rattle.spv_whole.specs.Gcd.{gcd}
use Rattle.spv_whole.specs.Fraction.{Fraction, IsLowest, lowest, sum, product, negated, whole, reciprocal}
use Rattle.spv_whole.proofs.Gcd.{gcd-one, gcd_comm}
use Rattle.spv_whole.proofs.Lowest.{lowest_same, lowest_is, int_div-neg}
use Rattle.spv_whole.proofs.Ring.{by_diff, by_diff2, diff, diff_same, pos_is, diff-+ℤ, diff-neg, diff-*ℤ, diff-*ℤ-pos}
use Rattle.std.proofs.Math.IntN.{neg_ℤ-neg_ℤ}

pub whole-IsLowest : (n : ℤ) → IsLowest (whole n)
whole-IsLowest n = record { positive = omega arith; coprime = gcd-one (unsigned_abs n) }

pub unsigned_abs-neg : (z : ℤ) → unsigned_abs (neg_ℤ z) ≡ unsigned_abs z
unsigned_abs-neg (pos zero) = refl
unsigned_abs-neg (pos (suc n)) = refl
unsigned_abs-neg (negsuc n) = refl

pub negated-IsLowest : (a : Fraction) → IsLowest a → IsLowest (negated a)
negated-IsLowest a h = record { positive = h.positive; coprime = ap (λ k. gcd k a.den) (unsigned_abs-neg a.num) ∙ h.coprime }

min_one : (n : ℕ) → min (suc n) 1 ≡ 1
min_one n = omega arith

unsigned_abs-signum : (z : ℤ) (d : ℕ) → 0 < unsigned_abs z → unsigned_abs (int_signum z *ℤ pos d) ≡ d
unsigned_abs-signum (pos zero) d h = absurd (omega arith)
unsigned_abs-signum (pos (suc n)) d h = ap (λ k. k * d) (min_one n) ∙ one-mul d
unsigned_abs-signum (negsuc n) d h = unsigned_abs-neg (pos (1 * d)) ∙ one-mul d

pub reciprocal-IsLowest : (a : Fraction) → IsLowest a → 0 < unsigned_abs a.num → IsLowest (reciprocal a)
reciprocal-IsLowest a h nonzero = record {
  positive = nonzero;
  coprime = ap (λ k. gcd k (unsigned_abs a.num)) (unsigned_abs-signum a.num a.den nonzero) ∙ gcd_comm a.den (unsigned_abs a.num) ∙ h.coprime;
}

adds_nothing : (z : ℤ) (d : ℕ) → z *ℤ pos 1 +ℤ pos 0 *ℤ pos d ≡ z
adds_nothing z d = omega (arith, ints)

pub sum-zero : (a : Fraction) → IsLowest a → sum a (whole (pos 0)) ≡ a
unfolding sum
sum-zero a h = ap₂ lowest (adds_nothing a.num a.den) (mul-one a.den) ∙ lowest_is a h

cancels : (d : ℕ) (z : ℤ) → (z *ℤ pos d +ℤ neg_ℤ z *ℤ pos d) *ℤ pos 1 ≡ pos 0 *ℤ pos (d * d)
cancels d z =
    by_diff (λ z. (z *ℤ pos d +ℤ neg_ℤ z *ℤ pos d) *ℤ pos 1 ≡ diff 0 0) (λ a a'. simp (diff-neg, diff-*ℤ-pos, diff-+ℤ) (diff_same _ _ _ _ (omega arith))) z ∙ sym (pos_is 0) ∙ ap pos (omega arith)

pub sum-negated : (a : Fraction) → 0 < a.den → sum a (negated a) ≡ whole (pos 0)
unfolding sum
sum-negated a h =
    lowest_same (a.num *ℤ pos a.den +ℤ neg_ℤ a.num *ℤ pos a.den) (pos 0) (a.den * a.den) 1 (mul-pos h h) (omega arith) (cancels a.den a.num) ∙ lowest_is (whole (pos 0)) (whole-IsLowest (pos 0))

times_one : (z : ℤ) → z *ℤ pos 1 ≡ z
times_one z = omega (arith, ints)

pub product-one : (a : Fraction) → IsLowest a → product a (whole (pos 1)) ≡ a
unfolding product
product-one a h = ap₂ lowest (times_one a.num) (mul-one a.den) ∙ lowest_is a h

two_negatives : (n k : ℕ) → negsuc n *ℤ neg_ℤ (pos k) ≡ pos (suc n * k)
two_negatives n zero = ap (λ k. neg_ℤ (pos k)) (mul-zero (suc n)) ∙ ap pos (sym (mul-zero (suc n)))
two_negatives n (suc k) = refl

turned_back : (z : ℤ) (d : ℕ) → z *ℤ (int_signum z *ℤ pos d) *ℤ pos 1 ≡ pos 1 *ℤ pos (d * unsigned_abs z)
turned_back (pos zero) d = omega (arith, ints)
turned_back (pos (suc n)) d = ap (λ k. pos (suc n * (k * d) * 1)) (min_one n) ∙ ap pos (omega arith)
turned_back (negsuc n) d = ap (λ z. z *ℤ pos 1) (two_negatives n (1 * d)) ∙ ap pos (omega arith)

pub product-reciprocal : (a : Fraction) → 0 < a.den → 0 < unsigned_abs a.num → product a (reciprocal a) ≡ whole (pos 1)
unfolding product
product-reciprocal a h nonzero =
    lowest_same (a.num *ℤ (int_signum a.num *ℤ pos a.den)) (pos 1) (a.den * unsigned_abs a.num) 1 (mul-pos h nonzero) (omega arith) (turned_back a.num a.den) ∙ lowest_is (whole (pos 1)) (whole-IsLowest (pos 1))

-- ---- signs

make : ℤ → ℕ → Fraction
make num den = record { num = num; den = den }

int_div-negated : (z : ℤ) (g : ℕ) → int_div (neg_ℤ z) (pos g) ≡ neg_ℤ (int_div z (pos g))
int_div-negated (pos n) g = int_div-neg n g
int_div-negated (negsuc n) g = sym (neg_ℤ-neg_ℤ (pos (suc n / g)))

pub lowest-negated : (n : ℤ) (d : ℕ) → lowest (neg_ℤ n) d ≡ negated (lowest n d)
unfolding lowest make
lowest-negated n d =
    let g = gcd (unsigned_abs n) d in
    let e = ap (λ k. gcd k d) (unsigned_abs-neg n) in
    ap₂ make (ap (λ k. int_div (neg_ℤ n) (pos k)) e ∙ int_div-negated n g) (ap (λ k. d / k) e)

neg-*ℤ : (x y : ℤ) → neg_ℤ x *ℤ y ≡ neg_ℤ (x *ℤ y)
neg-*ℤ = by_diff2 (λ x y. neg_ℤ x *ℤ y ≡ neg_ℤ (x *ℤ y)) (λ a a' b b'. simp (diff-neg, diff-*ℤ) (diff_same _ _ _ _ (omega arith)))

neg-sum : (p q : ℕ) (x y : ℤ) → neg_ℤ x *ℤ pos p +ℤ neg_ℤ y *ℤ pos q ≡ neg_ℤ (x *ℤ pos p +ℤ y *ℤ pos q)
neg-sum p q = by_diff2 (λ x y. neg_ℤ x *ℤ pos p +ℤ neg_ℤ y *ℤ pos q ≡ neg_ℤ (x *ℤ pos p +ℤ y *ℤ pos q)) (λ a a' b b'. simp (diff-neg, diff-*ℤ-pos, diff-+ℤ) (diff_same _ _ _ _ (omega arith)))

pub product-negated : (a b : Fraction) → product (negated a) b ≡ negated (product a b)
unfolding product
product-negated a b = ap (λ z. lowest z (a.den * b.den)) (neg-*ℤ a.num b.num) ∙ lowest-negated (a.num *ℤ b.num) (a.den * b.den)

pub sum_of_negated : (a b : Fraction) → sum (negated a) (negated b) ≡ negated (sum a b)
unfolding sum
sum_of_negated a b =
    ap (λ z. lowest z (a.den * b.den)) (neg-sum b.den a.den a.num b.num) ∙ lowest-negated (a.num *ℤ pos b.den +ℤ b.num *ℤ pos a.den) (a.den * b.den)

pub negated-negated : (a : Fraction) → negated (negated a) ≡ a
unfolding make
negated-negated a = ap (λ z. make z a.den) (neg_ℤ-neg_ℤ a.num)

times_nothing : (z : ℤ) (d : ℕ) → z *ℤ pos 0 *ℤ pos 1 ≡ pos 0 *ℤ pos d
times_nothing z d = omega (arith, ints)

pub product-zero : (a : Fraction) → 0 < a.den → product a (whole (pos 0)) ≡ whole (pos 0)
unfolding product
product-zero a h =
    lowest_same (a.num *ℤ pos 0) (pos 0) (a.den * 1) 1 (mul-pos h (omega arith)) (omega arith) (times_nothing a.num (a.den * 1)) ∙ lowest_is (whole (pos 0)) (whole-IsLowest (pos 0))
