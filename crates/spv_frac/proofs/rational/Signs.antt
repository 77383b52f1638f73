-- Signs of sums and products.
use Rattle.std.proofs.Common.{◌≡◌, ℕ, ◌*◌, ◌<◌, Bool, true, false, refl, sym, ◌∙◌, subst, arith, ℤ, pos, negsuc, ◌+ℤ◌, ◌*ℤ◌, ◌<ℤ◌}
use Rattle.std.proofs.Math.Nat.{mul-pos}
use Rattle.std.proofs.Math.IntN.{*ℤ_comm}
use Rattle.std.proofs.lemmas.Int.{ints}
use Rattle.std.proofs.lemmas.Bool.{false≢true}
use Rattle.std.specs.Int.RustNames.{int_lt}
use Rattle.std.specs.Ordering.{int_eq}
use Rattle.spv_whole.specs.Fraction.{lowest, sum, product}
use Rattle.spv_whole.proofs.Lowest.{same_value, lowest-value}
use Rattle.spv_whole.proofs.Ring.{<ℤ-scaled, <ℤ-unscaled}
use Rattle.spv_whole.proofs.Units.{whole-IsLowest}
use Rattle.spv_frac.specs.rational.Rational.{Rational, whole, plus, times, is_zero, is_positive, is_negative}
use Rattle.spv_frac.proofs.rational.Field.{same}

less_of : (a b : ℤ) → int_lt a b ≡ true → a <ℤ b
less_of a b h = omega (arith, ints)

true_of : (a b : ℤ) → a <ℤ b → int_lt a b ≡ true
true_of a b h = grind (arith, ints)

-- a whole number is not positive
pub record NotPositive (z : ℤ) : Type 0 where
  pub is : int_lt (pos 0) z ≡ false

by_absurd : (z : ℤ) → ((pos 0 <ℤ z) → ⊥) → NotPositive z
by_absurd z h = record { is = by_case (int_lt (pos 0) z) refl }
  where
    by_case : (b : Bool) → int_lt (pos 0) z ≡ b → b ≡ false
    by_case true e = absurd (h (less_of (pos 0) z e))
    by_case false e = refl

pub not_less : (z : ℤ) → NotPositive z → (pos 0 <ℤ z) → ⊥
not_less z n h = false≢true (sym n.is ∙ true_of (pos 0) z h)

zero_scaled : (k : ℕ) → pos 0 *ℤ pos k ≡ pos 0
zero_scaled k = omega (arith, ints)

scaled : (z : ℤ) (k : ℕ) → NotPositive z → NotPositive (z *ℤ pos k)
scaled z k n = by_absurd (z *ℤ pos k) (λ h. not_less z n (<ℤ-unscaled (pos 0) z k (subst (λ (y : ℤ). y <ℤ (z *ℤ pos k)) (sym (zero_scaled k)) h)))

unscaled : (z : ℤ) (k : ℕ) → 0 < k → NotPositive (z *ℤ pos k) → NotPositive z
unscaled z k positive n = by_absurd z (λ h. not_less (z *ℤ pos k) n (subst (λ (y : ℤ). y <ℤ (z *ℤ pos k)) (zero_scaled k) (<ℤ-scaled (pos 0) z k positive h)))

lowest_sign : (n : ℤ) (d : ℕ) → 0 < d → NotPositive n → NotPositive (lowest n d).num
lowest_sign n d positive h =
    unscaled (lowest n d).num d positive (subst NotPositive (sym (lowest-value n d)) (scaled n (lowest n d).den h))

both : (x y : ℤ) → NotPositive x → NotPositive y → NotPositive (x +ℤ y)
both x y h k = by_absurd (x +ℤ y) (λ g. clash x y (not_less x h) (not_less y k) g)
  where
    clash : (x y : ℤ) → ((pos 0 <ℤ x) → ⊥) → ((pos 0 <ℤ y) → ⊥) → (pos 0 <ℤ (x +ℤ y)) → ⊥
    clash x y h k g = grind (arith, ints)

pub not_positive_plus : (a b : Rational) → is_positive a ≡ false → is_positive b ≡ false → is_positive (plus a b) ≡ false
unfolding sum
not_positive_plus a b h k =
    let x = a.fraction in
    let y = b.fraction in
    (lowest_sign (x.num *ℤ pos y.den +ℤ y.num *ℤ pos x.den) (x.den * y.den) (mul-pos a.is_lowest.positive b.is_lowest.positive)
    (both (x.num *ℤ pos y.den) (y.num *ℤ pos x.den) (scaled x.num y.den (record { is = h })) (scaled y.num x.den (record { is = k })))).is

signed_product : (x y : ℤ) → int_lt x (pos 0) ≡ false → NotPositive y → NotPositive (x *ℤ y)
signed_product (pos n) y h k = subst NotPositive (*ℤ_comm y (pos n)) (scaled y n k)
signed_product (negsuc n) y h k = absurd (no_negative n h)
  where
    no_negative : (n : ℕ) → int_lt (negsuc n) (pos 0) ≡ false → ⊥
    no_negative n h = omega (arith, ints)

pub not_positive_times : (a b : Rational) → is_negative a ≡ false → is_positive b ≡ false → is_positive (times a b) ≡ false
unfolding product
not_positive_times a b h k =
    let x = a.fraction in
    let y = b.fraction in
    (lowest_sign (x.num *ℤ y.num) (x.den * y.den) (mul-pos a.is_lowest.positive b.is_lowest.positive) (signed_product x.num y.num h (record { is = k }))).is

pub zero_is : (a : Rational) → is_zero a ≡ true → a ≡ whole (pos 0)
zero_is a h = same a (whole (pos 0)) (same_value a.fraction (whole (pos 0)).fraction a.is_lowest (whole-IsLowest (pos 0)) (crosswise a.fraction.num a.fraction.den (num_zero a.fraction.num h)))
  where
    num_zero : (z : ℤ) → int_eq z (pos 0) ≡ true → z ≡ pos 0
    num_zero z h = grind (arith, ints)

    crosswise : (z : ℤ) (d : ℕ) → z ≡ pos 0 → z *ℤ pos 1 ≡ pos 0 *ℤ pos d
    crosswise z d e = omega (arith, ints, e)
