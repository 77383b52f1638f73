-- The reciprocal, and whole numbers of 64 bits.
use Rattle.std.proofs.Common.{◌≡◌, ◌^◌, ◌<◌, true, false, sym, ◌∙◌, ap, subst, arith, ℤ, pos, ◌-ℤ◌, ◌<ℤ◌, ◌≤ℤ◌, to_z, of_z, FitsSigned}
use Rattle.std.specs.Prelude.{unsigned_abs, int_lt}
use Rattle.std.specs.Int.{w64, w128}
use Rattle.std.proofs.lemmas.Int.{ints, to_z-of_z}
use mathlib.Core.Path.{ap₂}
use Rattle.spv_whole.specs.Gcd.{gcd}
use Rattle.spv_whole.specs.Fraction.{Fraction}
use Rattle.spv_whole.proofs.Gcd.{gcd_comm}
use Rattle.spv_whole.proofs.Units.{whole-IsLowest}
use Rattle.spv_frac.specs.Range.{IsFrac}
use Rattle.spv_frac.proofs.Opened.{Opened, kept_as}

-- numerator and denominator change places
pub swapped : (f : Fraction) (x y : ℤ) → IsFrac f → unsigned_abs x ≡ f.den → unsigned_abs y ≡ unsigned_abs f.num → pos 0 <ℤ y → (pos 0 <ℤ y) × IsFrac (record { num = x; den = unsigned_abs y })
swapped f x y h ex ey positive = (
  positive,
  record {
    is_lowest = record {
      positive = omega (arith, ints);
      coprime = ap₂ gcd ex ey ∙ gcd_comm f.den (unsigned_abs f.num) ∙ h.is_lowest.coprime;
    };
    num_fits = let k = h.den_fits in omega arith;
    den_fits = let k = h.num_fits in omega arith;
  },
)

abs-minus : (z : ℤ) → unsigned_abs (pos 0 -ℤ z) ≡ unsigned_abs z
abs-minus z = omega (arith, ints)

minus_positive : (z : ℤ) → z <ℤ pos 0 → pos 0 <ℤ (pos 0 -ℤ z)
minus_positive z h = omega (arith, ints)

-- the negative of a number of the range, as the machine has it
minus_kept : (z w : ℤ) → z ≡ w → unsigned_abs w < 2 ^ 127 → to_z w128 (of_z w128 (pos 0 -ℤ z)) ≡ pos 0 -ℤ w
minus_kept z w e h = kept_as (pos 0 -ℤ z) (pos 0 -ℤ w) (ap (λ k. pos 0 -ℤ k) e) (let k = abs-minus w in omega arith)

pub swapped_negative : (f : Fraction) (num den : ℤ) → Opened f num den → to_z w128 (of_z w128 num) <ℤ pos 0 → (pos 0 <ℤ to_z w128 (of_z w128 (pos 0 -ℤ to_z w128 (of_z w128 num)))) × IsFrac (record { num = to_z w128 (of_z w128 (pos 0 -ℤ to_z w128 (of_z w128 den))); den = unsigned_abs (to_z w128 (of_z w128 (pos 0 -ℤ to_z w128 (of_z w128 num)))) })
swapped_negative f num den o negative =
    let ex = minus_kept (to_z w128 (of_z w128 den)) (pos f.den) o.den_kept o.is_frac.den_fits in
    let ey = minus_kept (to_z w128 (of_z w128 num)) f.num o.num_kept o.is_frac.num_fits in
    swapped f _ _ o.is_frac
    (ap unsigned_abs ex ∙ abs-minus (pos f.den))
    (ap unsigned_abs ey ∙ abs-minus f.num)
    (subst (λ (z : ℤ). pos 0 <ℤ z) (sym ey) (minus_positive f.num (subst (λ (z : ℤ). z <ℤ pos 0) o.num_kept negative)))

pub swapped_positive : (f : Fraction) (num den : ℤ) → Opened f num den → pos 0 <ℤ f.num → (pos 0 <ℤ to_z w128 (of_z w128 num)) × IsFrac (record { num = to_z w128 (of_z w128 den); den = unsigned_abs (to_z w128 (of_z w128 num)) })
swapped_positive f num den o positive =
    swapped f _ _ o.is_frac (ap unsigned_abs o.den_kept) (ap unsigned_abs o.num_kept) (subst (λ (z : ℤ). pos 0 <ℤ z) (sym o.num_kept) positive)

-- neither negative nor zero
pub positive_from : (z w : ℤ) → z ≡ w → pos 0 ≤ℤ z → 0 < unsigned_abs w → pos 0 <ℤ w
positive_from z w e h k = subst (λ (y : ℤ). pos 0 <ℤ y) e (let k' : 0 < unsigned_abs z = subst (λ (y : ℤ). 0 < unsigned_abs y) (sym e) k in omega (arith, ints))

pub whole_inside : (n r : ℤ) → FitsSigned w64 n → r ≡ to_z w64 (of_z w64 n) → IsFrac (record { num = to_z w128 (of_z w128 r); den = 1 })
whole_inside n r fits e =
    let below : unsigned_abs n < 2 ^ 127 = omega (arith, ints) in
    let num_is = kept_as r n (e ∙ to_z-of_z w64 n fits) below in
    subst (λ (z : ℤ). IsFrac (record { num = z; den = 1 })) (sym num_is)
    (record { is_lowest = whole-IsLowest n; num_fits = below; den_fits = omega arith })

pub negative_from : (z : ℤ) → int_lt z (pos 0) ≡ true → z <ℤ pos 0
negative_from z h = omega (arith, ints)

pub not_negative_from : (z : ℤ) → int_lt z (pos 0) ≡ false → pos 0 ≤ℤ z
not_negative_from z h = omega (arith, ints)
