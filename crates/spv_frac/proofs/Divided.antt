-- A fraction brought to lowest terms, on 128 bits.
use Rattle.std.proofs.Common.{◌≡◌, ◌/◌, ◌^◌, ◌<◌, ◌≤◌, ℕ, sym, ◌∙◌, ap, subst, arith, ℤ, pos, ◌<ℤ◌, to_z, of_z, FitsSigned}
use Rattle.std.proofs.Math.Nat.{div-le_self, le_of_dvd}
use Rattle.std.specs.Prelude.{unsigned_abs, int_div}
use Rattle.std.specs.Int.{w128}
use Rattle.std.proofs.lemmas.Int.{ints, to_z_pos, fits_signed_from_abs}
use mathlib.Core.Path.{ap₂}
use Rattle.spv_whole.specs.Gcd.{gcd}
use Rattle.spv_whole.specs.Fraction.{Fraction, lowest}
use Rattle.spv_whole.proofs.Gcd.{gcd-is, gcd_positive}
use Rattle.spv_whole.proofs.Lowest.{lowest_is, lowest-IsLowest, unsigned_abs-int_div}
use Rattle.spv_whole.proofs.Ring.{pos-unsigned_abs}
use Rattle.spv_frac.specs.Range.{IsFrac}
use Rattle.spv_frac.proofs.Opened.{kept}

pub positive_abs : (z : ℤ) → pos 0 <ℤ z → 0 < unsigned_abs z
positive_abs z h = omega (arith, ints)

-- the divisor is from 1 to the denominator
pub divisor_positive : (n d g : ℕ) → 0 < d → g ≡ gcd n d → 0 < g
divisor_positive n d g h e = subst (λ (k : ℕ). 0 < k) (sym e) (gcd_positive n d h)

pub divisor_bound : (n d g : ℕ) → 0 < d → g ≡ gcd n d → g ≤ d
divisor_bound n d g h e = subst (λ (k : ℕ). k ≤ d) (sym e) (le_of_dvd h (gcd-is n d).1)

pub fits_pos : (n : ℕ) → n < 2 ^ 127 → FitsSigned w128 (pos n)
fits_pos n h = fits_signed_from_abs w128 (pos n) h

pub quotient_below : (z : ℤ) (g : ℕ) → unsigned_abs z < 2 ^ 127 → unsigned_abs (int_div z (pos g)) < 2 ^ 127
quotient_below z g h = let e = unsigned_abs-int_div z g in let k = div-le_self (unsigned_abs z) g in omega arith

-- what the machine's division gives
pub divided : (z : ℤ) (g : ℕ) → unsigned_abs z < 2 ^ 127 → g < 2 ^ 127 → to_z w128 (of_z w128 (int_div (to_z w128 (of_z w128 z)) (to_z w128 g))) ≡ int_div z (pos g)
divided z g hz hg =
    ap₂ (λ x y. to_z w128 (of_z w128 (int_div x y))) (kept z hz) (to_z_pos w128 g hg) ∙ kept (int_div z (pos g)) (quotient_below z g hz)

pub lowest-IsFrac : (n : ℤ) (d : ℕ) → 0 < d → unsigned_abs n < 2 ^ 127 → d < 2 ^ 127 → IsFrac (lowest n d)
unfolding lowest
lowest-IsFrac n d positive hn hd = record {
  is_lowest = lowest-IsLowest n d positive;
  num_fits = quotient_below n (gcd (unsigned_abs n) d) hn;
  den_fits = let k = div-le_self d (gcd (unsigned_abs n) d) in omega arith;
}

make : ℤ → ℕ → Fraction
make num den = record { num = num; den = den }

-- x / y are the quotients of n / d by the divisor g
pub lowest_view : (n d x y : ℤ) (g : ℕ) → g ≡ gcd (unsigned_abs n) (unsigned_abs d) → x ≡ int_div n (pos g) → y ≡ int_div d (pos g) → record { num = x; den = unsigned_abs y } ≡ lowest n (unsigned_abs d)
unfolding lowest make
lowest_view n d x y g e ex ey =
    ap₂ make (ex ∙ ap (λ k. int_div n (pos k)) e) (ap unsigned_abs ey ∙ unsigned_abs-int_div d g ∙ ap (λ k. unsigned_abs d / k) e)

positive_quotient : (d : ℕ) (g : ℕ) → 0 < d / g → pos 0 <ℤ int_div (pos d) (pos g)
positive_quotient d g h = omega (arith, ints)

pub den_positive : (n d y : ℤ) (g : ℕ) → pos 0 <ℤ d → g ≡ gcd (unsigned_abs n) (unsigned_abs d) → y ≡ int_div d (pos g) → pos 0 <ℤ y
unfolding lowest
den_positive n d y g h e ey =
    subst (λ (z : ℤ). pos 0 <ℤ z) (sym (ey ∙ ap (λ z. int_div z (pos g)) (sym (pos-unsigned_abs d h))))
    (positive_quotient (unsigned_abs d) g (subst (λ (k : ℕ). 0 < unsigned_abs d / k) (sym e) (lowest-IsLowest n (unsigned_abs d) (positive_abs d h)).positive))

pub lowest_inside : (n d x y : ℤ) (g : ℕ) → unsigned_abs n < 2 ^ 127 → unsigned_abs d < 2 ^ 127 → pos 0 <ℤ d → g ≡ gcd (unsigned_abs n) (unsigned_abs d) → x ≡ int_div n (pos g) → y ≡ int_div d (pos g) → (pos 0 <ℤ y) × IsFrac (record { num = x; den = unsigned_abs y })
lowest_inside n d x y g hn hd positive e ex ey = (
  den_positive n d y g positive e ey,
  subst IsFrac (sym (lowest_view n d x y g e ex ey)) (lowest-IsFrac n (unsigned_abs d) (positive_abs d positive) hn hd),
)

-- a positive number of 128 bits
pub positive_below : (z : ℤ) → pos 0 <ℤ z → FitsSigned w128 z → unsigned_abs z < 2 ^ 127
positive_below z h fits = omega (arith, ints)

-- the divisor that the code finds, and that it fits
pub record Divisor (n d : ℤ) (g : ℕ) : Type 0 where
  pub g_is : g ≡ gcd (unsigned_abs n) (unsigned_abs d)
  pub positive : 0 < g
  pub below : g < 2 ^ 127
  pub num_is : to_z w128 (of_z w128 (int_div (to_z w128 (of_z w128 n)) (to_z w128 g))) ≡ int_div n (pos g)
  pub den_is : to_z w128 (of_z w128 (int_div (to_z w128 (of_z w128 d)) (to_z w128 g))) ≡ int_div d (pos g)

pub divisor : (n d : ℤ) (p q g : ℕ) → unsigned_abs n < 2 ^ 127 → FitsSigned w128 d → pos 0 <ℤ d → p ≡ unsigned_abs (to_z w128 (of_z w128 n)) → q ≡ unsigned_abs (to_z w128 (of_z w128 d)) → g ≡ gcd p q → Divisor n d g
divisor n d p q g hn fits positive ep eq eg =
    let hd = positive_below d positive fits in
    let g_is = eg ∙ ap₂ gcd (ep ∙ ap unsigned_abs (kept n hn)) (eq ∙ ap unsigned_abs (kept d hd)) in
    let d_positive = positive_abs d positive in
    let bound = divisor_bound (unsigned_abs n) (unsigned_abs d) g d_positive g_is in
    let below : g < 2 ^ 127 = omega arith in
    record {
      g_is = g_is;
      positive = divisor_positive (unsigned_abs n) (unsigned_abs d) g d_positive g_is;
      below = below;
      num_is = divided n g hn below;
      den_is = divided d g hd below;
    }

-- the machine's division is of numbers that fit
pub can_divide : (z : ℤ) (g : ℕ) → unsigned_abs z < 2 ^ 127 → 0 < g → g < 2 ^ 127 → FitsSigned w128 (int_div (to_z w128 (of_z w128 z)) (to_z w128 g))
can_divide z g hz positive hg =
    subst (λ (q : ℤ). FitsSigned w128 q) (sym (ap₂ int_div (kept z hz) (to_z_pos w128 g hg))) (fits_signed_from_abs w128 (int_div z (pos g)) (quotient_below z g hz))

-- where the divisor is 1 the numbers stay
pub stays_view : (n d : ℤ) → unsigned_abs n < 2 ^ 127 → unsigned_abs d < 2 ^ 127 → gcd (unsigned_abs n) (unsigned_abs d) ≡ 1 → pos 0 <ℤ d → record { num = to_z w128 (of_z w128 n); den = unsigned_abs (to_z w128 (of_z w128 d)) } ≡ lowest n (unsigned_abs d)
unfolding make
stays_view n d hn hd coprime positive =
    ap₂ make (kept n hn) (ap unsigned_abs (kept d hd)) ∙ sym (lowest_is (make n (unsigned_abs d)) (record { positive = positive_abs d positive; coprime = coprime }))
