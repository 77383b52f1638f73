-- Lowest terms: one form for each value.
use Rattle.std.proofs.Common.{◌≡◌, ◌*◌, ◌/◌, ◌<◌, ℕ, zero, suc, refl, sym, ◌∙◌, ap, subst, arith, ℤ, pos, negsuc, ◌*ℤ◌, neg_ℤ}
use Rattle.std.proofs.Math.Nat.{zero-mul, zero-div, div-one, mul_comm, mul-div-mul_right, mul-div_cancel', div-mul_cancel}
use Rattle.std.proofs.lemmas.Int.{unsigned_abs-mul}
use Rattle.std.specs.Int.{◌∣◌}
use Rattle.std.specs.Prelude.{unsigned_abs, int_div}
use mathlib.Core.Path.{ap₂}
use Rattle.spv_whole.specs.Gcd.{gcd}
use Rattle.spv_whole.specs.Fraction.{Fraction, IsLowest, lowest}
use Rattle.spv_whole.proofs.Gcd.{gcd-is, gcd-mul, coprime_quotients}
use Rattle.spv_whole.proofs.Ring.{*ℤ_assoc}

-- ---- division of a whole number by a natural one

pub int_div-neg : (n d : ℕ) → int_div (neg_ℤ (pos n)) (pos d) ≡ neg_ℤ (pos (n / d))
int_div-neg zero d = ap pos (zero-div d) ∙ ap (λ n. neg_ℤ (pos n)) (sym (zero-div d))
int_div-neg (suc n) d = refl

pub int_div-scaled : (z : ℤ) (d g : ℕ) → 0 < g → int_div (z *ℤ pos g) (pos (d * g)) ≡ int_div z (pos d)
int_div-scaled (pos n) d g positive = ap pos (mul-div-mul_right n d positive)
int_div-scaled (negsuc n) d g positive = int_div-neg (suc n * g) (d * g) ∙ ap (λ n. neg_ℤ (pos n)) (mul-div-mul_right (suc n) d positive)

int_div-one : (z : ℤ) → int_div z (pos 1) ≡ z
int_div-one (pos n) = ap pos (div-one n)
int_div-one (negsuc n) = ap (λ n. neg_ℤ (pos n)) (div-one (suc n))

neg-*ℤ-pos : (n g : ℕ) → neg_ℤ (pos n) *ℤ pos g ≡ neg_ℤ (pos (n * g))
neg-*ℤ-pos zero g = ap pos (zero-mul g) ∙ ap (λ n. neg_ℤ (pos n)) (sym (zero-mul g))
neg-*ℤ-pos (suc n) g = refl

pub int_div-exact : (z : ℤ) (g : ℕ) → g ∣ unsigned_abs z → int_div z (pos g) *ℤ pos g ≡ z
int_div-exact (pos n) g h = ap pos (div-mul_cancel g h)
int_div-exact (negsuc n) g h = neg-*ℤ-pos (suc n / g) g ∙ ap (λ n. neg_ℤ (pos n)) (div-mul_cancel g h)

unsigned_abs-neg : (n : ℕ) → unsigned_abs (neg_ℤ (pos n)) ≡ n
unsigned_abs-neg zero = refl
unsigned_abs-neg (suc n) = refl

pub unsigned_abs-int_div : (z : ℤ) (g : ℕ) → unsigned_abs (int_div z (pos g)) ≡ unsigned_abs z / g
unsigned_abs-int_div (pos n) g = refl
unsigned_abs-int_div (negsuc n) g = unsigned_abs-neg (suc n / g)

-- ---- lowest terms

make : ℤ → ℕ → Fraction
make num den = record { num = num; den = den }

gcd-scaled : (z : ℤ) (d g : ℕ) → 0 < g → gcd (unsigned_abs (z *ℤ pos g)) (d * g) ≡ gcd (unsigned_abs z) d * g
gcd-scaled z d g positive =
    ap₂ gcd (unsigned_abs-mul z (pos g) ∙ mul_comm (unsigned_abs z) g) (mul_comm d g) ∙ gcd-mul g (unsigned_abs z) d positive ∙ mul_comm g (gcd (unsigned_abs z) d)

-- a common factor changes nothing
pub lowest-scaled : (z : ℤ) (d g : ℕ) → 0 < g → lowest (z *ℤ pos g) (d * g) ≡ lowest z d
unfolding lowest make
lowest-scaled z d g positive =
    let h = gcd (unsigned_abs z) d in
    let e = gcd-scaled z d g positive in
    ap₂ make
    (ap (λ k. int_div (z *ℤ pos g) (pos k)) e ∙ int_div-scaled z h g positive)
    (ap (λ k. (d * g) / k) e ∙ mul-div-mul_right d h positive)

-- equal after multiplying out is equal in lowest terms
pub lowest_same : (n m : ℤ) (d e : ℕ) → 0 < d → 0 < e → n *ℤ pos e ≡ m *ℤ pos d → lowest n d ≡ lowest m e
lowest_same n m d e hd he same =
    sym (lowest-scaled n d e he) ∙ ap₂ lowest same (mul_comm d e) ∙ lowest-scaled m e d hd

-- lowest terms stay
pub lowest_is : (a : Fraction) → IsLowest a → lowest a.num a.den ≡ a
unfolding lowest make
lowest_is a h =
    ap₂ make
    (ap (λ k. int_div a.num (pos k)) h.coprime ∙ int_div-one a.num)
    (ap (λ k. a.den / k) h.coprime ∙ div-one a.den)

-- a fraction in lowest terms is determined by its value
pub same_value : (a b : Fraction) → IsLowest a → IsLowest b → a.num *ℤ pos b.den ≡ b.num *ℤ pos a.den → a ≡ b
same_value a b ha hb same =
    sym (lowest_is a ha) ∙ lowest_same a.num b.num a.den b.den ha.positive hb.positive same ∙ lowest_is b hb

-- the value stays
pub lowest-value : (n : ℤ) (d : ℕ) → (lowest n d).num *ℤ pos d ≡ n *ℤ pos (lowest n d).den
unfolding lowest
lowest-value n d =
    let g = gcd (unsigned_abs n) d in
    let h = gcd-is (unsigned_abs n) d in
    ap (λ k. int_div n (pos g) *ℤ pos k) (sym (mul-div_cancel' g h.1)) ∙ sym (*ℤ_assoc (int_div n (pos g)) (pos g) (pos (d / g))) ∙ ap (λ z. z *ℤ pos (d / g)) (int_div-exact n g h.0)

lowest-den_positive : (n : ℤ) (d : ℕ) → 0 < d → 0 < (lowest n d).den
unfolding lowest
lowest-den_positive n d h =
    let g = gcd (unsigned_abs n) d in
    quotient_positive g (d / g) (subst (λ k. 0 < k) (sym (mul-div_cancel' g (gcd-is (unsigned_abs n) d).1)) h)
  where
    quotient_positive : (g q : ℕ) → 0 < g * q → 0 < q
    quotient_positive g zero h = absurd (omega arith)
    quotient_positive g (suc q) h = omega arith

pub lowest-IsLowest : (n : ℤ) (d : ℕ) → 0 < d → IsLowest (lowest n d)
unfolding lowest
lowest-IsLowest n d h = record {
  positive = lowest-den_positive n d h;
  coprime = ap (λ k. gcd k (d / gcd (unsigned_abs n) d)) (unsigned_abs-int_div n (gcd (unsigned_abs n) d)) ∙ coprime_quotients (unsigned_abs n) d h;
}
