-- Laws of the greatest common divisor.
use Rattle.std.proofs.Common.{◌≡◌, ◌*◌, ◌/◌, ◌%◌, ◌<◌, ◌==◌, ◌⊎◌, inl, inr, ℕ, zero, suc, Bool, true, false, if◌then◌else◌, refl, sym, ◌∙◌, ap, subst, arith}
use Rattle.std.proofs.Math.Nat.{zero-mul, eq-zero-or-pos, mod-lt, one-dvd, dvd_refl, dvd_trans, dvd_antisymm, dvd-mul_left, dvd-mul_right, dvd_of_mul-dvd-mul_left, mul-dvd-mul_left, eq-one_of_dvd-one, pos_of_dvd_of_pos, mul-div_cancel', mul-one, eq_of_mul-eq-mul_left}
use mathlib.Core.Path.{ap₂}
use Rattle.std.proofs.lemmas.Bool.Decides.{nat_tests}
use Rattle.std.proofs.lemmas.Nat.Gcd.{IsGcd-from_zero, IsGcd-from_mod, IsGcd-swap, same_from_IsGcd}
use Rattle.std.specs.Int.{IsGcd, ◌∣◌}
use Rattle.spv_whole.specs.Gcd.{gcd, gcd_in}

gcd_step : (steps a b : ℕ) → (0 < b → IsGcd b (a % b) (gcd_in steps b (a % b))) → (t : Bool) → (b == 0) ≡ t → IsGcd a b (if t then a else gcd_in steps b (a % b))
gcd_step steps a b rec true e = IsGcd-from_zero a b (grind (arith, nat_tests))
gcd_step steps a b rec false e = IsGcd-from_mod a b _ (rec (grind (arith, nat_tests)))

gcd_in-is : (steps a b : ℕ) → b < steps → IsGcd a b (gcd_in steps a b)
gcd_in-is zero a b h = absurd (omega arith)
gcd_in-is (suc steps) a b h = gcd_step steps a b (λ positive. gcd_in-is steps b (a % b) (omega (arith, mod-lt a positive))) (b == 0) refl

-- it divides both, and each number that divides both divides it
pub gcd-is : (a b : ℕ) → IsGcd a b (gcd a b)
unfolding gcd
gcd-is a b = gcd_in-is (suc b) a b (omega arith)

-- nothing else is
pub gcd_from_is : (a b g : ℕ) → IsGcd a b g → gcd a b ≡ g
gcd_from_is a b g h = same_from_IsGcd a b (gcd a b) g (gcd-is a b) h

-- one step of Euclid's algorithm
pub gcd-mod : (a b : ℕ) → gcd b (a % b) ≡ gcd a b
gcd-mod a b = sym (gcd_from_is a b (gcd b (a % b)) (IsGcd-from_mod a b (gcd b (a % b)) (gcd-is b (a % b))))

pub gcd-zero : (a : ℕ) → gcd a 0 ≡ a
gcd-zero a = gcd_from_is a 0 a (IsGcd-from_zero a 0 refl)

pub gcd_comm : (a b : ℕ) → gcd a b ≡ gcd b a
gcd_comm a b = gcd_from_is a b (gcd b a) (IsGcd-swap b a (gcd b a) (gcd-is b a))

-- a common divisor of multiples of k, a multiple of k itself, divides k times the gcd
part_divides : (k a b q : ℕ) → 0 < k → k * q ∣ k * a → k * q ∣ k * b → k * q ∣ k * gcd a b
part_divides k a b q positive ha hb = mul-dvd-mul_left q k ((gcd-is a b).2 q (dvd_of_mul-dvd-mul_left q positive ha) (dvd_of_mul-dvd-mul_left q positive hb))

gcd-mul_divides : (k a b : ℕ) → 0 < k → gcd (k * a) (k * b) ∣ k * gcd a b
gcd-mul_divides k a b positive =
    let h = gcd-is (k * a) (k * b) in
    let of_k : k * (gcd (k * a) (k * b) / k) ≡ gcd (k * a) (k * b) = mul-div_cancel' k (h.2 k (dvd-mul_right k a) (dvd-mul_right k b)) in
    subst (λ (g : ℕ). g ∣ k * gcd a b) of_k
    (part_divides k a b (gcd (k * a) (k * b) / k) positive
    (subst (λ (g : ℕ). g ∣ k * a) (sym of_k) h.0)
    (subst (λ (g : ℕ). g ∣ k * b) (sym of_k) h.1))

pub gcd-mul : (k a b : ℕ) → 0 < k → gcd (k * a) (k * b) ≡ k * gcd a b
gcd-mul k a b positive =
    let g = gcd-is a b in
    dvd_antisymm (gcd-mul_divides k a b positive) ((gcd-is (k * a) (k * b)).2 (k * gcd a b) (mul-dvd-mul_left (gcd a b) k g.0) (mul-dvd-mul_left (gcd a b) k g.1))

pub gcd_positive : (a b : ℕ) → 0 < b → 0 < gcd a b
gcd_positive a b h = pos_of_dvd_of_pos (gcd-is a b).1 h

-- Gauss's lemma
pub dvd_from_product : (a b c : ℕ) → gcd a b ≡ 1 → 0 < c → a ∣ c * b → a ∣ c
dvd_from_product a b c coprime positive h =
    subst (λ (g : ℕ). a ∣ g) (gcd-mul c a b positive ∙ ap (λ g. c * g) coprime ∙ mul-one c)
    ((gcd-is (c * a) (c * b)).2 a (dvd-mul_left a c) h)

-- what divides two coprime numbers is 1
pub coprime_from : (a b : ℕ) → ((d : ℕ) → d ∣ a → d ∣ b → d ≡ 1) → gcd a b ≡ 1
coprime_from a b h = h (gcd a b) (gcd-is a b).0 (gcd-is a b).1

pub one_of_coprime : (a b d : ℕ) → gcd a b ≡ 1 → d ∣ a → d ∣ b → d ≡ 1
one_of_coprime a b d coprime ha hb = eq-one_of_dvd-one (subst (λ (g : ℕ). d ∣ g) coprime ((gcd-is a b).2 d ha hb))

-- divisors of coprime numbers are coprime
pub coprime_parts : (a b d e : ℕ) → gcd a b ≡ 1 → d ∣ a → e ∣ b → gcd d e ≡ 1
coprime_parts a b d e coprime ha hb =
    coprime_from d e (λ k hd he. one_of_coprime a b k coprime (dvd_trans k hd ha) (dvd_trans k he hb))

coprime_product_of : (a b c : ℕ) → 0 < a → gcd a c ≡ 1 → gcd b c ≡ 1 → gcd (a * b) c ≡ 1
coprime_product_of a b c positive ha hb =
    coprime_from (a * b) c (λ k hk hc. one_of_coprime a c k ha (dvd_from_product k b a (coprime_flip k b c hb hc) positive hk) hc)
  where
    coprime_flip : (k b c : ℕ) → gcd b c ≡ 1 → k ∣ c → gcd k b ≡ 1
    coprime_flip k b c coprime h = coprime_parts c b k b (gcd_comm c b ∙ coprime) h (dvd_refl b)

-- a product is coprime to what its factors are coprime to
pub coprime_product : (a b c : ℕ) → gcd a c ≡ 1 → gcd b c ≡ 1 → gcd (a * b) c ≡ 1
coprime_product a b c ha hb = by_case (eq-zero-or-pos a)
  where
    by_case : (a ≡ 0) ⊎ (0 < a) → gcd (a * b) c ≡ 1
    by_case (inl e) = ap (λ k. gcd k c) (ap (λ k. k * b) e ∙ zero-mul b ∙ sym e) ∙ ha
    by_case (inr positive) = coprime_product_of a b c positive ha hb

-- the quotients by the gcd are coprime
pub coprime_quotients : (a b : ℕ) → 0 < b → gcd (a / gcd a b) (b / gcd a b) ≡ 1
coprime_quotients a b positive =
    let g = gcd-is a b in
    let g_positive = gcd_positive a b positive in
    eq_of_mul-eq-mul_left (gcd a b) g_positive (gcd (a / gcd a b) (b / gcd a b)) 1
    (sym (gcd-mul (gcd a b) (a / gcd a b) (b / gcd a b) g_positive) ∙ ap₂ gcd (mul-div_cancel' (gcd a b) g.0) (mul-div_cancel' (gcd a b) g.1) ∙ sym (mul-one (gcd a b)))

pub gcd-one : (a : ℕ) → gcd a 1 ≡ 1
gcd-one a = gcd_from_is a 1 1 (one-dvd a, dvd_refl 1, λ d _ h. h)

-- for a loop of Euclid's algorithm
pub ruleset steps = (gcd-mod, gcd-zero)
