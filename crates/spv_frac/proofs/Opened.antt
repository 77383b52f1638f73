-- The numbers inside a `Frac`, and numbers of the range at 128 bits.
use Rattle.std.proofs.Common.{◌≡◌, ◌/◌, ◌^◌, ◌<◌, ℕ, refl, sym, ◌∙◌, ap, subst, arith, IsTrue, ℤ, pos, ◌<ℤ◌, to_z, of_z}
use Rattle.std.specs.Prelude.{unsigned_abs}
use Rattle.std.specs.Int.{w128}
use Rattle.std.proofs.lemmas.Int.{to_z-of_z, fits_signed_from_abs}
use Rattle.std.proofs.lemmas.Bool.Decides.{nat_tests}
use Rattle.spv_whole.specs.Gcd.{gcd}
use Rattle.spv_whole.specs.Fraction.{Fraction, lowest}
use Rattle.spv_whole.proofs.Ring.{pos-unsigned_abs}
use Rattle.spv_frac.specs.Range.{fits, IsFrac}

-- a number of the range that went to bits and back
pub kept : (z : ℤ) → unsigned_abs z < 2 ^ 127 → to_z w128 (of_z w128 z) ≡ z
kept z h = to_z-of_z w128 z (fits_signed_from_abs w128 z h)

pub below_from_fits : (z : ℤ) → IsTrue (fits z) → unsigned_abs z < 2 ^ 127
below_from_fits z h = grind (arith, nat_tests)

-- the numbers inside the value f
pub record Opened (f : Fraction) (num den : ℤ) : Type 0 where
  pub num_kept : to_z w128 (of_z w128 num) ≡ f.num
  pub den_kept : to_z w128 (of_z w128 den) ≡ pos f.den
  pub is_frac : IsFrac f

pub opened : (num den : ℤ) (f : Fraction) → record { num = num; den = unsigned_abs den } ≡ f → (pos 0 <ℤ den) × IsFrac (record { num = num; den = unsigned_abs den }) → Opened f num den
opened num den f view_is (positive, frac) =
    subst (λ (g : Fraction). Opened g num den) view_is
    (record {
      num_kept = kept num frac.num_fits;
      den_kept = kept den frac.den_fits ∙ sym (pos-unsigned_abs den positive);
      is_frac = frac;
    })

-- the gcd of two denominators divides both
pub lowest-pos_num : (a b : ℕ) → (lowest (pos a) b).num ≡ pos (a / gcd a b)
unfolding lowest
lowest-pos_num a b = refl

pub lowest-pos_den : (a b : ℕ) → (lowest (pos a) b).den ≡ b / gcd a b
unfolding lowest
lowest-pos_den a b = refl

pub kept_as : (z w : ℤ) → z ≡ w → unsigned_abs w < 2 ^ 127 → to_z w128 (of_z w128 z) ≡ w
kept_as z w e h = ap (λ x. to_z w128 (of_z w128 x)) e ∙ kept w h
