-- Two fractions brought to their least common denominator.
use Rattle.std.proofs.Common.{◌≡◌, ◌/◌, ◌∙◌, ap, ℤ, pos, ◌*ℤ◌, to_z, of_z}
use Rattle.std.specs.Prelude.{unsigned_abs}
use Rattle.std.specs.Int.{w128}
use mathlib.Core.Path.{ap₂}
use Rattle.spv_whole.specs.Gcd.{gcd}
use Rattle.spv_whole.specs.Fraction.{Fraction, lowest}
use Rattle.spv_frac.specs.Range.{factor, left_num, right_num}
use Rattle.spv_frac.proofs.Opened.{Opened, lowest-pos_num, lowest-pos_den}

-- the numbers that the code multiplies, for a and b with their two denominators d in lowest terms
pub record Scales (a b : Fraction) (a_num b_num d_num d_den : ℤ) : Type 0 where
  pub left : to_z w128 (of_z w128 a_num) *ℤ to_z w128 (of_z w128 d_den) ≡ left_num a b
  pub right : to_z w128 (of_z w128 b_num) *ℤ to_z w128 (of_z w128 d_num) ≡ right_num a b
  pub factor_is : to_z w128 (of_z w128 d_den) ≡ pos (factor a b)

pub scales : (a b d : Fraction) (a_num a_den b_num b_den d_num d_den : ℤ) → Opened a a_num a_den → Opened b b_num b_den → Opened d d_num d_den → d ≡ lowest (to_z w128 (of_z w128 a_den)) (unsigned_abs (to_z w128 (of_z w128 b_den))) → Scales a b a_num b_num d_num d_den
scales a b d a_num a_den b_num b_den d_num d_den x y z e =
    let d_is : d ≡ lowest (pos a.den) b.den = e ∙ ap₂ lowest x.den_kept (ap unsigned_abs y.den_kept) in
    let up : to_z w128 (of_z w128 d_num) ≡ pos (a.den / gcd a.den b.den) = z.num_kept ∙ ap (λ (f : Fraction). f.num) d_is ∙ lowest-pos_num a.den b.den in
    let down : to_z w128 (of_z w128 d_den) ≡ pos (factor a b) = z.den_kept ∙ ap (λ (f : Fraction). pos f.den) d_is ∙ ap pos (lowest-pos_den a.den b.den) in
    record {
      left = ap₂ (λ m n. m *ℤ n) x.num_kept down;
      right = ap₂ (λ m n. m *ℤ n) y.num_kept up;
      factor_is = down;
    }
