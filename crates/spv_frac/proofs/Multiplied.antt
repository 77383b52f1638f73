-- The numbers of a product.
use Rattle.std.proofs.Common.{◌≡◌, ℕ, sym, ◌∙◌, ap, subst, ℤ, pos, ◌*ℤ◌, ◌<ℤ◌, to_z, of_z}
use Rattle.std.specs.Prelude.{unsigned_abs}
use Rattle.std.specs.Int.{w128}
use mathlib.Core.Path.{ap₂}
use Rattle.spv_whole.specs.Fraction.{Fraction, IsLowest, lowest, product}
use Rattle.spv_whole.proofs.Arithmetic.{product-IsLowest}
use Rattle.spv_whole.proofs.Crosswise.{product-crossed}
use Rattle.spv_frac.specs.Range.{IsFrac}
use Rattle.spv_frac.proofs.Opened.{Opened}
use Rattle.spv_frac.proofs.Added.{positive_pos}

-- the numbers that the code multiplies for a * b
pub record Multiplied (a b : Fraction) (l_num l_den r_num r_den : ℤ) : Type 0 where
  pub num_is : to_z w128 (of_z w128 l_num) *ℤ to_z w128 (of_z w128 r_num) ≡ (product a b).num
  pub den_is : to_z w128 (of_z w128 l_den) *ℤ to_z w128 (of_z w128 r_den) ≡ pos (product a b).den
  pub is_lowest : IsLowest (product a b)

pub multiplied : (a b l r : Fraction) (a_num a_den b_num b_den l_num l_den r_num r_den : ℤ) → Opened a a_num a_den → Opened b b_num b_den → Opened l l_num l_den → Opened r r_num r_den → l ≡ lowest (to_z w128 (of_z w128 a_num)) (unsigned_abs (to_z w128 (of_z w128 b_den))) → r ≡ lowest (to_z w128 (of_z w128 b_num)) (unsigned_abs (to_z w128 (of_z w128 a_den))) → Multiplied a b l_num l_den r_num r_den
multiplied a b l r a_num a_den b_num b_den l_num l_den r_num r_den x y p q el er =
    let l_is : l ≡ lowest a.num b.den = el ∙ ap₂ lowest x.num_kept (ap unsigned_abs y.den_kept) in
    let r_is : r ≡ lowest b.num a.den = er ∙ ap₂ lowest y.num_kept (ap unsigned_abs x.den_kept) in
    let whole = sym (product-crossed a b x.is_frac.is_lowest y.is_frac.is_lowest) in
    record {
      num_is = ap₂ (λ m n. m *ℤ n) (p.num_kept ∙ ap (λ (f : Fraction). f.num) l_is) (q.num_kept ∙ ap (λ (f : Fraction). f.num) r_is) ∙ ap (λ (f : Fraction). f.num) whole;
      den_is = ap₂ (λ m n. m *ℤ n) (p.den_kept ∙ ap (λ (f : Fraction). pos f.den) l_is) (q.den_kept ∙ ap (λ (f : Fraction). pos f.den) r_is) ∙ ap (λ (f : Fraction). pos f.den) whole;
      is_lowest = product-IsLowest a b x.is_frac.is_lowest.positive y.is_frac.is_lowest.positive;
    }

make : ℤ → ℕ → Fraction
make num den = record { num = num; den = den }

-- numbers that are those of f
pub same_fraction : (f : Fraction) (x y : ℤ) → x ≡ f.num → y ≡ pos f.den → record { num = x; den = unsigned_abs y } ≡ f
unfolding make
same_fraction f x y ex ey = ap₂ make ex (ap unsigned_abs ey)

pub inside_of : (f : Fraction) (x y : ℤ) → IsFrac f → x ≡ f.num → y ≡ pos f.den → (pos 0 <ℤ y) × IsFrac (record { num = x; den = unsigned_abs y })
inside_of f x y h ex ey =
    (subst (λ (z : ℤ). pos 0 <ℤ z) (sym ey) (positive_pos f.den h.is_lowest.positive), subst IsFrac (sym (same_fraction f x y ex ey)) h)
