-- Sums, products and comparisons with common factors taken out first.
use Rattle.std.proofs.Common.{◌≡◌, ◌*◌, ◌/◌, ◌<◌, ℕ, sym, ◌∙◌, ap, subst, arith, ℤ, pos, ◌+ℤ◌, ◌*ℤ◌, ◌<ℤ◌}
use Rattle.std.proofs.Math.Nat.{mul_assoc, mul-pos, div-mul_cancel, dvd-mul_right}
use Rattle.std.proofs.lemmas.Int.{unsigned_abs-mul}
use Rattle.std.specs.Prelude.{unsigned_abs}
use Rattle.std.specs.Int.{◌∣◌}
use Rattle.std.specs.Cmp.{int_ranks, int_cmp_is}
use Rattle.std.specs.Ordering.{int_cmp, MatchOrdering}
use Rattle.std.specs.declared.cmp.Ordering.{Ordering}
use Rattle.std.specs.declared.cmp.Ordering.TheVariants.{Less, Equal, Greater}
use mathlib.Core.Path.{ap₂}
use Rattle.spv_whole.specs.Gcd.{gcd}
use Rattle.spv_whole.specs.Fraction.{Fraction, IsLowest, lowest, sum, product, order}
use Rattle.spv_whole.proofs.Gcd.{gcd-is, gcd_comm, gcd_positive, coprime_parts, coprime_product}
use Rattle.spv_whole.proofs.Lowest.{lowest-scaled, lowest_is, lowest-IsLowest, int_div-exact}
use Rattle.spv_whole.proofs.Ring.{by_diff2, diff_same, diff-+ℤ, diff-*ℤ, diff-*ℤ-pos, *ℤ_assoc, <ℤ-scaled}

gather : (p q g : ℕ) (x y : ℤ) → (x *ℤ pos p +ℤ y *ℤ pos q) *ℤ pos g ≡ x *ℤ pos (p * g) +ℤ y *ℤ pos (q * g)
gather p q g = by_diff2 (λ x y. (x *ℤ pos p +ℤ y *ℤ pos q) *ℤ pos g ≡ x *ℤ pos (p * g) +ℤ y *ℤ pos (q * g)) (λ a a' b b'. simp (diff-*ℤ-pos, diff-+ℤ) (diff_same _ _ _ _ (omega arith)))

-- the sum over the least common denominator
pub sum-over : (a b : Fraction) → 0 < b.den → sum a b ≡ lowest (a.num *ℤ pos (b.den / gcd a.den b.den) +ℤ b.num *ℤ pos (a.den / gcd a.den b.den)) (a.den * (b.den / gcd a.den b.den))
unfolding sum
sum-over a b positive =
    let g = gcd a.den b.den in
    let h = gcd-is a.den b.den in
    let p = b.den / g in
    let q = a.den / g in
    let b_is : p * g ≡ b.den = div-mul_cancel g h.1 in
    let a_is : q * g ≡ a.den = div-mul_cancel g h.0 in
    sym (sym (lowest-scaled (a.num *ℤ pos p +ℤ b.num *ℤ pos q) (a.den * p) g (gcd_positive a.den b.den positive))
    ∙ ap₂ lowest
    (gather p q g a.num b.num ∙ ap₂ (λ k l. a.num *ℤ pos k +ℤ b.num *ℤ pos l) b_is a_is)
    (mul_assoc a.den p g ∙ ap (λ k. a.den * k) b_is))

-- ---- products

make : ℤ → ℕ → Fraction
make num den = record { num = num; den = den }

lowest-num : (n : ℤ) (d : ℕ) → (lowest n d).num *ℤ pos (gcd (unsigned_abs n) d) ≡ n
unfolding lowest
lowest-num n d = int_div-exact n (gcd (unsigned_abs n) d) (gcd-is (unsigned_abs n) d).0

lowest-den : (n : ℤ) (d : ℕ) → (lowest n d).den * gcd (unsigned_abs n) d ≡ d
unfolding lowest
lowest-den n d = div-mul_cancel (gcd (unsigned_abs n) d) (gcd-is (unsigned_abs n) d).1

num_divides : (n : ℤ) (d : ℕ) → unsigned_abs (lowest n d).num ∣ unsigned_abs n
num_divides n d =
    let e = sym (unsigned_abs-mul (lowest n d).num (pos (gcd (unsigned_abs n) d))) ∙ ap unsigned_abs (lowest-num n d) in
    subst (λ (k : ℕ). unsigned_abs (lowest n d).num ∣ k) e (dvd-mul_right (unsigned_abs (lowest n d).num) (gcd (unsigned_abs n) d))

den_divides : (n : ℤ) (d : ℕ) → (lowest n d).den ∣ d
den_divides n d = subst (λ (k : ℕ). (lowest n d).den ∣ k) (lowest-den n d) (dvd-mul_right (lowest n d).den (gcd (unsigned_abs n) d))

pair_factors : (p q r s : ℕ) → p * q * (r * s) ≡ q * s * (p * r)
pair_factors p q r s = omega arith

regroup : (g h : ℕ) (x y : ℤ) → x *ℤ y *ℤ pos (g * h) ≡ x *ℤ pos g *ℤ (y *ℤ pos h)
regroup g h = by_diff2 (λ x y. x *ℤ y *ℤ pos (g * h) ≡ x *ℤ pos g *ℤ (y *ℤ pos h)) (λ a a' b b'. simp (diff-*ℤ-pos, diff-*ℤ) (diff_same _ _ _ _ (omega arith)))

coprime_with_both : (n d e : ℕ) → gcd n d ≡ 1 → gcd n e ≡ 1 → gcd n (d * e) ≡ 1
coprime_with_both n d e hd he = gcd_comm n (d * e) ∙ coprime_product d e n (gcd_comm d n ∙ hd) (gcd_comm e n ∙ he)

-- what is left after the factors between each numerator and the other denominator is in lowest terms
crossed-IsLowest : (a b : Fraction) → IsLowest a → IsLowest b → IsLowest (make ((lowest a.num b.den).num *ℤ (lowest b.num a.den).num) ((lowest a.num b.den).den * (lowest b.num a.den).den))
unfolding make
crossed-IsLowest a b ha hb =
    let l = lowest a.num b.den in
    let r = lowest b.num a.den in
    let hl : IsLowest l = lowest-IsLowest a.num b.den hb.positive in
    let hr : IsLowest r = lowest-IsLowest b.num a.den ha.positive in
    record {
      positive = mul-pos hl.positive hr.positive;
      coprime = ap (λ k. gcd k (l.den * r.den)) (unsigned_abs-mul l.num r.num)
          ∙ coprime_product (unsigned_abs l.num) (unsigned_abs r.num) (l.den * r.den)
          (coprime_with_both (unsigned_abs l.num) l.den r.den hl.coprime
          (coprime_parts (unsigned_abs a.num) a.den (unsigned_abs l.num) r.den ha.coprime (num_divides a.num b.den) (den_divides b.num a.den)))
          (coprime_with_both (unsigned_abs r.num) l.den r.den
          (coprime_parts (unsigned_abs b.num) b.den (unsigned_abs r.num) l.den hb.coprime (num_divides b.num a.den) (den_divides a.num b.den))
          hr.coprime);
    }

-- the product, with common factors taken out crosswise
pub product-crossed : (a b : Fraction) → IsLowest a → IsLowest b → product a b ≡ record { num = (lowest a.num b.den).num *ℤ (lowest b.num a.den).num; den = (lowest a.num b.den).den * (lowest b.num a.den).den }
unfolding product make
product-crossed a b ha hb =
    let l = lowest a.num b.den in
    let r = lowest b.num a.den in
    let g = gcd (unsigned_abs a.num) b.den in
    let h = gcd (unsigned_abs b.num) a.den in
    sym (sym (lowest_is (make (l.num *ℤ r.num) (l.den * r.den)) (crossed-IsLowest a b ha hb))
    ∙ sym (lowest-scaled (l.num *ℤ r.num) (l.den * r.den) (g * h) (mul-pos (gcd_positive (unsigned_abs a.num) b.den hb.positive) (gcd_positive (unsigned_abs b.num) a.den ha.positive)))
    ∙ ap₂ lowest
    (regroup g h l.num r.num ∙ ap₂ (λ x y. x *ℤ y) (lowest-num a.num b.den) (lowest-num b.num a.den))
    (pair_factors l.den r.den g h ∙ ap₂ (λ x y. x * y) (lowest-den b.num a.den) (lowest-den a.num b.den)))

-- ---- comparisons

int_cmp-scaled : (x y : ℤ) (g : ℕ) → 0 < g → int_cmp x y ≡ int_cmp (x *ℤ pos g) (y *ℤ pos g)
int_cmp-scaled x y g positive = int_cmp_is (x *ℤ pos g) (y *ℤ pos g) (int_cmp x y) (by_case (int_cmp x y) (int_ranks x y))
  where
    by_case : (o : Ordering) → MatchOrdering o (x <ℤ y) (x ≡ y) (y <ℤ x) → MatchOrdering o ((x *ℤ pos g) <ℤ (y *ℤ pos g)) (x *ℤ pos g ≡ y *ℤ pos g) ((y *ℤ pos g) <ℤ (x *ℤ pos g))
    by_case Less h = <ℤ-scaled x y g positive h
    by_case Equal h = ap (λ z. z *ℤ pos g) h
    by_case Greater h = <ℤ-scaled y x g positive h

-- the order, over the least common denominator
pub order-over : (a b : Fraction) → 0 < b.den → int_cmp (a.num *ℤ pos (b.den / gcd a.den b.den)) (b.num *ℤ pos (a.den / gcd a.den b.den)) ≡ order a b
order-over a b positive =
    let g = gcd a.den b.den in
    let h = gcd-is a.den b.den in
    int_cmp-scaled (a.num *ℤ pos (b.den / g)) (b.num *ℤ pos (a.den / g)) g (gcd_positive a.den b.den positive)
    ∙ ap₂ int_cmp
    (*ℤ_assoc a.num (pos (b.den / g)) (pos g) ∙ ap (λ k. a.num *ℤ pos k) (div-mul_cancel g h.1))
    (*ℤ_assoc b.num (pos (a.den / g)) (pos g) ∙ ap (λ k. b.num *ℤ pos k) (div-mul_cancel g h.0))
