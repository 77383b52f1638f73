-- Sums and products of fractions obey the laws of the rationals.
use Rattle.std.proofs.Common.{◌≡◌, ◌*◌, ◌<◌, ℕ, refl, sym, ◌∙◌, ap, arith, ℤ, pos, ◌+ℤ◌, ◌*ℤ◌}
use Rattle.std.proofs.Math.Nat.{mul_comm, mul_assoc, mul-pos}
use Rattle.std.proofs.Math.IntN.{+ℤ_comm, *ℤ_comm}
use mathlib.Core.Path.{ap₂}
use Rattle.spv_whole.specs.Fraction.{Fraction, IsLowest, lowest, sum, product}
use Rattle.spv_whole.proofs.Lowest.{lowest_same, lowest-scaled, lowest-value, lowest-IsLowest}
use Rattle.spv_whole.proofs.Ring.{by_diff2, by_diff3, diff_same, diff-+ℤ, diff-*ℤ, diff-*ℤ-pos, *ℤ_assoc}

-- ---- identities of whole numbers

regroup_sum : (c e d : ℕ) (x n : ℤ) → (x *ℤ pos c +ℤ n *ℤ pos e) *ℤ pos (d * c) ≡ x *ℤ pos d *ℤ pos (c * c) +ℤ n *ℤ pos (e * (d * c))
regroup_sum c e d =
    by_diff2 (λ x n. (x *ℤ pos c +ℤ n *ℤ pos e) *ℤ pos (d * c) ≡ x *ℤ pos d *ℤ pos (c * c) +ℤ n *ℤ pos (e * (d * c)))
    (λ a a' b b'. simp (diff-*ℤ-pos, diff-+ℤ) (diff_same _ _ _ _ (omega arith)))

regroup_product : (c d : ℕ) (x n : ℤ) → x *ℤ n *ℤ pos (d * c) ≡ x *ℤ pos d *ℤ (n *ℤ pos c)
regroup_product c d =
    by_diff2 (λ x n. x *ℤ n *ℤ pos (d * c) ≡ x *ℤ pos d *ℤ (n *ℤ pos c))
    (λ a a' b b'. simp (diff-*ℤ-pos, diff-*ℤ) (diff_same _ _ _ _ (omega arith)))

regroup_three : (p q r : ℕ) (x y z : ℤ) → (x *ℤ pos q +ℤ y *ℤ pos p) *ℤ pos r +ℤ z *ℤ pos (p * q) ≡ x *ℤ pos (q * r) +ℤ (y *ℤ pos r +ℤ z *ℤ pos q) *ℤ pos p
regroup_three p q r =
    by_diff3 (λ x y z. (x *ℤ pos q +ℤ y *ℤ pos p) *ℤ pos r +ℤ z *ℤ pos (p * q) ≡ x *ℤ pos (q * r) +ℤ (y *ℤ pos r +ℤ z *ℤ pos q) *ℤ pos p)
    (λ a a' b b' c c'. simp (diff-*ℤ-pos, diff-+ℤ) (diff_same _ _ _ _ (omega arith)))

spread : (p q r : ℕ) (x y z : ℤ) → x *ℤ (y *ℤ pos r +ℤ z *ℤ pos q) *ℤ pos p ≡ x *ℤ y *ℤ pos (p * r) +ℤ x *ℤ z *ℤ pos (p * q)
spread p q r =
    by_diff3 (λ x y z. x *ℤ (y *ℤ pos r +ℤ z *ℤ pos q) *ℤ pos p ≡ x *ℤ y *ℤ pos (p * r) +ℤ x *ℤ z *ℤ pos (p * q))
    (λ a a' b b' c c'. simp (diff-*ℤ-pos, diff-+ℤ, diff-*ℤ) (diff_same _ _ _ _ (omega arith)))

-- ---- lowest terms change no sum and no product

-- the same value in lowest terms
abbrev reduced : Fraction → Fraction
reduced a = lowest a.num a.den

raw_sum : Fraction → Fraction → Fraction
raw_sum a b = record { num = a.num *ℤ pos b.den +ℤ b.num *ℤ pos a.den; den = a.den * b.den }

raw_product : Fraction → Fraction → Fraction
raw_product a b = record { num = a.num *ℤ b.num; den = a.den * b.den }

sum_is : (a b : Fraction) → sum a b ≡ reduced (raw_sum a b)
unfolding sum raw_sum
sum_is a b = refl

product_is : (a b : Fraction) → product a b ≡ reduced (raw_product a b)
unfolding product raw_product
product_is a b = refl

pub sum_comm : (a b : Fraction) → sum a b ≡ sum b a
unfolding sum
sum_comm a b = ap₂ lowest (+ℤ_comm (a.num *ℤ pos b.den) (b.num *ℤ pos a.den)) (mul_comm a.den b.den)

pub product_comm : (a b : Fraction) → product a b ≡ product b a
unfolding product
product_comm a b = ap₂ lowest (*ℤ_comm a.num b.num) (mul_comm a.den b.den)

sum-reduced : (a c : Fraction) → 0 < a.den → 0 < c.den → sum (reduced a) c ≡ sum a c
unfolding sum
sum-reduced a c ha hc =
    let x = reduced a in
    lowest_same (x.num *ℤ pos c.den +ℤ c.num *ℤ pos x.den) (a.num *ℤ pos c.den +ℤ c.num *ℤ pos a.den) (x.den * c.den) (a.den * c.den)
    (mul-pos (lowest-IsLowest a.num a.den ha).positive hc)
    (mul-pos ha hc)
    (regroup_sum c.den x.den a.den x.num c.num ∙ ap₂ (λ z k. z *ℤ pos (c.den * c.den) +ℤ c.num *ℤ pos k) (lowest-value a.num a.den) (swap_factors x.den a.den c.den) ∙ sym (regroup_sum c.den a.den x.den a.num c.num))
  where
    swap_factors : (p q r : ℕ) → p * (q * r) ≡ q * (p * r)
    swap_factors p q r = omega arith

product-reduced : (a c : Fraction) → 0 < a.den → 0 < c.den → product (reduced a) c ≡ product a c
unfolding product
product-reduced a c ha hc =
    let x = reduced a in
    lowest_same (x.num *ℤ c.num) (a.num *ℤ c.num) (x.den * c.den) (a.den * c.den)
    (mul-pos (lowest-IsLowest a.num a.den ha).positive hc)
    (mul-pos ha hc)
    (regroup_product c.den a.den x.num c.num ∙ ap (λ z. z *ℤ (c.num *ℤ pos c.den)) (lowest-value a.num a.den) ∙ sym (regroup_product c.den x.den a.num c.num))

reduced-sum : (a c : Fraction) → 0 < a.den → 0 < c.den → sum a (reduced c) ≡ sum a c
reduced-sum a c ha hc = sum_comm a (reduced c) ∙ sum-reduced c a hc ha ∙ sum_comm c a

reduced-product : (a c : Fraction) → 0 < a.den → 0 < c.den → product a (reduced c) ≡ product a c
reduced-product a c ha hc = product_comm a (reduced c) ∙ product-reduced c a hc ha ∙ product_comm c a

-- ---- the laws

raw_sum_assoc : (a b c : Fraction) → sum (raw_sum a b) c ≡ sum a (raw_sum b c)
unfolding sum raw_sum
raw_sum_assoc a b c = ap₂ lowest (regroup_three a.den b.den c.den a.num b.num c.num) (mul_assoc a.den b.den c.den)

raw_sum-positive : (a b : Fraction) → 0 < a.den → 0 < b.den → 0 < (raw_sum a b).den
unfolding raw_sum
raw_sum-positive a b ha hb = mul-pos ha hb

raw_product-positive : (a b : Fraction) → 0 < a.den → 0 < b.den → 0 < (raw_product a b).den
unfolding raw_product
raw_product-positive a b ha hb = mul-pos ha hb

pub sum_assoc : (a b c : Fraction) → 0 < a.den → 0 < b.den → 0 < c.den → sum (sum a b) c ≡ sum a (sum b c)
sum_assoc a b c ha hb hc =
    ap (λ x. sum x c) (sum_is a b) ∙ sum-reduced (raw_sum a b) c (raw_sum-positive a b ha hb) hc ∙ raw_sum_assoc a b c ∙ sym (ap (λ x. sum a x) (sum_is b c) ∙ reduced-sum a (raw_sum b c) ha (raw_sum-positive b c hb hc))

raw_product_assoc : (a b c : Fraction) → product (raw_product a b) c ≡ product a (raw_product b c)
unfolding product raw_product
raw_product_assoc a b c = ap₂ lowest (*ℤ_assoc a.num b.num c.num) (mul_assoc a.den b.den c.den)

pub product_assoc : (a b c : Fraction) → 0 < a.den → 0 < b.den → 0 < c.den → product (product a b) c ≡ product a (product b c)
product_assoc a b c ha hb hc =
    ap (λ x. product x c) (product_is a b) ∙ product-reduced (raw_product a b) c (raw_product-positive a b ha hb) hc ∙ raw_product_assoc a b c ∙ sym (ap (λ x. product a x) (product_is b c) ∙ reduced-product a (raw_product b c) ha (raw_product-positive b c hb hc))

raw_spread : (a b c : Fraction) → 0 < a.den → product a (raw_sum b c) ≡ sum (raw_product a b) (raw_product a c)
unfolding sum product raw_sum raw_product
raw_spread a b c ha =
    sym (lowest-scaled (a.num *ℤ (b.num *ℤ pos c.den +ℤ c.num *ℤ pos b.den)) (a.den * (b.den * c.den)) a.den ha) ∙ ap₂ lowest (spread a.den b.den c.den a.num b.num c.num) (pair_factors a.den b.den c.den)
  where
    pair_factors : (p q r : ℕ) → p * (q * r) * p ≡ p * q * (p * r)
    pair_factors p q r = omega arith

pub product-sum : (a b c : Fraction) → 0 < a.den → 0 < b.den → 0 < c.den → product a (sum b c) ≡ sum (product a b) (product a c)
product-sum a b c ha hb hc =
    let ab = raw_product-positive a b ha hb in
    let ac = raw_product-positive a c ha hc in
    ap (λ x. product a x) (sum_is b c) ∙ reduced-product a (raw_sum b c) ha (raw_sum-positive b c hb hc) ∙ raw_spread a b c ha
    ∙ sym (ap₂ sum (product_is a b) (product_is a c) ∙ sum-reduced (raw_product a b) (reduced (raw_product a c)) ab (lowest-IsLowest (raw_product a c).num (raw_product a c).den ac).positive ∙ reduced-sum (raw_product a b) (raw_product a c) ab ac)

-- ---- all answers are in lowest terms

pub sum-IsLowest : (a b : Fraction) → 0 < a.den → 0 < b.den → IsLowest (sum a b)
unfolding sum
sum-IsLowest a b ha hb = lowest-IsLowest (a.num *ℤ pos b.den +ℤ b.num *ℤ pos a.den) (a.den * b.den) (mul-pos ha hb)

pub product-IsLowest : (a b : Fraction) → 0 < a.den → 0 < b.den → IsLowest (product a b)
unfolding product
product-IsLowest a b ha hb = lowest-IsLowest (a.num *ℤ b.num) (a.den * b.den) (mul-pos ha hb)

-- ---- and have the value

pub sum-value : (a b : Fraction) → (sum a b).num *ℤ pos (a.den * b.den) ≡ (a.num *ℤ pos b.den +ℤ b.num *ℤ pos a.den) *ℤ pos (sum a b).den
unfolding sum
sum-value a b = lowest-value (a.num *ℤ pos b.den +ℤ b.num *ℤ pos a.den) (a.den * b.den)

pub product-value : (a b : Fraction) → (product a b).num *ℤ pos (a.den * b.den) ≡ a.num *ℤ b.num *ℤ pos (product a b).den
unfolding product
product-value a b = lowest-value (a.num *ℤ b.num) (a.den * b.den)
