-- The order of fractions.
use Rattle.std.proofs.Common.{◌≡◌, ◌*◌, ◌<◌, ◌↔◌, ℕ, refl, sym, subst, arith, ℤ, pos, negsuc, ◌+ℤ◌, ◌*ℤ◌, ◌<ℤ◌}
use Rattle.std.proofs.Math.Nat.{mul-pos}
use Rattle.std.proofs.lemmas.Int.{ints}
use Rattle.std.specs.Cmp.{int_ranks, int_cmp_is}
use Rattle.std.specs.Ordering.{MatchOrdering}
use Rattle.std.specs.declared.cmp.Ordering.{Ordering}
use Rattle.std.specs.declared.cmp.Ordering.TheVariants.{Less, Equal, Greater}
use Rattle.spv_whole.specs.Fraction.{Fraction, IsLowest, IsLess, lowest, sum, product, order}
use Rattle.spv_whole.proofs.Lowest.{lowest-value, lowest-IsLowest, same_value}
use Rattle.spv_whole.proofs.Ring.{by_diff, by_diff2, diff_same, diff-+ℤ, diff-*ℤ, diff-*ℤ-pos, <ℤ-scaled, <ℤ-unscaled}

swap_scales : (z : ℤ) (p q : ℕ) → z *ℤ pos p *ℤ pos q ≡ z *ℤ pos q *ℤ pos p
swap_scales z p q = by_diff (λ z. z *ℤ pos p *ℤ pos q ≡ z *ℤ pos q *ℤ pos p) (λ a a'. simp diff-*ℤ-pos (diff_same _ _ _ _ (omega arith))) z

<ℤ_trans : (x y z : ℤ) → x <ℤ y → y <ℤ z → x <ℤ z
<ℤ_trans x y z h k = omega (arith, ints)

pub IsLess_irrefl : (a : Fraction) → ¬ IsLess a a
IsLess_irrefl a h = omega (arith, ints)

pub IsLess_trans : (a b c : Fraction) → 0 < a.den → 0 < b.den → 0 < c.den → IsLess a b → IsLess b c → IsLess a c
IsLess_trans a b c ha hb hc h k =
    <ℤ-unscaled (a.num *ℤ pos c.den) (c.num *ℤ pos a.den) b.den
    (<ℤ_trans (a.num *ℤ pos c.den *ℤ pos b.den) (b.num *ℤ pos a.den *ℤ pos c.den) (c.num *ℤ pos a.den *ℤ pos b.den)
    (subst (λ (z : ℤ). z <ℤ (b.num *ℤ pos a.den *ℤ pos c.den)) (swap_scales a.num b.den c.den) (<ℤ-scaled (a.num *ℤ pos b.den) (b.num *ℤ pos a.den) c.den hc h))
    (rw (swap_scales b.num a.den c.den, swap_scales c.num a.den b.den) (<ℤ-scaled (b.num *ℤ pos c.den) (c.num *ℤ pos b.den) a.den ha k)))

-- one of the three holds
pub order_total : (a b : Fraction) → IsLowest a → IsLowest b → MatchOrdering (order a b) (IsLess a b) (a ≡ b) (IsLess b a)
order_total a b ha hb = by_case (order a b) (int_ranks (a.num *ℤ pos b.den) (b.num *ℤ pos a.den))
  where
    by_case : (o : Ordering) → MatchOrdering o (IsLess a b) (a.num *ℤ pos b.den ≡ b.num *ℤ pos a.den) (IsLess b a) → MatchOrdering o (IsLess a b) (a ≡ b) (IsLess b a)
    by_case Less h = h
    by_case Equal h = same_value a b ha hb h
    by_case Greater h = h

-- the answer `Less` is that of the cross products
pub order-less : (a b : Fraction) → (order a b ≡ Less) ↔ IsLess a b
order-less a b = (
  λ e. subst (λ (o : Ordering). MatchOrdering o (IsLess a b) (a.num *ℤ pos b.den ≡ b.num *ℤ pos a.den) (IsLess b a)) e (int_ranks (a.num *ℤ pos b.den) (b.num *ℤ pos a.den)),
  λ h. sym (int_cmp_is (a.num *ℤ pos b.den) (b.num *ℤ pos a.den) Less h),
)

-- ---- lowest terms change no comparison

abbrev reduced : Fraction → Fraction
reduced a = lowest a.num a.den

-- equals may be put on the left
left_same : (x a c : Fraction) → 0 < x.den → 0 < a.den → 0 < c.den → x.num *ℤ pos a.den ≡ a.num *ℤ pos x.den → IsLess a c → IsLess x c
left_same x a c hx ha hc same h =
    <ℤ-unscaled (x.num *ℤ pos c.den) (c.num *ℤ pos x.den) a.den
    (rw (swap_scales x.num c.den a.den, same, swap_scales a.num x.den c.den, swap_scales c.num x.den a.den) (<ℤ-scaled (a.num *ℤ pos c.den) (c.num *ℤ pos a.den) x.den hx h))

-- and on the right
right_same : (x a c : Fraction) → 0 < x.den → 0 < a.den → 0 < c.den → x.num *ℤ pos a.den ≡ a.num *ℤ pos x.den → IsLess c a → IsLess c x
right_same x a c hx ha hc same h =
    <ℤ-unscaled (c.num *ℤ pos x.den) (x.num *ℤ pos c.den) a.den
    (rw (swap_scales x.num c.den a.den, same, swap_scales a.num x.den c.den, swap_scales c.num x.den a.den) (<ℤ-scaled (c.num *ℤ pos a.den) (a.num *ℤ pos c.den) x.den hx h))

reduced-less : (a b : Fraction) → 0 < a.den → 0 < b.den → IsLess a b → IsLess (reduced a) (reduced b)
reduced-less a b ha hb h =
    let pa = (lowest-IsLowest a.num a.den ha).positive in
    let pb = (lowest-IsLowest b.num b.den hb).positive in
    left_same (reduced a) a (reduced b) pa ha pb (lowest-value a.num a.den)
    (right_same (reduced b) b a pb hb ha (lowest-value b.num b.den) h)

-- ---- sums and products with a positive fraction keep the order

less_times : (d : ℕ) (x y : ℤ) (n : ℕ) → 0 < d → 0 < n → x <ℤ y → (x *ℤ pos n *ℤ pos d) <ℤ (y *ℤ pos n *ℤ pos d)
less_times d x y n hd hn h = <ℤ-scaled (x *ℤ pos n) (y *ℤ pos n) d hd (<ℤ-scaled x y n hn h)

apart_product : (p q : ℕ) (z n : ℤ) → z *ℤ n *ℤ pos (p * q) ≡ z *ℤ pos p *ℤ n *ℤ pos q
apart_product p q = by_diff2 (λ z n. z *ℤ n *ℤ pos (p * q) ≡ z *ℤ pos p *ℤ n *ℤ pos q) (λ a a' b b'. simp (diff-*ℤ-pos, diff-*ℤ) (diff_same _ _ _ _ (omega arith)))

raw_product-less : (a b : Fraction) (n d : ℕ) → 0 < n → 0 < d → IsLess a b → (a.num *ℤ pos n *ℤ pos (b.den * d)) <ℤ (b.num *ℤ pos n *ℤ pos (a.den * d))
raw_product-less a b n d hn hd h =
    rw (apart_product b.den d a.num (pos n), apart_product a.den d b.num (pos n)) (less_times d (a.num *ℤ pos b.den) (b.num *ℤ pos a.den) n hd hn h)

pub product-less : (a b c : Fraction) → 0 < a.den → 0 < b.den → 0 < c.den → IsLess (record { num = pos 0; den = 1 }) c → IsLess a b → IsLess (product a c) (product b c)
unfolding product
product-less a b c ha hb hc positive h = by_sign c.num refl
  where
    positive_is : (n : ℕ) → c.num ≡ pos n → 0 < n
    positive_is n e = let k : (pos 0 *ℤ pos c.den) <ℤ (pos n *ℤ pos 1) = rw e at positive in omega (arith, ints)

    not_negative : (n : ℕ) → c.num ≡ negsuc n → ⊥
    not_negative n e = let k : (pos 0 *ℤ pos c.den) <ℤ (negsuc n *ℤ pos 1) = rw e at positive in omega (arith, ints)

    by_sign : (z : ℤ) → c.num ≡ z → IsLess (lowest (a.num *ℤ c.num) (a.den * c.den)) (lowest (b.num *ℤ c.num) (b.den * c.den))
    by_sign (pos n) e =
        reduced-less (record { num = a.num *ℤ c.num; den = a.den * c.den }) (record { num = b.num *ℤ c.num; den = b.den * c.den }) (mul-pos ha hc) (mul-pos hb hc)
        (rw e (raw_product-less a b n c.den (positive_is n e) hc h))
    by_sign (negsuc n) e = absurd (not_negative n e)

add_both : (x y z : ℤ) → x <ℤ y → (x +ℤ z) <ℤ (y +ℤ z)
add_both x y z h = omega (arith, ints)

apart_sum : (p q r : ℕ) (x z : ℤ) → (x *ℤ pos r +ℤ z *ℤ pos p) *ℤ pos (q * r) ≡ x *ℤ pos q *ℤ pos (r * r) +ℤ z *ℤ pos (p * (q * r))
apart_sum p q r = by_diff2 (λ x z. (x *ℤ pos r +ℤ z *ℤ pos p) *ℤ pos (q * r) ≡ x *ℤ pos q *ℤ pos (r * r) +ℤ z *ℤ pos (p * (q * r))) (λ a a' b b'. simp (diff-*ℤ-pos, diff-+ℤ) (diff_same _ _ _ _ (omega arith)))

swap_dens : (p q r : ℕ) → q * (p * r) ≡ p * (q * r)
swap_dens p q r = omega arith

raw_sum-less : (a b c : Fraction) → 0 < c.den → IsLess a b → ((a.num *ℤ pos c.den +ℤ c.num *ℤ pos a.den) *ℤ pos (b.den * c.den)) <ℤ ((b.num *ℤ pos c.den +ℤ c.num *ℤ pos b.den) *ℤ pos (a.den * c.den))
raw_sum-less a b c hc h =
    rw (apart_sum a.den b.den c.den a.num c.num, apart_sum b.den a.den c.den b.num c.num, swap_dens a.den b.den c.den)
    (add_both (a.num *ℤ pos b.den *ℤ pos (c.den * c.den)) (b.num *ℤ pos a.den *ℤ pos (c.den * c.den)) (c.num *ℤ pos (a.den * (b.den * c.den)))
    (<ℤ-scaled (a.num *ℤ pos b.den) (b.num *ℤ pos a.den) (c.den * c.den) (mul-pos hc hc) h))

pub sum-less : (a b c : Fraction) → 0 < a.den → 0 < b.den → 0 < c.den → IsLess a b → IsLess (sum a c) (sum b c)
unfolding sum
sum-less a b c ha hb hc h =
    reduced-less (record { num = a.num *ℤ pos c.den +ℤ c.num *ℤ pos a.den; den = a.den * c.den }) (record { num = b.num *ℤ pos c.den +ℤ c.num *ℤ pos b.den; den = b.den * c.den }) (mul-pos ha hc) (mul-pos hb hc) (raw_sum-less a b c hc h)
