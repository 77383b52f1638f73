-- What differences, quotients and the order of rational numbers obey.
use Rattle.std.proofs.Common.{◌≡◌, ℕ, ◌*◌, ◌<◌, Bool, true, false, refl, sym, ap, ◌∙◌, subst, arith, ℤ, pos, negsuc, ◌+ℤ◌, ◌*ℤ◌, ◌<ℤ◌, neg_ℤ}
use Rattle.std.specs.Prelude.{unsigned_abs}
use Rattle.std.proofs.Math.Nat.{mul-pos}
use Rattle.std.proofs.lemmas.Int.{ints}
use Rattle.std.proofs.lemmas.Bool.{false≢true}
use Rattle.std.specs.Int.RustNames.{int_lt}
use Rattle.std.specs.Ordering.{int_eq}
use Rattle.spv_whole.specs.Fraction.{Fraction, IsLowest}
use Rattle.spv_whole.specs.Fraction as fraction
use Rattle.spv_whole.proofs.Lowest.{lowest-value, lowest-IsLowest}
use Rattle.spv_whole.proofs.Ring.{<ℤ-scaled, <ℤ-unscaled, by_diff2, diff_same, diff-neg, diff-*ℤ}
use Rattle.spv_whole.proofs.Units.{reciprocal-IsLowest, product-reciprocal, product-negated, sum_of_negated, negated-negated}
use Rattle.spv_frac.specs.rational.Rational.{Rational, plus, times, opposite, is_zero, is_positive, is_negative}
use Rattle.spv_frac.proofs.rational.Field.{same, plus_comm, plus_assoc, plus_zero, zero_plus, plus_opposite, times_comm, times_assoc, times_one, zero_times, times_plus, number_is}
use Rattle.spv_frac.proofs.rational.Signs.{not_positive_plus}
use Rattle.spv_tableau_rules.specs.tableaux.Numbers.{nothing, one, minus_one, minus, inverse, divided, is_less}

-- ---- opposites

pub opposite_plus : (a : Rational) → plus (opposite a) a ≡ nothing
opposite_plus a = plus_comm (opposite a) a ∙ plus_opposite a

pub opposite_opposite : (a : Rational) → opposite (opposite a) ≡ a
opposite_opposite a = same (opposite (opposite a)) a (negated-negated a.fraction)

pub opposite_sum : (a b : Rational) → opposite (plus a b) ≡ plus (opposite a) (opposite b)
opposite_sum a b = sym (same (plus (opposite a) (opposite b)) (opposite (plus a b)) (sum_of_negated a.fraction b.fraction))

pub opposite_times : (a b : Rational) → times (opposite a) b ≡ opposite (times a b)
opposite_times a b = same (times (opposite a) b) (opposite (times a b)) (product-negated a.fraction b.fraction)

pub times_opposite : (a b : Rational) → times a (opposite b) ≡ opposite (times a b)
times_opposite a b = times_comm a (opposite b) ∙ opposite_times b a ∙ ap opposite (times_comm b a)

pub both_opposite : (a b : Rational) → times (opposite a) (opposite b) ≡ times a b
both_opposite a b = opposite_times a (opposite b) ∙ ap opposite (times_opposite a b) ∙ opposite_opposite (times a b)

pub opposite_nothing : opposite nothing ≡ nothing
opposite_nothing = same (opposite nothing) nothing refl

pub one_times : (a : Rational) → times one a ≡ a
one_times a = times_comm one a ∙ times_one a

pub minus_one_is : minus_one ≡ opposite one
minus_one_is = same minus_one (opposite one) refl

pub minus_one_times : (a : Rational) → times minus_one a ≡ opposite a
minus_one_times a = ap (λ x. times x a) minus_one_is ∙ opposite_times one a ∙ ap opposite (one_times a)

-- ---- differences

pub minus_itself : (a b : Rational) → a ≡ b → plus a (opposite b) ≡ nothing
minus_itself a b e = ap (λ x. plus x (opposite b)) e ∙ plus_opposite b

-- a difference of 0 is of equal numbers
pub equal_of : (a b : Rational) → plus a (opposite b) ≡ nothing → a ≡ b
equal_of a b e =
    sym (plus_zero a) ∙ ap (plus a) (sym (opposite_plus b)) ∙ sym (plus_assoc a (opposite b) b) ∙ ap (λ x. plus x b) e ∙ zero_plus b

-- a and the way from a to b
pub plus_minus : (a b : Rational) → plus a (minus b a) ≡ b
plus_minus a b = plus_comm a (minus b a) ∙ plus_assoc b (opposite a) a ∙ ap (plus b) (opposite_plus a) ∙ plus_zero b

pub opposite_minus : (a b : Rational) → opposite (minus a b) ≡ minus b a
opposite_minus a b = opposite_sum a (opposite b) ∙ ap (plus (opposite a)) (opposite_opposite b) ∙ plus_comm (opposite a) b

pub times_minus : (k a b : Rational) → times k (minus a b) ≡ minus (times k a) (times k b)
times_minus k a b = times_plus k a (opposite b) ∙ ap (plus (times k a)) (times_opposite k b)

-- ---- quotients

nonzero_num : (z : ℤ) → int_eq z (pos 0) ≡ false → 0 < unsigned_abs z
nonzero_num z h = grind (arith, ints)

pub times_inverse : (a : Rational) → is_zero a ≡ false → times a (inverse a) ≡ one
times_inverse a h =
    let nonzero : 0 < unsigned_abs a.fraction.num = nonzero_num a.fraction.num h in
    same (times a (inverse a)) one (ap (fraction.product a.fraction) (number_is (fraction.reciprocal a.fraction) (reciprocal-IsLowest a.fraction a.is_lowest nonzero)) ∙ product-reciprocal a.fraction a.is_lowest.positive nonzero)

pub divided_times : (a b : Rational) → is_zero b ≡ false → times (divided a b) b ≡ a
divided_times a b h =
    times_assoc a (inverse b) b ∙ ap (times a) (times_comm (inverse b) b ∙ times_inverse b h) ∙ times_one a

pub divided_itself : (a : Rational) → is_zero a ≡ false → divided a a ≡ one
divided_itself a h = times_inverse a h

pub nothing_divided : (a : Rational) → divided nothing a ≡ nothing
nothing_divided a = zero_times (inverse a)

-- ---- signs

less_of : (a b : ℤ) → int_lt a b ≡ true → a <ℤ b
less_of a b h = omega (arith, ints)

lt_of : (a b : ℤ) → a <ℤ b → int_lt a b ≡ true
lt_of a b h = grind (arith, ints)

both_ways : (b c : Bool) → (b ≡ true → c ≡ true) → (c ≡ true → b ≡ true) → b ≡ c
both_ways true c f g = sym (f refl)
both_ways false true f g = g refl
both_ways false false f g = refl

positive_neg : (z : ℤ) → int_lt (pos 0) (neg_ℤ z) ≡ int_lt z (pos 0)
positive_neg z = both_ways _ _ (λ h. lt_of _ _ (there z (less_of _ _ h))) (λ h. lt_of _ _ (back z (less_of _ _ h)))
  where
    there : (z : ℤ) → pos 0 <ℤ neg_ℤ z → z <ℤ pos 0
    there z h = omega (arith, ints)

    back : (z : ℤ) → z <ℤ pos 0 → pos 0 <ℤ neg_ℤ z
    back z h = omega (arith, ints)

negative_neg : (z : ℤ) → int_lt (neg_ℤ z) (pos 0) ≡ int_lt (pos 0) z
negative_neg z = both_ways _ _ (λ h. lt_of _ _ (there z (less_of _ _ h))) (λ h. lt_of _ _ (back z (less_of _ _ h)))
  where
    there : (z : ℤ) → neg_ℤ z <ℤ pos 0 → pos 0 <ℤ z
    there z h = omega (arith, ints)

    back : (z : ℤ) → pos 0 <ℤ z → neg_ℤ z <ℤ pos 0
    back z h = omega (arith, ints)

pub positive_opposite : (a : Rational) → is_positive (opposite a) ≡ is_negative a
positive_opposite a = positive_neg a.fraction.num

pub negative_opposite : (a : Rational) → is_negative (opposite a) ≡ is_positive a
negative_opposite a = negative_neg a.fraction.num

-- what is not true is false
pub false_of : (b : Bool) → (b ≡ true → ⊥) → b ≡ false
false_of true h = absurd (h refl)
false_of false h = refl

pub true_of : (b : Bool) → (b ≡ false → ⊥) → b ≡ true
true_of true h = refl
true_of false h = absurd (h refl)

pub clash : (b : Bool) → b ≡ true → b ≡ false → ⊥
clash b t f = false≢true (sym f ∙ t)

-- a negative number and one that is not positive
pub negative_plus : (a b : Rational) → is_negative a ≡ true → is_positive b ≡ false → is_negative (plus a b) ≡ true
negative_plus a b h k = true_of (is_negative (plus a b)) (λ e. clash (is_negative a) h (contrary e))
  where
    regrouped : plus (opposite (plus a b)) b ≡ opposite a
    regrouped =
        ap (λ x. plus x b) (opposite_sum a b) ∙ plus_assoc (opposite a) (opposite b) b ∙ ap (plus (opposite a)) (opposite_plus b) ∙ plus_zero (opposite a)

    contrary : is_negative (plus a b) ≡ false → is_negative a ≡ false
    contrary e =
        sym (positive_opposite a) ∙ ap is_positive (sym regrouped) ∙ not_positive_plus (opposite (plus a b)) b (positive_opposite (plus a b) ∙ e) k

pub plus_negative : (a b : Rational) → is_positive a ≡ false → is_negative b ≡ true → is_negative (plus a b) ≡ true
plus_negative a b h k = ap is_negative (plus_comm a b) ∙ negative_plus b a k h

-- a negative number is not positive
not_both : (z : ℤ) → int_lt z (pos 0) ≡ true → int_lt (pos 0) z ≡ false
not_both (pos n) h = absurd (no_less n h)
  where
    no_less : (n : ℕ) → int_lt (pos n) (pos 0) ≡ true → ⊥
    no_less n h = omega (arith, ints)
not_both (negsuc n) h = refl

pub negative_not_positive : (a : Rational) → is_negative a ≡ true → is_positive a ≡ false
negative_not_positive a h = not_both a.fraction.num h

pub positive_not_negative : (a : Rational) → is_positive a ≡ true → is_negative a ≡ false
positive_not_negative a h = false_of (is_negative a) (λ e. clash (is_positive a) h (negative_not_positive a e))

not_zero_num : (z : ℤ) → int_lt (pos 0) z ≡ true → int_eq z (pos 0) ≡ false
not_zero_num z h = grind (arith, ints)

pub positive_not_zero : (a : Rational) → is_positive a ≡ true → is_zero a ≡ false
positive_not_zero a h = not_zero_num a.fraction.num h

neither_num : (z : ℤ) → int_eq z (pos 0) ≡ false → int_lt (pos 0) z ≡ false → int_lt z (pos 0) ≡ true
neither_num z h k = grind (arith, ints)

-- what is neither 0 nor positive is negative
pub negative_of : (a : Rational) → is_zero a ≡ false → is_positive a ≡ false → is_negative a ≡ true
negative_of a h k = neither_num a.fraction.num h k

-- ---- order

zero_scaled : (k : ℕ) → pos 0 *ℤ pos k ≡ pos 0
zero_scaled k = omega (arith, ints)

-- z and w have one sign, where z times one positive number is w times another
same_sign : (z w : ℤ) (d e : ℕ) → 0 < d → 0 < e → z *ℤ pos d ≡ w *ℤ pos e → int_lt (pos 0) z ≡ true → int_lt (pos 0) w ≡ true
same_sign z w d e hd he h p =
    lt_of (pos 0) w (<ℤ-unscaled (pos 0) w e (subst (λ (y : ℤ). y <ℤ (w *ℤ pos e)) (sym (zero_scaled e)) (subst (λ (y : ℤ). pos 0 <ℤ y) h (subst (λ (y : ℤ). y <ℤ (z *ℤ pos d)) (zero_scaled d) (<ℤ-scaled (pos 0) z d hd (less_of (pos 0) z p))))))

lowest_positive : (n : ℤ) (d : ℕ) → 0 < d → int_lt (pos 0) (fraction.lowest n d).num ≡ int_lt (pos 0) n
lowest_positive n d h =
    let l = fraction.lowest n d in
    let e = lowest-value n d in
    let p = (lowest-IsLowest n d h).positive in
    both_ways (int_lt (pos 0) l.num) (int_lt (pos 0) n) (same_sign l.num n d l.den h p e) (same_sign n l.num l.den d p h (sym e))

neg-*ℤ : (x y : ℤ) → neg_ℤ x *ℤ y ≡ neg_ℤ (x *ℤ y)
neg-*ℤ = by_diff2 (λ x y. neg_ℤ x *ℤ y ≡ neg_ℤ (x *ℤ y)) (λ a a' b b'. simp (diff-neg, diff-*ℤ) (diff_same _ _ _ _ (omega arith)))

less_moved : (a b : ℤ) (c d : ℕ) → int_lt (a *ℤ pos d) (b *ℤ pos c) ≡ int_lt (pos 0) (b *ℤ pos c +ℤ neg_ℤ a *ℤ pos d)
less_moved a b c d = rw (neg-*ℤ a (pos d)) (differ (a *ℤ pos d) (b *ℤ pos c))
  where
    there : (x y : ℤ) → x <ℤ y → pos 0 <ℤ (y +ℤ neg_ℤ x)
    there x y h = omega (arith, ints)

    back : (x y : ℤ) → pos 0 <ℤ (y +ℤ neg_ℤ x) → x <ℤ y
    back x y h = omega (arith, ints)

    differ : (x y : ℤ) → int_lt x y ≡ int_lt (pos 0) (y +ℤ neg_ℤ x)
    differ x y = both_ways _ _ (λ h. lt_of _ _ (there x y (less_of _ _ h))) (λ h. lt_of _ _ (back x y (less_of _ _ h)))

-- a is less than b where b - a is positive
pub less_is : (a b : Rational) → is_less a b ≡ is_positive (minus b a)
unfolding fraction.sum
less_is a b =
    let x = a.fraction in
    let y = b.fraction in
    less_moved x.num y.num x.den y.den ∙ sym (lowest_positive (y.num *ℤ pos x.den +ℤ neg_ℤ x.num *ℤ pos y.den) (y.den * x.den) (mul-pos b.is_lowest.positive a.is_lowest.positive))
