-- Whole numbers as differences of two naturals, for identities of sums and products.
use Rattle.std.proofs.Common.{◌≡◌, ◌≢◌, ◌+◌, ◌*◌, ◌<◌, ℕ, ◌∙◌, ap, subst, arith, ℤ, pos, negsuc, ◌+ℤ◌, ◌*ℤ◌, ◌-ℤ◌, neg_ℤ, ◌<ℤ◌}
use Rattle.std.proofs.Math.Nat.{mul-lt-mul_of_pos_right, lt_of_mul-lt-mul_right}
use Rattle.std.proofs.lemmas.Int.{ints}
use Rattle.std.specs.Prelude.{unsigned_abs}
use borrow.Author.Differences.{up, down, same_in, sum_is_lem, neg_is, product_is}

-- a - b
unfoldable pub diff : ℕ → ℕ → ℤ
diff a b = pos a -ℤ pos b

pub diff-diff : (z : ℤ) → diff (up z) (down z) ≡ z
unfolding diff
diff-diff (pos n) = omega (arith, ints)
diff-diff (negsuc n) = omega (arith, ints)

-- what holds of all differences holds of all whole numbers
pub by_diff : (P : ℤ → Type 0) → ((a b : ℕ) → P (diff a b)) → (z : ℤ) → P z
by_diff P h z = subst P (diff-diff z) (h (up z) (down z))

pub by_diff2 : (P : ℤ → ℤ → Type 0) → ((a a' b b' : ℕ) → P (diff a a') (diff b b')) → (x y : ℤ) → P x y
by_diff2 P h x y = by_diff (λ x. P x y) (λ a a'. by_diff (P (diff a a')) (h a a') y) x

pub by_diff3 : (P : ℤ → ℤ → ℤ → Type 0) → ((a a' b b' c c' : ℕ) → P (diff a a') (diff b b') (diff c c')) → (x y z : ℤ) → P x y z
by_diff3 P h x y z = by_diff (λ x. P x y z) (λ a a'. by_diff2 (P (diff a a')) (h a a') y z) x

pub diff_same : (a b c d : ℕ) → a + d ≡ c + b → diff a b ≡ diff c d
unfolding diff
diff_same a b c d e = omega (arith, ints)

pub pos_is : (n : ℕ) → pos n ≡ diff n 0
unfolding diff
pos_is n = omega (arith, ints)

pub diff-+ℤ : (a b c d : ℕ) → diff a b +ℤ diff c d ≡ diff (a + c) (b + d)
unfolding diff
diff-+ℤ a b c d = omega (arith, ints)

pub diff-neg : (a b : ℕ) → neg_ℤ (diff a b) ≡ diff b a
unfolding diff
diff-neg a b = omega (arith, ints)

diff-parts : (a b : ℕ) → a + down (diff a b) ≡ up (diff a b) + b
unfolding diff
diff-parts a b = omega (arith, sum_is_lem (pos a) (neg_ℤ (pos b)), neg_is (pos b))

pub diff-*ℤ : (a b c d : ℕ) → diff a b *ℤ diff c d ≡ diff (a * c + b * d) (a * d + b * c)
diff-*ℤ a b c d =
    let x = diff a b in
    let y = diff c d in
    let left = diff-parts a b in
    let right = diff-parts c d in
    let whole = diff-parts (a * c + b * d) (a * d + b * c) in
    same_in (x *ℤ y) (diff (a * c + b * d) (a * d + b * c))
    (omega (arith, product_is x y, whole, ap (λ (t : ℕ). c * t) left, ap (λ (t : ℕ). d * t) left, ap (λ (t : ℕ). up x * t) right, ap (λ (t : ℕ). down x * t) right))

pub *ℤ_assoc : (a b c : ℤ) → a *ℤ b *ℤ c ≡ a *ℤ (b *ℤ c)
*ℤ_assoc = by_diff3 (λ a b c. a *ℤ b *ℤ c ≡ a *ℤ (b *ℤ c)) (λ a a' b b' c c'. simp diff-*ℤ (diff_same _ _ _ _ (omega arith)))

pub *ℤ-+ℤ : (a b c : ℤ) → a *ℤ (b +ℤ c) ≡ a *ℤ b +ℤ a *ℤ c
*ℤ-+ℤ = by_diff3 (λ a b c. a *ℤ (b +ℤ c) ≡ a *ℤ b +ℤ a *ℤ c) (λ a a' b b' c c'. simp (diff-*ℤ, diff-+ℤ) (diff_same _ _ _ _ (omega arith)))

-- ---- a natural factor

pub diff-*ℤ-pos : (a b c : ℕ) → diff a b *ℤ pos c ≡ diff (a * c) (b * c)
diff-*ℤ-pos a b c = ap (λ z. diff a b *ℤ z) (pos_is c) ∙ diff-*ℤ a b c 0 ∙ diff_same _ _ _ _ (omega arith)

pub diff_less : (a b c d : ℕ) → a + d < c + b → diff a b <ℤ diff c d
unfolding diff
diff_less a b c d h = omega (arith, ints)

pub less_diff : (a b c d : ℕ) → diff a b <ℤ diff c d → a + d < c + b
unfolding diff
less_diff a b c d h = omega (arith, ints)

scaled_diff : (a a' b b' k : ℕ) → 0 < k → a + b' < b + a' → (diff a a' *ℤ pos k) <ℤ (diff b b' *ℤ pos k)
scaled_diff a a' b b' k positive h =
    rw (diff-*ℤ-pos a a' k, diff-*ℤ-pos b b' k) (diff_less (a * k) (a' * k) (b * k) (b' * k) (omega (arith, mul-lt-mul_of_pos_right h positive)))

-- a positive factor keeps the order
pub <ℤ-scaled : (x y : ℤ) (k : ℕ) → 0 < k → x <ℤ y → (x *ℤ pos k) <ℤ (y *ℤ pos k)
<ℤ-scaled x y k positive = by_diff2 (λ x y. x <ℤ y → (x *ℤ pos k) <ℤ (y *ℤ pos k)) (λ a a' b b' h. scaled_diff a a' b b' k positive (less_diff a a' b b' h)) x y

unscaled_diff : (a a' b b' k : ℕ) → (diff a a' *ℤ pos k) <ℤ (diff b b' *ℤ pos k) → diff a a' <ℤ diff b b'
unscaled_diff a a' b b' k h =
    let less : a * k + b' * k < b * k + a' * k = less_diff _ _ _ _ (rw (diff-*ℤ-pos a a' k, diff-*ℤ-pos b b' k) at h) in
    diff_less a a' b b' (lt_of_mul-lt-mul_right k (omega arith))

pub <ℤ-unscaled : (x y : ℤ) (k : ℕ) → (x *ℤ pos k) <ℤ (y *ℤ pos k) → x <ℤ y
<ℤ-unscaled x y k = by_diff2 (λ x y. (x *ℤ pos k) <ℤ (y *ℤ pos k) → x <ℤ y) (λ a a' b b'. unscaled_diff a a' b b' k) x y

pub pos-unsigned_abs : (z : ℤ) → pos 0 <ℤ z → pos (unsigned_abs z) ≡ z
pos-unsigned_abs z h = omega (arith, ints)

pub nonzero_abs : (z : ℤ) → z ≢ pos 0 → 0 < unsigned_abs z
nonzero_abs z h = omega (arith, ints, h)
