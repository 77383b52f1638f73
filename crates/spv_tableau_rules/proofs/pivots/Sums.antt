-- What sums over columns obey.
use Rattle.std.proofs.Common.{◌≡◌, ℕ, zero, suc, ◌+◌, ◌<◌, Bool, true, false, nat_eq, refl, sym, ap, ◌∙◌, arith, if◌then◌else◌}
use mathlib.Core.Path.{ap₂}
use Rattle.spv_frac.specs.rational.Rational.{Rational, plus, times, opposite, is_positive, is_negative}
use Rattle.spv_frac.proofs.rational.Field.{plus_assoc, plus_zero, zero_plus, plus_middle, times_zero, times_plus}
use Rattle.spv_frac.proofs.rational.Signs.{not_positive_plus}
use Rattle.spv_tableau_rules.specs.tableaux.Numbers.{nothing, sum_to, count_to}
use Rattle.spv_tableau_rules.proofs.pivots.Algebra.{negative_plus, plus_negative, opposite_sum, opposite_nothing}

pub sum_same : (n : ℕ) (f g : ℕ → Rational) → ((c : ℕ) → c < n → f c ≡ g c) → sum_to n f ≡ sum_to n g
sum_same zero f g h = refl
sum_same (suc n) f g h = ap₂ plus (sum_same n f g (λ c k. h c (omega arith))) (h n (omega arith))

pub sum_plus : (n : ℕ) (f g : ℕ → Rational) → sum_to n (λ c. plus (f c) (g c)) ≡ plus (sum_to n f) (sum_to n g)
sum_plus zero f g = sym (plus_zero nothing)
sum_plus (suc n) f g = ap (λ x. plus x (plus (f n) (g n))) (sum_plus n f g) ∙ plus_middle (sum_to n f) (sum_to n g) (f n) (g n)

pub sum_times : (n : ℕ) (k : Rational) (f : ℕ → Rational) → sum_to n (λ c. times k (f c)) ≡ times k (sum_to n f)
sum_times zero k f = sym (times_zero k)
sum_times (suc n) k f = ap (λ x. plus x (times k (f n))) (sum_times n k f) ∙ sym (times_plus k (sum_to n f) (f n))

pub sum_opposite : (n : ℕ) (f : ℕ → Rational) → sum_to n (λ c. opposite (f c)) ≡ opposite (sum_to n f)
sum_opposite zero f = sym opposite_nothing
sum_opposite (suc n) f = ap (λ x. plus x (opposite (f n))) (sum_opposite n f) ∙ sym (opposite_sum (sum_to n f) (f n))

pub sum_nothing : (n : ℕ) (f : ℕ → Rational) → ((c : ℕ) → c < n → f c ≡ nothing) → sum_to n f ≡ nothing
sum_nothing zero f h = refl
sum_nothing (suc n) f h = ap₂ plus (sum_nothing n f (λ c k. h c (omega arith))) (h n (omega arith)) ∙ plus_zero nothing

-- the columns below m + n are those below m and n more
pub sum_split : (m n : ℕ) (f : ℕ → Rational) → sum_to (m + n) f ≡ plus (sum_to m f) (sum_to n (λ i. f (m + i)))
sum_split m zero f = ap (λ k. sum_to k f) (no_more m) ∙ sym (plus_zero (sum_to m f))
  where
    no_more : (m : ℕ) → m + 0 ≡ m
    no_more m = omega arith
sum_split m (suc n) f =
    ap (λ k. sum_to k f) (one_more m n) ∙ ap (λ x. plus x (f (m + n))) (sum_split m n f) ∙ plus_assoc (sum_to m f) (sum_to n (λ i. f (m + i))) (f (m + n))
  where
    one_more : (m n : ℕ) → m + suc n ≡ suc (m + n)
    one_more m n = omega arith

-- a value at one column, and 0 at the others
abbrev pub only : ℕ → Rational → ℕ → Rational
only a k c = if nat_eq c a then k else nothing

pub only_here : (a c : ℕ) (k : Rational) → nat_eq c a ≡ true → only a k c ≡ k
only_here a c k e = rw e refl

pub only_there : (a c : ℕ) (k : Rational) → nat_eq c a ≡ false → only a k c ≡ nothing
only_there a c k e = rw e refl

pub apart : (a b : ℕ) → a < b → nat_eq a b ≡ false
apart a b h = grind arith

pub apart_above : (a b : ℕ) → b < a → nat_eq a b ≡ false
apart_above a b h = grind arith

pub eq_self : (a : ℕ) → nat_eq a a ≡ true
eq_self a = grind arith

pub eq_is : (a b : ℕ) → nat_eq a b ≡ true → a ≡ b
eq_is a b h = grind arith

pub eq_flip : (a b : ℕ) → nat_eq a b ≡ false → nat_eq b a ≡ false
eq_flip a b h = grind arith

pub sum_only : (n a : ℕ) (k : Rational) → a < n → sum_to n (only a k) ≡ k
sum_only zero a k h = absurd (omega arith)
sum_only (suc n) a k h = by_case (λ below. sum_only n a k below) (nat_eq n a) refl
  where
    by_case : (a < n → sum_to n (only a k) ≡ k) → (b : Bool) → nat_eq n a ≡ b → plus (sum_to n (only a k)) (only a k n) ≡ k
    by_case before true e =
        ap₂ plus (sum_nothing n (only a k) (λ c below. only_there a c k (below_is c below (eq_is n a e)))) (only_here a n k e) ∙ zero_plus k
      where
        below_is : (c : ℕ) → c < n → n ≡ a → nat_eq c a ≡ false
        below_is c below is = apart c a (omega (arith, is))
    by_case before false e = ap₂ plus (before (nearer n a h e)) (only_there a n k e) ∙ plus_zero k
      where
        nearer : (n a : ℕ) → a < suc n → nat_eq n a ≡ false → a < n
        nearer n a h e = grind arith

pub sum_two : (n a b : ℕ) (f : ℕ → Rational) (k m : Rational) → a < n → b < n → ((c : ℕ) → c < n → f c ≡ plus (only a k c) (only b m c)) → sum_to n f ≡ plus k m
sum_two n a b f k m ha hb each =
    sum_same n f (λ c. plus (only a k c) (only b m c)) each ∙ sum_plus n (only a k) (only b m) ∙ ap₂ plus (sum_only n a k ha) (sum_only n b m hb)

-- ---- signs

pub sum_not_positive : (n : ℕ) (f : ℕ → Rational) → ((c : ℕ) → c < n → is_positive (f c) ≡ false) → is_positive (sum_to n f) ≡ false
sum_not_positive zero f h = refl
sum_not_positive (suc n) f h = not_positive_plus (sum_to n f) (f n) (sum_not_positive n f (λ c k. h c (omega arith))) (h n (omega arith))

-- a sum of numbers that are not positive, one of them negative
pub sum_negative : (n a : ℕ) (f : ℕ → Rational) → a < n → is_negative (f a) ≡ true → ((c : ℕ) → c < n → is_positive (f c) ≡ false) → is_negative (sum_to n f) ≡ true
sum_negative zero a f h negative each = absurd (omega arith)
sum_negative (suc n) a f h negative each = by_case (λ below. sum_negative n a f below negative (λ c k. each c (omega arith))) (nat_eq n a) refl
  where
    by_case : (a < n → is_negative (sum_to n f) ≡ true) → (b : Bool) → nat_eq n a ≡ b → is_negative (sum_to (suc n) f) ≡ true
    by_case before true e =
        plus_negative (sum_to n f) (f n) (sum_not_positive n f (λ c k. each c (omega arith))) (ap (λ x. is_negative (f x)) (eq_is n a e) ∙ negative)
    by_case before false e = negative_plus (sum_to n f) (f n) (before (nearer n a h e)) (each n (omega arith))
      where
        nearer : (n a : ℕ) → a < suc n → nat_eq n a ≡ false → a < n
        nearer n a h e = grind arith

-- ---- counts

pub count_same : (n : ℕ) (f g : ℕ → Bool) → ((c : ℕ) → c < n → f c ≡ g c) → count_to n f ≡ count_to n g
count_same zero f g h = refl
count_same (suc n) f g h =
    ap₂ (λ (b : Bool) (k : ℕ). if b then suc k else k) (h n (omega arith)) (count_same n f g (λ c k. h c (omega arith)))

-- one column more passes the second test
pub count_more : (n a : ℕ) (f g : ℕ → Bool) → a < n → f a ≡ false → g a ≡ true → ((c : ℕ) → c < n → nat_eq c a ≡ false → f c ≡ g c) → count_to n g ≡ suc (count_to n f)
count_more zero a f g h out into others = absurd (omega arith)
count_more (suc n) a f g h out into others = by_case (λ below. count_more n a f g below out into (λ c k. others c (omega arith))) (nat_eq n a) refl
  where
    by_case : (a < n → count_to n g ≡ suc (count_to n f)) → (b : Bool) → nat_eq n a ≡ b → count_to (suc n) g ≡ suc (count_to (suc n) f)
    by_case before true e =
        ap₂ (λ (b : Bool) (k : ℕ). if b then suc k else k) (ap g (eq_is n a e) ∙ into) (sym (count_same n f g (λ c below. others c (omega arith) (below_is c below (eq_is n a e)))))
        ∙ sym (ap suc (ap (λ (b : Bool). if b then suc (count_to n f) else count_to n f) (ap f (eq_is n a e) ∙ out)))
      where
        below_is : (c : ℕ) → c < n → n ≡ a → nat_eq c a ≡ false
        below_is c below is = apart c a (omega (arith, is))
    by_case before false e =
        ap₂ (λ (b : Bool) (k : ℕ). if b then suc k else k) (sym (others n (omega arith) e)) (before (nearer n a h e))
        ∙ swapped (f n) (count_to n f)
      where
        nearer : (n a : ℕ) → a < suc n → nat_eq n a ≡ false → a < n
        nearer n a h e = grind arith

        swapped : (b : Bool) (k : ℕ) → (if b then suc (suc k) else suc k) ≡ suc (if b then suc k else k)
        swapped true k = refl
        swapped false k = refl

pub count_split : (m n : ℕ) (f : ℕ → Bool) → count_to (m + n) f ≡ count_to m f + count_to n (λ i. f (m + i))
count_split m zero f = ap (λ k. count_to k f) (no_more m) ∙ sym (no_more (count_to m f))
  where
    no_more : (m : ℕ) → m + 0 ≡ m
    no_more m = omega arith
count_split m (suc n) f = ap (λ k. count_to k f) (one_more m n) ∙ by_case (count_split m n f) (f (m + n)) refl
  where
    one_more : (m n : ℕ) → m + suc n ≡ suc (m + n)
    one_more m n = omega arith

    by_case : count_to (m + n) f ≡ count_to m f + count_to n (λ i. f (m + i)) → (b : Bool) → f (m + n) ≡ b → count_to (suc (m + n)) f ≡ count_to m f + count_to (suc n) (λ i. f (m + i))
    by_case before true e = rw (e, before) (more (count_to m f) (count_to n (λ i. f (m + i))))
      where
        more : (a b : ℕ) → suc (a + b) ≡ a + suc b
        more a b = omega arith
    by_case before false e = rw (e, before) refl

pub count_all : (n : ℕ) (f : ℕ → Bool) → ((c : ℕ) → c < n → f c ≡ true) → count_to n f ≡ n
count_all zero f h = refl
count_all (suc n) f h = rw (h n (omega arith)) (ap suc (count_all n f (λ c k. h c (omega arith))))

pub count_none : (n : ℕ) (f : ℕ → Bool) → ((c : ℕ) → c < n → f c ≡ false) → count_to n f ≡ 0
count_none zero f h = refl
count_none (suc n) f h = rw (h n (omega arith)) (count_none n f (λ c k. h c (omega arith)))
