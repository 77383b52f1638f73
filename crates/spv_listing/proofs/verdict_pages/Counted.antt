-- Counting as far as a place.
use Rattle.std.proofs.Common.{◌≡◌, ℕ, zero, suc, ◌<◌, ◌≤◌, ◌+◌, Bool, true, false, List, [], ◌∷◌, length, take, get_or, refl, sym, ap, ◌∙◌, arith}
use Rattle.std.specs.Prelude.{cond}
use Rattle.std.specs.List.{count_by}
use Rattle.std.proofs.lemmas.List.Sums.{sum_by-cons}

nowhere : (k : ℕ) → k < 0 → ⊥
nowhere k h = omega (arith, h)

abbrev weight : {X : Type 0} → (X → Bool) → X → ℕ
weight p x = cond (p x) 1 0

counted_cons : {X : Type 0} (p : X → Bool) (x : X) (xs : List X) → count_by p (x ∷ xs) ≡ weight p x + count_by p xs
counted_cons p x xs = sum_by-cons (weight p) x xs

small : (b : Bool) → cond b 1 0 ≤ 1
small true = omega arith
small false = omega arith

more : {X : Type 0} (p : X → Bool) (xs : List X) (k : ℕ) (d : X) → k < length xs → count_by p (take (k + 1) xs) ≡ count_by p (take k xs) + weight p (get_or xs k d)
more {X = X} p xs k d h = ap (λ n. count_by p (take n xs)) (next k) ∙ go xs k h
  where
    next : (n : ℕ) → n + 1 ≡ suc n
    next n = omega arith

    grouped : (w a b c : ℕ) → a ≡ b + c → w + a ≡ (w + b) + c
    grouped w a b c e = omega (arith, e)

    plain : (w : ℕ) → w + 0 ≡ 0 + w
    plain w = omega arith

    go : (ys : List X) (n : ℕ) → n < length ys → count_by p (take (suc n) ys) ≡ count_by p (take n ys) + weight p (get_or ys n d)
    go [] n b = absurd (nowhere n b)
    go (y ∷ ys) zero b = counted_cons p y [] ∙ plain (weight p y)
    go (y ∷ ys) (suc n) b =
        counted_cons p y (take (suc n) ys)
        ∙ grouped (weight p y) (count_by p (take (suc n) ys)) (count_by p (take n ys)) (weight p (get_or ys n d)) (go ys n (omega (arith, b)))
        ∙ ap (λ m. m + weight p (get_or ys n d)) (sym (counted_cons p y (take n ys)))

-- one item more was looked at
pub tallied : {X : Type 0} (p : X → Bool) (xs : List X) (k old one : ℕ) (item : X) → k < length xs → item ≡ get_or xs k item → old ≡ count_by p (take k xs) → one ≡ cond (p item) 1 0
    → old + one ≡ count_by p (take (k + 1) xs)
tallied p xs k old one item h is so_far here =
    (λ j. so_far j + here j) ∙ (ap (λ x. count_by p (take k xs) + weight p x) is ∙ sym (more p xs k item h))

-- all were
pub tallied_all : {X : Type 0} (p : X → Bool) (xs : List X) (k n : ℕ) → length xs ≤ k → n ≡ count_by p (take k xs) → n ≡ count_by p xs
tallied_all {X = X} p xs k n h e = e ∙ ap (count_by p) (all xs k h)
  where
    none : (i : ℕ) → suc i ≤ 0 → ⊥
    none i b = omega (arith, b)

    all : (ys : List X) (m : ℕ) → length ys ≤ m → take m ys ≡ ys
    all [] zero b = refl
    all [] (suc m) b = refl
    all (y ∷ ys) zero b = absurd (none (length ys) b)
    all (y ∷ ys) (suc m) b = ap (λ l. y ∷ l) (all ys m (omega (arith, b)))
