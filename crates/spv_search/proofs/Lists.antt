-- Lists that are cut and pushed.
use Rattle.std.proofs.Common.{◌≡◌, ◌⊎◌, ℕ, zero, suc, ◌<◌, ◌≤◌, List, [], ◌∷◌, ◌++◌, take, length, refl, ap, ◌∙◌, Some, inl, inr, arith}
use Rattle.std.specs.Prelude.{slice_get}
use Rattle.std.proofs.lemmas.Option.{same_Some}
use Rattle.std.proofs.lemmas.List.{length-take-le, take-append-le}

-- what stands at a place of a list with one item more: one of the others, or that item
pub push_cases : {A : Type 0} (xs : List A) (x y : A) (i : ℕ) → slice_get (xs ++ x ∷ []) i ≡ Some y → ((i < length xs) × (slice_get xs i ≡ Some y)) ⊎ ((i ≡ length xs) × (x ≡ y))
push_cases [] x y zero e = inr (refl, same_Some x y e)
push_cases [] x y (suc i) e = absurd (cc)
push_cases (z ∷ xs) x y zero e = inl (omega arith, e)
push_cases (z ∷ xs) x y (suc i) e = up (push_cases xs x y i e)
  where
    up : ((i < length xs) × (slice_get xs i ≡ Some y)) ⊎ ((i ≡ length xs) × (x ≡ y)) → ((suc i < suc (length xs)) × (slice_get xs i ≡ Some y)) ⊎ ((suc i ≡ suc (length xs)) × (x ≡ y))
    up (inl h) = inl (let k = h.0 in omega (arith, k), h.1)
    up (inr h) = inr (ap (λ (k : ℕ). suc k) h.0, h.1)

-- what stands in the first items stands in all of them
pub take_at : {A : Type 0} (n : ℕ) (xs : List A) (y : A) (i : ℕ) → slice_get (take n xs) i ≡ Some y → slice_get xs i ≡ Some y
take_at zero [] y i e = e
take_at zero (x ∷ xs) y i e = absurd (cc)
take_at (suc n) [] y i e = e
take_at (suc n) (x ∷ xs) y zero e = e
take_at (suc n) (x ∷ xs) y (suc i) e = take_at n xs y i e

pub at_within : {A : Type 0} (xs : List A) (y : A) (i : ℕ) → slice_get xs i ≡ Some y → i < length xs
at_within [] y i e = absurd (cc)
at_within (x ∷ xs) y zero e = omega arith
at_within (x ∷ xs) y (suc i) e = let k = at_within xs y i e in omega (arith, k)

pub take_all : {A : Type 0} (xs : List A) → take (length xs) xs ≡ xs
take_all [] = refl
take_all (x ∷ xs) = ap (λ ys. x ∷ ys) (take_all xs)

take_take : {A : Type 0} (m n : ℕ) (xs : List A) → m ≤ n → take m (take n xs) ≡ take m xs
take_take zero zero [] h = refl
take_take zero zero (x ∷ xs) h = refl
take_take zero (suc n) [] h = refl
take_take zero (suc n) (x ∷ xs) h = refl
take_take (suc m) zero xs h = absurd (omega (arith, h))
take_take (suc m) (suc n) [] h = refl
take_take (suc m) (suc n) (x ∷ xs) h = ap (λ ys. x ∷ ys) (take_take m n xs (omega (arith, h)))

-- the first items of the first ones with one more behind them
pub take_front : {A : Type 0} (n k : ℕ) (xs : List A) (y : A) → k ≤ n → n ≤ length xs → take k (take n xs ++ y ∷ []) ≡ take k xs
take_front n k xs y h l =
    let long = length-take-le n xs l in
    take-append-le k (take n xs) (y ∷ []) (omega (arith, h, long)) ∙ take_take k n xs h

pub append_none : {A : Type 0} (xs : List A) → xs ++ [] ≡ xs
append_none [] = refl
append_none (x ∷ xs) = ap (λ ys. x ∷ ys) (append_none xs)
