-- Facts on lists.
use Rattle.std.proofs.Common.{◌≡◌, ◌≢◌, ℕ, zero, suc, ◌+◌, ◌<◌, ◌≤◌, Bool, true, false, nat_eq, List, [], ◌∷◌, ◌++◌, take, drop, length, get_or, set, slice_get, Option, Some, None, refl, sym, ap, subst, ◌∙◌, arith, inl, inr, ◌⊎◌}
use Rattle.std.proofs.lemmas.List.{append_assoc, append-nil, length_push, take-append-le, take_at, take_all}
use Rattle.std.proofs.lemmas.Bool.{false≢true}
use Rattle.std.proofs.lemmas.Bool.Decides.{nat_tests}

-- induction from the end of a list
module _ {A : Type 0} (P : List A → Type 0) (step : (xs : List A) (x : A) → P xs → P (xs ++ x ∷ [])) where
  from_front : (front rest : List A) → P front → P (front ++ rest)
  from_front front [] h = subst P (sym (append-nil front)) h
  from_front front (x ∷ rest) h = subst P (append_assoc front (x ∷ []) rest) (from_front (front ++ x ∷ []) rest (step front x h))

  pub by_last : P [] → (xs : List A) → P xs
  by_last h xs = from_front [] xs h

pub same_or_apart : (x y : ℕ) → (x ≡ y) ⊎ (x ≢ y)
same_or_apart x y = by (nat_eq x y) refl
  where
    by : (b : Bool) → nat_eq x y ≡ b → (x ≡ y) ⊎ (x ≢ y)
    by true e = inl (grind (arith, nat_tests))
    by false e = inr (λ f. false≢true (sym e ∙ (ap (λ z. nat_eq z y) f ∙ same y)))
      where
        same : (z : ℕ) → nat_eq z z ≡ true
        same z = grind (arith, nat_tests)

pub nat_same : (x : ℕ) → nat_eq x x ≡ true
nat_same x = grind (arith, nat_tests)

pub nat_apart : (x y : ℕ) → x ≢ y → nat_eq x y ≡ false
nat_apart x y h = by (nat_eq x y) refl
  where
    by : (b : Bool) → nat_eq x y ≡ b → nat_eq x y ≡ false
    by true e = absurd (h (grind (arith, nat_tests)))
    by false e = e

module _ {X : Type 0} where
  pub get_push : (xs : List X) (y : X) → slice_get (xs ++ y ∷ []) (length xs) ≡ Some y
  get_push [] y = refl
  get_push (x ∷ xs) y = get_push xs y

  pub get_left : (xs ys : List X) (i : ℕ) → i < length xs → slice_get (xs ++ ys) i ≡ slice_get xs i
  get_left [] ys i h = absurd (omega arith)
  get_left (x ∷ xs) ys zero h = refl
  get_left (x ∷ xs) ys (suc i) h = get_left xs ys i (omega arith)

  pub get_within : (xs : List X) (i : ℕ) (x : X) → slice_get xs i ≡ Some x → i < length xs
  get_within [] i x h = absurd (cc)
  get_within (y ∷ ys) zero x h = omega arith
  get_within (y ∷ ys) (suc i) x h = omega (arith, get_within ys i x h)

  pub get_take : (xs : List X) (i n : ℕ) → i < n → slice_get (take n xs) i ≡ slice_get xs i
  get_take [] i zero h = refl
  get_take [] i (suc n) h = refl
  get_take (x ∷ xs) i zero h = absurd (omega arith)
  get_take (x ∷ xs) zero (suc n) h = refl
  get_take (x ∷ xs) (suc i) (suc n) h = get_take xs i n (omega arith)

  pub got : (xs : List X) (i : ℕ) → i < length xs → (x : X) × (slice_get xs i ≡ Some x)
  got [] i h = absurd (omega arith)
  got (x ∷ xs) zero h = (x, refl)
  got (x ∷ xs) (suc i) h = got xs i (omega arith)

  -- an item of a list with one more at the end
  pub of_push : (P : ℕ → X → Type 0) (xs : List X) (y : X) → ((i : ℕ) (x : X) → slice_get xs i ≡ Some x → P i x) → P (length xs) y
      → (i : ℕ) (x : X) → slice_get (xs ++ y ∷ []) i ≡ Some x → P i x
  of_push P xs y old new i x at = by (below i (length xs))
    where
      below : (i n : ℕ) → (i < n) ⊎ (n ≤ i)
      below i zero = inr (omega arith)
      below zero (suc n) = inl (omega arith)
      below (suc i) (suc n) = step (below i n)
        where
          step : (i < n) ⊎ (n ≤ i) → (suc i < suc n) ⊎ (suc n ≤ suc i)
          step (inl h) = inl (omega arith)
          step (inr h) = inr (omega arith)

      by : (i < length xs) ⊎ (length xs ≤ i) → P i x
      by (inl h) = old i x (sym (get_left xs (y ∷ []) i h) ∙ at)
      by (inr h) =
          let w : i < length (xs ++ y ∷ []) = get_within (xs ++ y ∷ []) i x at in
          let e : i ≡ length xs = omega (arith, length_push xs y) in
          let f : slice_get (xs ++ y ∷ []) (length xs) ≡ Some x = subst (λ k. slice_get (xs ++ y ∷ []) k ≡ Some x) e at in
          let g : y ≡ x = one (sym (get_push xs y) ∙ f) in
          subst (λ z. P i z) g (subst (λ k. P k y) (sym e) new)
        where
          one : Some y ≡ Some x → y ≡ x
          one h = cc

  pub take_push : (n : ℕ) (xs : List X) (y : X) → n ≤ length xs → take n (xs ++ y ∷ []) ≡ take n xs
  take_push n xs y h = take-append-le n xs (y ∷ []) h

  pub take_whole : (xs ys : List X) → take (length xs) (xs ++ ys) ≡ xs
  take_whole xs ys = take_at xs ys (length xs) refl
