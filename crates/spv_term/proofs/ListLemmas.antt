-- Facts on lists: an item by its place, and lists that grow by one item made of those before it.
use Rattle.std.proofs.Common.{◌≡◌, ℕ, zero, suc, ◌+◌, ◌<◌, List, [], ◌∷◌, ◌++◌, take, drop, length, get_or, slice_get, fold, Some, refl, ap, ◌∙◌, arith}
use Rattle.std.proofs.lemmas.List.{get_or_append_left, get_or_at, length_push, length-take-le}
use Rattle.std.proofs.lemmas.Option.{slice_get_within}
use Rattle.std.proofs.lemmas.List.Sums.{fold-append}

module _ {X : Type 0} where
  pub slice_get-take : (xs : List X) (i n : ℕ) → i < n → slice_get (take n xs) i ≡ slice_get xs i
  slice_get-take [] i zero h = refl
  slice_get-take [] i (suc n) h = refl
  slice_get-take (x ∷ xs) i zero h = absurd (omega arith)
  slice_get-take (x ∷ xs) zero (suc n) h = refl
  slice_get-take (x ∷ xs) (suc i) (suc n) h = slice_get-take xs i n (omega arith)

  pub slice_get-append_left : (xs ys : List X) (i : ℕ) → i < length xs → slice_get (xs ++ ys) i ≡ slice_get xs i
  slice_get-append_left [] ys i h = absurd (omega arith)
  slice_get-append_left (x ∷ xs) ys zero h = refl
  slice_get-append_left (x ∷ xs) ys (suc i) h = slice_get-append_left xs ys i (omega arith)

  pub slice_get_push : (xs : List X) (y : X) → slice_get (xs ++ y ∷ []) (length xs) ≡ Some y
  slice_get_push [] y = refl
  slice_get_push (x ∷ xs) y = slice_get_push xs y

  -- a list is what stands before an item, the item, and what stands after it
  pub split_at : (xs : List X) (i : ℕ) (x : X) → slice_get xs i ≡ Some x → xs ≡ take i xs ++ x ∷ drop (suc i) xs
  split_at [] i x h = absurd (cc)
  split_at (y ∷ ys) zero x h = let e : y ≡ x = cc in ap (λ z. z ∷ ys) e
  split_at (y ∷ ys) (suc i) x h = ap (λ zs. y ∷ zs) (split_at ys i x h)

-- lists that grow by items, each made of those before it
module _ {A B : Type 0} (f : List B → A → B) where
  -- one item more
  abbrev pub grown : List B → A → List B
  grown xs a = xs ++ f xs a ∷ []

  pub length-grown : (xs : List B) (ys : List A) → length (fold grown xs ys) ≡ length xs + length ys
  length-grown xs [] = omega arith
  length-grown xs (a ∷ ys) = omega (arith, length-grown (grown xs a) ys, length_push xs (f xs a))

  -- the first items stay
  pub get_or-grown : (xs : List B) (ys : List A) (i : ℕ) (d : B) → i < length xs → get_or (fold grown xs ys) i d ≡ get_or xs i d
  get_or-grown xs [] i d h = refl
  get_or-grown xs (a ∷ ys) i d h =
      let more : i < length (grown xs a) = omega (arith, length_push xs (f xs a)) in
      get_or-grown (grown xs a) ys i d more ∙ get_or_append_left xs (f xs a ∷ []) d i h

  -- the item of a place is made of the items before it
  pub get_or-made : (ys : List A) (i : ℕ) (a : A) (d : B) → slice_get ys i ≡ Some a → get_or (fold grown [] ys) i d ≡ f (fold grown [] (take i ys)) a
  get_or-made ys i a d at =
      let within : i < length ys = slice_get_within ys i a at in
      let before = fold grown [] (take i ys) in
      let len : length before ≡ i = omega (arith, length-grown [] (take i ys), length-take-le i ys (omega arith)) in
      let more : i < length (grown before a) = omega (arith, length_push before (f before a)) in
      ap (λ zs. get_or (fold grown [] zs) i d) (split_at ys i a at)
      ∙ ap (λ zs. get_or zs i d) (fold-append grown [] (take i ys) (a ∷ drop (suc i) ys))
      ∙ get_or-grown (grown before a) (drop (suc i) ys) i d more
      ∙ get_or_at before (f before a) [] d i len
