-- Lists that are gone through.
use Rattle.std.proofs.Common.{◌≡◌, ℕ, zero, suc, ◌+◌, ◌<◌, Bool, true, false, ◌&&◌, cond, List, [], ◌∷◌, ◌++◌, map, length, take, get_or, refl, sym, ap, ◌∙◌, arith}
use Rattle.std.specs.List.{list_all, filter}
use Rattle.std.proofs.lemmas.List.{map-append, take_more}

-- equal images of two lists are equal at each place
pub mapped-at : {A B C : Type 0} (f : A → C) (g : B → C) (xs : List A) (ys : List B) → map f xs ≡ map g ys → (k : ℕ) → k < length xs → (d : A) (e : B) → f (get_or xs k d) ≡ g (get_or ys k e)
mapped-at f g [] ys h k lt d e = absurd (omega (arith, lt))
mapped-at f g (x ∷ xs) [] h k lt d e = absurd cc
mapped-at f g (x ∷ xs) (y ∷ ys) h zero lt d e = cc
mapped-at f g (x ∷ xs) (y ∷ ys) h (suc k) lt d e = let rest : map f xs ≡ map g ys = cc in mapped-at f g xs ys rest k (omega (arith, lt)) d e

-- and at one more
pub mapped-more : {A B C : Type 0} (f : A → C) (g : B → C) (xs : List A) (i : ℕ) (ys more : List B) (d : A) (y : B) → i < length xs → map f (take i xs) ≡ map g ys → f (get_or xs i d) ≡ g y → more ≡ ys ++ y ∷ []
    → map f (take (i + 1) xs) ≡ map g more
mapped-more f g xs i ys more d y lt before here add =
    ap (map f) (take_more xs i d lt)
    ∙ (map-append f (take i xs) (get_or xs i d ∷ [])
    ∙ ((λ j. before j ++ here j ∷ []) ∙ (sym (map-append g ys (y ∷ [])) ∙ ap (map g) (sym add))))

-- a test that fails at a place fails of all
pub all-fails : {A : Type 0} (p : A → Bool) (xs : List A) (k : ℕ) (d : A) → k < length xs → p (get_or xs k d) ≡ false → list_all p xs ≡ false
all-fails p [] k d lt h = absurd (omega (arith, lt))
all-fails p (x ∷ xs) zero d lt h = ap (λ b. b && list_all p xs) h
all-fails p (x ∷ xs) (suc k) d lt h = by (p x) (all-fails p xs k d (omega (arith, lt)) h)
  where
    by : (b : Bool) → list_all p xs ≡ false → (b && list_all p xs) ≡ false
    by true e = e
    by false e = refl

-- what passes a test among the first items, and one more
filter-append : {A : Type 0} (p : A → Bool) (xs : List A) (y : A) → filter p (xs ++ y ∷ []) ≡ filter p xs ++ cond (p y) (y ∷ []) []
filter-append p [] y = refl
filter-append p (x ∷ xs) y = by (p x) (filter-append p xs y)
  where
    by : (b : Bool) → filter p (xs ++ y ∷ []) ≡ filter p xs ++ cond (p y) (y ∷ []) []
        → cond b (x ∷ filter p (xs ++ y ∷ [])) (filter p (xs ++ y ∷ [])) ≡ cond b (x ∷ filter p xs) (filter p xs) ++ cond (p y) (y ∷ []) []
    by true e = ap (λ l. x ∷ l) e
    by false e = e

pub filter-more : {A B : Type 0} (p : B → Bool) (f : A → B) (xs : List A) (i : ℕ) (d x : A) → i < length xs → get_or xs i d ≡ x
    → filter p (map f (take (i + 1) xs)) ≡ filter p (map f (take i xs)) ++ cond (p (f x)) (f x ∷ []) []
filter-more p f xs i d x lt is =
    ap (λ l. filter p (map f l)) (take_more xs i d lt)
    ∙ (ap (filter p) (map-append f (take i xs) (get_or xs i d ∷ []))
    ∙ (filter-append p (map f (take i xs)) (f (get_or xs i d)) ∙ ap (λ y. filter p (map f (take i xs)) ++ cond (p (f y)) (f y ∷ []) []) is))
