-- Words that stand in a list already are found where they were.
use Rattle.std.proofs.Common.{◌≡◌, ℕ, ◌+◌, Bool, true, false, ◌||◌, cond, Some, None, List, [], ◌∷◌, ◌++◌, position, refl, sym, ap, ◌∙◌}
use Rattle.std.specs.BTreeMap.{BTreeMap}
use Rattle.std.specs.List.{list_any, position_from}
use Rattle.std.specs.Str.{bytes_eq}
use Rattle.std.proofs.lemmas.Bool.{false≢true}
use Rattle.std.proofs.lemmas.Iterator.Adapters.{position_from-zero}
use Rattle.std.proofs.lemmas.Slice.Eq.{bytes_eq-Decides}
use Rattle.spv_listing_values.specs.Interned.{ArePlaces}

position_from-known : {A : Type 0} (p : A → Bool) (i : ℕ) (xs : List A) (y : A) → (p y ≡ true → list_any p xs ≡ true) → position_from p i (xs ++ y ∷ []) ≡ position_from p i xs
position_from-known p i [] y known = by (p y) refl
  where
    by : (b : Bool) → p y ≡ b → cond (p y) (Some i) None ≡ None
    by true e = absurd (false≢true (known e))
    by false e = ap (λ b. cond b (Some i) None) e
position_from-known p i (x ∷ xs) y known = by (p x) refl (position_from-known p (i + 1) xs y)
  where
    by : (b : Bool) → p x ≡ b → ((p y ≡ true → list_any p xs ≡ true) → position_from p (i + 1) (xs ++ y ∷ []) ≡ position_from p (i + 1) xs)
        → cond (p x) (Some i) (position_from p (i + 1) (xs ++ y ∷ [])) ≡ cond (p x) (Some i) (position_from p (i + 1) xs)
    by true e rest = ap (λ b. cond b (Some i) (position_from p (i + 1) (xs ++ y ∷ []))) e ∙ ap (λ b. cond b (Some i) (position_from p (i + 1) xs)) (sym e)
    by false e rest = ap (λ o. cond (p x) (Some i) o) (rest (λ h. sym (ap (λ b. b || list_any p xs) e) ∙ known h))

position-known : {A : Type 0} (p : A → Bool) (xs : List A) (y : A) → (p y ≡ true → list_any p xs ≡ true) → position p (xs ++ y ∷ []) ≡ position p xs
position-known p xs y known = position_from-zero p (xs ++ y ∷ []) ∙ (position_from-known p 0 xs y known ∙ sym (position_from-zero p xs))

-- a word that is known needs no place
pub places-known : {K : Type 0} (key_of : K → List ℕ) (places : BTreeMap K ℕ) (words : List (List ℕ)) (word : List ℕ) → ArePlaces key_of places words → list_any (bytes_eq word) words ≡ true
    → ArePlaces key_of places (words ++ word ∷ [])
places-known key_of places words word are known = record {
  each = λ q. are.each q ∙ sym (position-known (bytes_eq q) words word (λ same. ap (λ (l : List ℕ). list_any (bytes_eq l) words) ((bytes_eq-Decides q word).0 same) ∙ known));
}
