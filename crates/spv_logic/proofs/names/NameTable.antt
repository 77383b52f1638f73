-- What the code asks of the definitions on tables of names.
use Rattle.std.proofs.Common.{◌≡◌, ◌≢◌, ◌<◌, ◌+◌, ◌||◌, ℕ, suc, Bool, true, false, cond, not, List, [], ◌∷◌, ◌++◌, map, length, Some, slice_get, position, None, nat_lt, slice_index_or, if◌then◌else◌, Contains, Result, Ok, Err, IfOk, OnOk, refl, sym, ap, subst, ◌∙◌, true≢false, arith}
use Rattle.std.specs.List.{list_any, position_or_len}
use Rattle.std.specs.Str.{bytes_eq}
use Rattle.std.proofs.lemmas.Slice.Eq.{bytes_eq-Decides}
use Rattle.std.proofs.lemmas.List.{length-append, length-map}
use Rattle.std.proofs.lemmas.Option.{slice_get_within, slice_get_read, slice_get-map, get_or_from_slice_get, slice_get-get_or}
use Rattle.std.proofs.lemmas.List.Elements.{All-push}
use Rattle.std.proofs.lemmas.List.Quantifiers.{all_pairs_push}
use Rattle.std.proofs.lemmas.List.Folds.{list_any_at}
use Rattle.std.proofs.Math.Numerals.{one-add}
use Rattle.std.specs.Char.{is_ascii_lowercase, to_ascii_uppercase}
use Rattle.std.proofs.lemmas.Bool.Decides.{nat_tests}
use Rattle.spv_logic.specs.names.Names.{IsFolded, folded, IsNameTable, place_of, with_text}

-- a test through `map`
pub list_any-map : {A B : Type 0} (p : B → Bool) (f : A → B) (xs : List A) → list_any p (map f xs) ≡ list_any (λ x. p (f x)) xs
list_any-map p f [] = refl
list_any-map p f (x ∷ xs) = ap (λ b. p (f x) || b) (list_any-map p f xs)

-- a text that stands somewhere is found
pub found_at : (texts : List (List ℕ)) (text : List ℕ) (i : ℕ) → slice_get texts i ≡ Some text → list_any (bytes_eq text) texts ≡ true
found_at texts text i at =
    let within = slice_get_within texts i text at in
    let here = get_or_from_slice_get texts i text text at in
    list_any_at (bytes_eq text) texts i text within (rw here ((bytes_eq-Decides text text).1 refl))

-- and entering it changes nothing
pub with_text-known : (texts : List (List ℕ)) (text : List ℕ) (i : ℕ) → slice_get texts i ≡ Some text → texts ≡ with_text texts text
with_text-known texts text i at = rw (found_at texts text i at) refl

-- it is one of the texts
pub contains_at : (texts : List (List ℕ)) (text : List ℕ) (i : ℕ) → slice_get texts i ≡ Some text → Contains texts text
contains_at texts text i at = (i, slice_get_within texts i text at, get_or_from_slice_get texts i text text at)

-- a text that the test does not find stands nowhere
pub absent : (texts : List (List ℕ)) (text : List ℕ) → list_any (bytes_eq text) texts ≡ false → Contains texts text → ⊥
absent texts text none there =
    true≢false (sym (found_at texts text there.0 (slice_get-get_or texts there.0 text there.1 ∙ ap Some there.2)) ∙ none)

-- one that it does not find goes last
pub with_text-new : (texts : List (List ℕ)) (text : List ℕ) → list_any (bytes_eq text) texts ≡ false → with_text texts text ≡ texts ++ text ∷ []
with_text-new texts text none = rw none refl

-- the place that `position` gives
pub place_from_position : {A : Type 0} (p : A → Bool) (xs : List A) (i : ℕ) → position p xs ≡ Some i → i ≡ position_or_len p xs
place_from_position p xs i at = by (nat_lt (position_or_len p xs) (length xs)) refl
  where
    by : (b : Bool) → nat_lt (position_or_len p xs) (length xs) ≡ b → i ≡ position_or_len p xs
    by true e = let h : Some (position_or_len p xs) ≡ Some i = rw e at at in cc
    by false e = let h : None ≡ Some i = rw e at at in cc

-- an entered text stands at its place
pub stands : (texts : List (List ℕ)) (text : List ℕ) → slice_get (with_text texts text) (place_of texts text) ≡ Some text
stands [] text = refl
stands (x ∷ xs) text = by (bytes_eq text x) refl (stands xs text)
  where
    by : (b : Bool) → bytes_eq text x ≡ b → slice_get (with_text xs text) (place_of xs text) ≡ Some text
        → slice_get (with_text (x ∷ xs) text) (place_of (x ∷ xs) text) ≡ Some text
    by true e h = rw e (ap Some (sym ((bytes_eq-Decides text x).0 e)))
    by false e h = rw (e, one-add) (split (list_any (bytes_eq text) xs) refl)
      where
        split : (c : Bool) → list_any (bytes_eq text) xs ≡ c → slice_get (if list_any (bytes_eq text) xs then x ∷ xs else x ∷ (xs ++ text ∷ [])) (suc (place_of xs text)) ≡ Some text
        split true f = rw f (rw f at h)
        split false f = rw f (rw f at h)

-- one that stands nowhere is not found
pub not_there : (texts : List (List ℕ)) (text : List ℕ) → (Contains texts text → ⊥) → list_any (bytes_eq text) texts ≡ false
not_there texts text nowhere = by (list_any (bytes_eq text) texts) refl
  where
    by : (b : Bool) → list_any (bytes_eq text) texts ≡ b → list_any (bytes_eq text) texts ≡ false
    by false e = e
    by true e =
        let known : with_text texts text ≡ texts = rw e refl in
        absurd (nowhere (contains_at texts text (place_of texts text) (ap (λ l. slice_get l (place_of texts text)) (sym known) ∙ stands texts text)))

-- its place is then the length of the list
place_of-new : (texts : List (List ℕ)) (text : List ℕ) → list_any (bytes_eq text) texts ≡ false → place_of texts text ≡ length texts
place_of-new [] text none = refl
place_of-new (x ∷ texts) text none = by (bytes_eq text x) refl (place_of-new texts text)
  where
    by : (b : Bool) → bytes_eq text x ≡ b → (list_any (bytes_eq text) texts ≡ false → place_of texts text ≡ length texts) → place_of (x ∷ texts) text ≡ length (x ∷ texts)
    by true e rest = absurd (true≢false (sym (ap (λ b. b || list_any (bytes_eq text) texts) e) ∙ none))
    by false e rest =
        let others = rest (sym (ap (λ b. b || list_any (bytes_eq text) texts) e) ∙ none) in
        ap (λ b. cond (not b) (1 + place_of texts text) 0) e ∙ omega (arith, others)

-- what `enter` says where a new text was put at the end
pub record IsPut (texts more : List (List ℕ)) (text : List ℕ) (i : ℕ) : Type 0 where
  pub number : i ≡ place_of texts text
  pub stands : slice_get more i ≡ Some text

pub put : (texts more : List (List ℕ)) (text : List ℕ) (i : ℕ) → (Contains texts text → ⊥) → more ≡ texts ++ text ∷ [] → i ≡ length texts → IsPut texts more text i
put texts more text i nowhere grown last =
    let none = not_there texts text nowhere in
    let place : i ≡ place_of texts text = last ∙ sym (place_of-new texts text none) in
    let same : more ≡ with_text texts text = grown ∙ sym (with_text-new texts text none) in
    record { number = place; stands = (λ j. slice_get (same j) (place j)) ∙ stands texts text }

pub if_put : {S E : Type 0} {P R : S → Type 0} {Q : Type 0} (r : Result S E) → IfOk r P → OnOk r Q → ((s : S) → P s → Q → R s) → IfOk r R
if_put (Ok s) p q gives = gives s p q
if_put (Err e) p q gives = tt

pub on_put : {S E : Type 0} {Q R : Type 0} (r : Result S E) → OnOk r Q → (Q → R) → OnOk r R
on_put (Ok s) q gives = gives q
on_put (Err e) q gives = tt

-- a table stays one when a text in upper case is entered and there is room
pub IsNameTable-with_text : (texts : List (List ℕ)) (text : List ℕ) → IsNameTable texts → IsFolded text → length texts < 2147483648
    → IsNameTable (with_text texts text)
IsNameTable-with_text texts text table folded room = by (list_any (bytes_eq text) texts) refl
  where
    by : (b : Bool) → list_any (bytes_eq text) texts ≡ b → IsNameTable (if list_any (bytes_eq text) texts then texts else texts ++ text ∷ [])
    by true e = rw e table
    by false new = rw new (record {
      different = all_pairs_push (λ a b. a ≢ b) texts text table.different (λ k d within same. true≢false (sym (list_any_at (bytes_eq text) texts k d within ((bytes_eq-Decides text (slice_index_or texts k d)).1 (sym same))) ∙ new));
      folded = All-push IsFolded texts text table.folded folded;
      few = omega (arith, length-append texts (text ∷ []));
    })

-- each text of a table is in upper case
pub folded_at : (texts : List (List ℕ)) (text : List ℕ) (i : ℕ) → IsNameTable texts → slice_get texts i ≡ Some text → IsFolded text
folded_at texts text i table at = subst IsFolded (get_or_from_slice_get texts i text text at) (table.folded i text (slice_get_within texts i text at))

-- the text of a key that is read by its place
pub text_at : {K : Type 0} (text_of : K → List ℕ) (keys : List K) (i : ℕ) (k : K) → i < length (map text_of keys) → k ≡ slice_index_or keys i k → slice_get (map text_of keys) i ≡ Some (text_of k)
text_at text_of keys i k within is =
    let here : slice_get keys i ≡ Some k = slice_get_read keys (length keys) i k refl (rw length-map at within) is in
    rw (slice_get-map, here) refl

-- a byte in upper case is no small letter
folded_byte : (b : ℕ) → not (is_ascii_lowercase (to_ascii_uppercase b)) ≡ true
folded_byte b = grind (arith, nat_tests)

-- a text in upper case has no small letter
pub IsFolded-folded : (text : List ℕ) → IsFolded (folded text)
IsFolded-folded [] = refl
IsFolded-folded (b ∷ text) = rw (folded_byte b) (IsFolded-folded text)
