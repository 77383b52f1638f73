-- Names that are looked up, and items that are looked for.
use Rattle.std.proofs.Common.{◌≡◌, ℕ, zero, suc, ◌+◌, ◌<◌, ◌≤◌, Bool, true, false, ◌&&◌, ◌||◌, not, cond, nat_lt, Option, Some, None, IsNone, IfSome, List, [], ◌∷◌, length, drop, get_or, slice_get, position, Contains, All, ◌↔◌, refl, sym, ap, subst, ◌∙◌, true≢false, arith}
use Rattle.std.specs.Char.{is_ascii_lowercase}
use Rattle.std.specs.List.{list_all, list_any, position_from, position_or_len}
use Rattle.std.specs.Option.{option_map}
use Rattle.std.specs.Str.{bytes_eq}
use Rattle.std.proofs.lemmas.Bool.{lt-ltb}
use Rattle.std.proofs.lemmas.Iterator.Adapters.{position_from-zero}
use Rattle.std.proofs.lemmas.List.{drop_more}
use Rattle.std.proofs.lemmas.List.Elements.{All-head, All-tail}
use Rattle.std.proofs.lemmas.Option.{slice_get_within}
use Rattle.std.proofs.lemmas.Slice.Eq.{bytes_eq-Decides}
use Rattle.spv_logic.specs.declared.names.names.Symbol.{Symbol}
use Rattle.spv_logic.specs.declared.types.Sort.{Sort}
use Rattle.spv_logic.specs.names.Names.{IsFolded, place_of}
use Rattle.spv_logic.specs.Terms.{sort_eq}
use Rattle.spv_logic.specs.Sorts.{sorts_eq}
use Rattle.spv_logic.proofs.names.NameTable.{not_there}
use Rattle.spv_rechecking.specs.written_terms.Standing.{symbol_for}

-- ---- lists of different lengths

pub lengths_differ : (ss ts : List Sort) → (length ss ≡ length ts → ⊥) → false ≡ sorts_eq ss ts
lengths_differ [] [] h = absurd (h refl)
lengths_differ [] (t ∷ ts) h = refl
lengths_differ (s ∷ ss) [] h = refl
lengths_differ (s ∷ ss) (t ∷ ts) h = by_case (sort_eq s t) (lengths_differ ss ts (λ e. h (ap suc e)))
  where
    by_case : (b : Bool) → false ≡ sorts_eq ss ts → false ≡ (b && sorts_eq ss ts)
    by_case true e = e
    by_case false e = refl

-- ---- a list is gone through

module _ {A : Type 0} (p : A → Bool) (xs : List A) where
  abbrev pub IsBehind : ℕ → Type 0
  IsBehind i = position_from p 0 xs ≡ position_from p i (drop i xs)

  pub hit : (i : ℕ) (d : A) → i < length xs → IsBehind i → p (get_or xs i d) ≡ true → Some i ≡ position p xs
  hit i d lt behind h =
      sym (position_from-zero p xs ∙ (behind ∙ (ap (position_from p i) (drop_more xs i d lt) ∙ ap (λ b. cond b (Some i) (position_from p (i + 1) (drop (i + 1) xs))) h)))

  pub missed : (i : ℕ) (d : A) → i < length xs → IsBehind i → p (get_or xs i d) ≡ false → IsBehind (i + 1)
  missed i d lt behind h = behind ∙ (ap (position_from p i) (drop_more xs i d lt) ∙ ap (λ b. cond b (Some i) (position_from p (i + 1) (drop (i + 1) xs))) h)

  pub nowhere : (i : ℕ) → length xs ≤ i → IsBehind i → None ≡ position p xs
  nowhere i le behind = sym (position_from-zero p xs ∙ (behind ∙ ap (position_from p i) (none_left xs i le)))
    where
      none_left : (ys : List A) (j : ℕ) → length ys ≤ j → drop j ys ≡ []
      none_left [] zero h = refl
      none_left [] (suc j) h = refl
      none_left (y ∷ ys) zero h = absurd (omega (arith, h))
      none_left (y ∷ ys) (suc j) h = none_left ys j (omega (arith, h))

position_from-none : {A : Type 0} (p : A → Bool) (i : ℕ) (xs : List A) → list_any p xs ≡ false → position_from p i xs ≡ None
position_from-none p i [] h = refl
position_from-none p i (x ∷ xs) h = by (p x) refl h (position_from-none p (i + 1) xs)
  where
    by : (b : Bool) → p x ≡ b → (b || list_any p xs) ≡ false → (list_any p xs ≡ false → position_from p (i + 1) xs ≡ None) → cond (p x) (Some i) (position_from p (i + 1) xs) ≡ None
    by true e k rest = absurd (true≢false k)
    by false e k rest = ap (λ b. cond b (Some i) (position_from p (i + 1) xs)) e ∙ rest k

pub none_passes : {A : Type 0} (p : A → Bool) (xs : List A) → list_any p xs ≡ false → position p xs ≡ None
none_passes p xs h = position_from-zero p xs ∙ position_from-none p 0 xs h

-- ---- names

pub find_is : (names : List (List ℕ)) (word : List ℕ) (r : Option Symbol) → (IsNone r ↔ (Contains names word → ⊥)) → IfSome r (λ s. s.0 ≡ place_of names word) → IfSome r (λ s. slice_get names s.0 ≡ Some word)
    → r ≡ symbol_for names word
find_is names word None lacks number stands = ap (λ o. option_map (λ k. record { 0 = k }) o) (sym (none_passes (bytes_eq word) names (not_there names word (lacks.0 refl))))
find_is names word (Some s) lacks number stands =
    let within : s.0 < length names = slice_get_within names s.0 word stands in
    let here : nat_lt (position_or_len (bytes_eq word) names) (length names) ≡ true = lt-ltb (position_or_len (bytes_eq word) names) (length names) (subst (λ n. n < length names) number within) in
    ap (λ (n : ℕ). Some (record { 0 = n })) number ∙ ap (λ b. option_map (λ k. record { 0 = k }) (cond b (Some (position_or_len (bytes_eq word) names)) None)) (sym here)

absent_name : (names : List (List ℕ)) (word : List ℕ) → All IsFolded names → list_all (λ b. not (is_ascii_lowercase b)) word ≡ false → list_any (bytes_eq word) names ≡ false
absent_name [] word all h = refl
absent_name (x ∷ names) word all h = by (bytes_eq word x) refl (absent_name names word (All-tail IsFolded x names all) h)
  where
    by : (b : Bool) → bytes_eq word x ≡ b → list_any (bytes_eq word) names ≡ false → (bytes_eq word x || list_any (bytes_eq word) names) ≡ false
    by true e rest = absurd (true≢false (sym (subst IsFolded (sym ((bytes_eq-Decides word x).0 e)) (All-head IsFolded x names all)) ∙ h))
    by false e rest = ap (λ b. b || list_any (bytes_eq word) names) e ∙ rest

pub not_folded : (names : List (List ℕ)) (word : List ℕ) → All IsFolded names → list_all (λ b. not (is_ascii_lowercase b)) word ≡ false → None ≡ symbol_for names word
not_folded names word all h = ap (λ o. option_map (λ k. record { 0 = k }) o) (sym (none_passes (bytes_eq word) names (absent_name names word all h)))
