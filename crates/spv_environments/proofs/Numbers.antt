-- The number of a text that is not in a table.
use Rattle.std.proofs.Common.{◌≡◌, ℕ, ◌+◌, Bool, true, false, cond, ◌||◌, not, List, [], ◌∷◌, length, Contains, refl, sym, ap, ◌∙◌, arith}
use Rattle.std.specs.List.{list_any, position_or_len}
use Rattle.std.specs.Str.{bytes_eq}
use Rattle.std.proofs.lemmas.Bool.{false≢true}
use Rattle.spv_logic.specs.names.Names.{place_of, with_text}
use Rattle.spv_logic.proofs.names.NameTable.{stands, contains_at}

none_found : {A : Type 0} (p : A → Bool) (xs : List A) → list_any p xs ≡ false → position_or_len p xs ≡ length xs
none_found p [] h = refl
none_found p (x ∷ xs) h = by_case (p x) refl h (none_found p xs)
  where
    by_case : (b : Bool) → p x ≡ b → (b || list_any p xs) ≡ false → (list_any p xs ≡ false → position_or_len p xs ≡ length xs) → position_or_len p (x ∷ xs) ≡ length (x ∷ xs)
    by_case true e h later = absurd (false≢true (sym h))
    by_case false e h later =
        let f = later h in
        let g : position_or_len p (x ∷ xs) ≡ 1 + position_or_len p xs = ap (λ b. cond (not b) (1 + position_or_len p xs) 0) e in
        g ∙ omega (arith, f)

pub place_of-missing : (texts : List (List ℕ)) (text : List ℕ) → (Contains texts text → ⊥) → place_of texts text ≡ length texts
place_of-missing texts text missing = by_case (list_any (bytes_eq text) texts) refl
  where
    by_case : (b : Bool) → list_any (bytes_eq text) texts ≡ b → place_of texts text ≡ length texts
    by_case false e = none_found (bytes_eq text) texts e
    by_case true e =
        let same : with_text texts text ≡ texts = rw e refl in
        absurd (missing (contains_at texts text (place_of texts text) (rw same at (stands texts text))))
