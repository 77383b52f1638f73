-- Look-ups in tables of words and signs.
use Rattle.std.proofs.Common.{◌≡◌, ◌≢◌, ◌==◌, ◌<◌, ◌+◌, ◌&&◌, ℕ, Bool, true, false, cond, nat_eq, List, [], ◌∷◌, Some, None, map, filter, length, drop, slice_index_or, Bor, refl, sym, ap, ◌∙◌, true≢false, add-one}
use Rattle.std.proofs.Math.Seq.{drop-cons}
use Rattle.std.proofs.lemmas.Bool.{eqb-true, eqb-false}
use Rattle.std.specs.Map.{lookup}
use Rattle.std.specs.List.{list_all}
use Rattle.std.specs.Str.{bytes_eq}
use Rattle.std.specs.Cmp.Lexicographic.{unequal}

both_true : (a b : Bool) → (a && b) ≡ true → (a ≡ true) × (b ≡ true)
both_true true b h = (refl, h)
both_true false b h = absurd (true≢false (sym h))

module _ {X : Type 0} (text : List ℕ) where
  -- only the entries of the text's length matter
  pub lookup-same_length : (es : List (List ℕ × X)) → lookup (bytes_eq text) (filter (λ e. length e.0 == length text) es) ≡ lookup (bytes_eq text) es
  lookup-same_length [] = refl
  lookup-same_length (e ∷ es) = by (length e.0 == length text) refl (lookup-same_length es)
    where
      by : (b : Bool) → (length e.0 == length text) ≡ b
          → lookup (bytes_eq text) (filter (λ e. length e.0 == length text) es) ≡ lookup (bytes_eq text) es
          → lookup (bytes_eq text) (filter (λ e. length e.0 == length text) (e ∷ es)) ≡ lookup (bytes_eq text) (e ∷ es)
      by true is rest = rw is (ap (cond (bytes_eq text e.0) (Some e.1)) rest)
      by false is rest = rw (is, unequal nat_eq text e.0 (λ same. eqb-false _ _ is (sym same))) rest

  -- an entry of another length is not found
  pub lookup-none_of_length : (n : ℕ) (es : List (List ℕ × X)) → list_all (λ e. length e.0 == n) es ≡ true → length text ≢ n → lookup (bytes_eq text) es ≡ None
  lookup-none_of_length n [] all other = refl
  lookup-none_of_length n (e ∷ es) all other =
      let parts = both_true _ _ all in
      rw (unequal nat_eq text e.0 (λ same. other (same ∙ eqb-true _ _ parts.0))) (lookup-none_of_length n es parts.1 other)

-- what a table kept as references holds
abbrev pub entries_of : {X : Type 0} → List (Bor (List ℕ) × X) → List (List ℕ × X)
entries_of es = map (λ e. (e.0.now, e.1)) es

module _ {X : Type 0} (text : List ℕ) (es : List (Bor (List ℕ) × X)) (i : ℕ) (d : Bor (List ℕ) × X) (within : i < length es) where
  -- a search that is at the entry i
  pub lookup-here : lookup (bytes_eq text) (entries_of (drop i es))
      ≡ cond (bytes_eq text (slice_index_or es i d).0.now) (Some (slice_index_or es i d).1) (lookup (bytes_eq text) (entries_of (drop (i + 1) es)))
  lookup-here = rw (drop-cons es i d within, add-one) refl
