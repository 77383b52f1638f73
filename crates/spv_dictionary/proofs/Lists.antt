-- Lists of the first values of a function, and reads after writes.
use Rattle.std.proofs.Common.{◌≡◌, ℕ, zero, suc, ◌+◌, ◌<◌, Bool, true, false, [], ◌∷◌, ◌++◌, length, nat_eq, slice_index_or, refl, sym, ap, ◌∙◌, arith}
use Rattle.std.proofs.lemmas.List.{get_or_append_left, get_or_at, length-append}
use Rattle.spv_dictionary.specs.Cells.{listed}

pub length_listed : {A : Type 0} (f : ℕ → A) (n : ℕ) → length (listed f n) ≡ n
length_listed f zero = refl
length_listed f (suc n) = length-append (listed f n) (f n ∷ []) ∙ ap (λ k. k + 1) (length_listed f n) ∙ more n
  where
    more : (n : ℕ) → n + 1 ≡ suc n
    more n = omega arith

pub get_listed : {A : Type 0} (f : ℕ → A) (n i : ℕ) (d : A) → i < n → slice_index_or (listed f n) i d ≡ f i
get_listed f zero i d h = absurd (omega arith)
get_listed f (suc n) i d h = by_case (λ below. get_listed f n i d below) (nat_eq i n) refl
  where
    by_case : (i < n → slice_index_or (listed f n) i d ≡ f i) → (b : Bool) → nat_eq i n ≡ b → slice_index_or (listed f n ++ f n ∷ []) i d ≡ f i
    by_case before true e =
        get_or_at (listed f n) (f n) [] d i (length_listed f n ∙ sym (same i n e)) ∙ ap f (sym (same i n e))
      where
        same : (i n : ℕ) → nat_eq i n ≡ true → i ≡ n
        same i n e = grind (arith, e)
    by_case before false e =
        get_or_append_left (listed f n) (f n ∷ []) d i (below_length (length_listed f n)) ∙ before (nearer i n h e)
      where
        nearer : (i n : ℕ) → i < suc n → nat_eq i n ≡ false → i < n
        nearer i n h e = grind arith

        below_length : length (listed f n) ≡ n → i < length (listed f n)
        below_length e2 = omega (arith, e2, nearer i n h e)
