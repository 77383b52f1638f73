-- The items of a list one by one.
use Rattle.std.proofs.Common.{◌≡◌, ◌≢◌, ℕ, ◌<◌, ◌≤◌, ◌+◌, true, false, nat_eq, List, length, get_or, slice_get, sym, ap, subst, ◌∙◌, Some, inl, inr, ◌⊎◌, arith}
use Rattle.std.proofs.lemmas.Bool.Decides.{eqb_tells}
use Rattle.std.proofs.lemmas.Option.{slice_get-get_or, slice_get_within, same_Some}

-- the first ones of these have a property
pub record AreBefore {X : Type 0} (P : X → Type 0) (xs : List X) (k : ℕ) : Type 0 where
  pub each : (i : ℕ) (x : X) → i < k → slice_get xs i ≡ Some x → P x

pub none_before : {X : Type 0} (P : X → Type 0) (xs : List X) → AreBefore P xs 0
none_before P xs = record { each = λ i x h e. absurd (omega (arith, h)) }

pub one_more : {X : Type 0} (P : X → Type 0) (xs : List X) (k : ℕ) (d : X) → AreBefore P xs k → k < length xs → P (get_or xs k d) → AreBefore P xs (k + 1)
one_more {X} P xs k d so_far inside now = record { each = λ i x h e. by_case i x h e (eqb_tells i k) }
  where
    by_case : (i : ℕ) (x : X) → i < k + 1 → slice_get xs i ≡ Some x → ((nat_eq i k ≡ true) × (i ≡ k)) ⊎ ((nat_eq i k ≡ false) × (i ≢ k)) → P x
    by_case i x h e (inl same) =
        let this : get_or xs k d ≡ x = same_Some (get_or xs k d) x (sym (slice_get-get_or xs k d inside) ∙ (sym (ap (slice_get xs) same.1) ∙ e)) in
        subst P this now
    by_case i x h e (inr other) =
        let apart : i ≢ k = other.1 in
        so_far.each i x (omega (arith, h, apart)) e

pub all_of_them : {X : Type 0} (P : X → Type 0) (xs : List X) (k : ℕ) → AreBefore P xs k → length xs ≤ k → (i : ℕ) (x : X) → slice_get xs i ≡ Some x → P x
all_of_them P xs k before end i x e =
    let inside : i < length xs = slice_get_within xs i x e in
    before.each i x (omega (arith, inside, end)) e
