-- A cell that is put among cells is one of them.
use Rattle.std.proofs.Common.{◌≡◌, ℕ, Bool, true, false, cond, ◌||◌, List, [], ◌∷◌, refl, ap, ◌∙◌, nat_eq, nat_lt, arith}
use Rattle.std.specs.List.{list_any}
use Rattle.std.proofs.lemmas.Bool.Decides.{nat_tests}
use Rattle.spv_logic.specs.Values.{with_cell}

same : (p : ℕ) → nat_eq p p ≡ true
same p = grind (arith, nat_tests)

first_is : (p c : ℕ) (cells : List ℕ) → nat_eq p c ≡ true → list_any (nat_eq p) (c ∷ cells) ≡ true
first_is p c cells e = ap (λ b. b || list_any (nat_eq p) cells) e

later_is : (p c : ℕ) (cells : List ℕ) → nat_eq p c ≡ false → list_any (nat_eq p) cells ≡ true → list_any (nat_eq p) (c ∷ cells) ≡ true
later_is p c cells e later = ap (λ b. b || list_any (nat_eq p) cells) e ∙ later

pub with_cell-has : (cells : List ℕ) (p : ℕ) → list_any (nat_eq p) (with_cell cells p) ≡ true
with_cell-has [] p = first_is p p [] (same p)
with_cell-has (c ∷ cells) p = by_order (nat_lt p c) (nat_eq p c) refl (with_cell-has cells p)
  where
    by_order : (below is : Bool) → nat_eq p c ≡ is → list_any (nat_eq p) (with_cell cells p) ≡ true → list_any (nat_eq p) (cond below (p ∷ c ∷ cells) (cond is (c ∷ cells) (c ∷ with_cell cells p))) ≡ true
    by_order true is e later = first_is p p (c ∷ cells) (same p)
    by_order false true e later = first_is p c cells e
    by_order false false e later = later_is p c (with_cell cells p) e later
