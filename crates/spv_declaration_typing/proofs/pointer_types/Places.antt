-- Items of lists by their places.
use Rattle.std.proofs.Common.{◌≡◌, ℕ, zero, suc, ◌<◌, ◌≤◌, List, [], ◌∷◌, length, get_or, Some, None, true, nat_eq, refl, ap, ◌∙◌, arith}
use Rattle.std.specs.Cmp.Lexicographic.{pointwise}
use Rattle.std.proofs.lemmas.Bool.{false≢true, eqb-true}
use Rattle.spv_logic.proofs.list.Tests.{left_true, right_true}
use Rattle.spv_program.specs.Lists.{item_at}

pub item_there : (xs : List ℕ) (n : ℕ) → n < length xs → item_at xs n ≡ Some (get_or xs n 0)
item_there [] n h = absurd (omega (arith, h))
item_there (x ∷ xs) zero h = refl
item_there (x ∷ xs) (suc n) h = item_there xs n (omega (arith, h))

pub item_missing : {X : Type 0} (xs : List X) (n : ℕ) → length xs ≤ n → item_at xs n ≡ None
item_missing [] n h = refl
item_missing (x ∷ xs) zero h = absurd (omega (arith, h))
item_missing (x ∷ xs) (suc n) h = item_missing xs n (omega (arith, h))

pub item_of : {X : Type 0} (xs : List X) (n : ℕ) (d : X) → n < length xs → item_at xs n ≡ Some (get_or xs n d)
item_of [] n d h = absurd (omega (arith, h))
item_of (x ∷ xs) zero d h = refl
item_of (x ∷ xs) (suc n) d h = item_of xs n d (omega (arith, h))

-- lists of numbers that are the same, place by place
pub same_numbers : (xs ys : List ℕ) → pointwise nat_eq xs ys ≡ true → xs ≡ ys
same_numbers [] [] h = refl
same_numbers [] (y ∷ ys) h = absurd (false≢true h)
same_numbers (x ∷ xs) [] h = absurd (false≢true h)
same_numbers (x ∷ xs) (y ∷ ys) h =
    ap (λ n. n ∷ xs) (eqb-true x y (left_true (nat_eq x y) (pointwise nat_eq xs ys) h))
    ∙ ap (λ (l : List ℕ). y ∷ l) (same_numbers xs ys (right_true (nat_eq x y) (pointwise nat_eq xs ys) h))
