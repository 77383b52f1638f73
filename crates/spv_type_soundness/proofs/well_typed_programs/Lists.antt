-- Lists that get longer keep what stands in front.
use Rattle.std.proofs.Common.{arith, ◌≡◌, ℕ, zero, suc, ◌<◌, true, List, [], ◌∷◌, ◌++◌, length, refl, nat_lt}
use Rattle.std.proofs.lemmas.Bool.{ltb-true, lt-ltb}
use Rattle.spv_program.specs.declared.types.TypeForm.{TypeForm}
use Rattle.spv_program.specs.Types.{form_at}

pub below : (n m : ℕ) → nat_lt n m ≡ true → n < m
below n m h = ltb-true n m h

pub is_below : (n m : ℕ) → n < m → nat_lt n m ≡ true
is_below n m h = lt-ltb n m h

pub form_at-prefix : (a b : List TypeForm) (n : ℕ) → n < length a → form_at (a ++ b) n ≡ form_at a n
form_at-prefix [] b n h = absurd (none_below n h)
  where
    none_below : (n : ℕ) → n < 0 → ⊥
    none_below n h = omega arith
form_at-prefix (f ∷ a) b zero h = refl
form_at-prefix (f ∷ a) b (suc n) h = form_at-prefix a b n (one_less n (length a) h)
  where
    one_less : (n m : ℕ) → suc n < suc m → n < m
    one_less n m h = omega arith
