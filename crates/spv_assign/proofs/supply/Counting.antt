-- A list that has each number from 1 to n has n members at least.
use Rattle.std.proofs.Common.{◌≡◌, ℕ, zero, suc, ◌<◌, ◌≤◌, Bool, true, false, cond, ◌||◌, List, [], ◌∷◌, map, length, slice_get, Some, nat_eq, if◌then◌else◌, refl, sym, ap, ◌∙◌, arith}
use Rattle.std.specs.List.{list_any}
use Rattle.std.proofs.lemmas.Bool.{false≢true, or_left, or_right, eqb-true, eq-eqb}

-- the list without the first member of this number
abbrev pub without : ℕ → List ℕ → List ℕ
without k [] = []
without k (x ∷ xs) = if nat_eq k x then xs else x ∷ without k xs

abbrev pub has : List ℕ → ℕ → Bool
has xs k = list_any (nat_eq k) xs

length-without : (k : ℕ) (xs : List ℕ) → has xs k ≡ true → length xs ≡ suc (length (without k xs))
length-without k [] h = absurd (false≢true h)
length-without k (x ∷ xs) h = by (nat_eq k x) h (length-without k xs)
  where
    by : (b : Bool) → (b || has xs k) ≡ true → (has xs k ≡ true → length xs ≡ suc (length (without k xs))) → suc (length xs) ≡ suc (length (cond b xs (x ∷ without k xs)))
    by true e rest = refl
    by false e rest = ap suc (rest e)

-- another number stays
has-without : (k j : ℕ) (xs : List ℕ) → (j ≡ k → ⊥) → has xs j ≡ true → has (without k xs) j ≡ true
has-without k j [] other h = h
has-without k j (x ∷ xs) other h = by (nat_eq k x) refl (nat_eq j x) refl h (has-without k j xs other)
  where
    by : (b : Bool) → nat_eq k x ≡ b → (c : Bool) → nat_eq j x ≡ c → (c || has xs j) ≡ true → (has xs j ≡ true → has (without k xs) j ≡ true) → has (cond b xs (x ∷ without k xs)) j ≡ true
    by true e true f g rest = absurd (other (eqb-true j x f ∙ sym (eqb-true k x e)))
    by true e false f g rest = g
    by false e true f g rest = or_left (nat_eq j x) (has (without k xs) j) f
    by false e false f g rest = or_right (nat_eq j x) (has (without k xs) j) (rest g)

pub pigeons : (n : ℕ) (xs : List ℕ) → ((k : ℕ) → 0 < k → k ≤ n → has xs k ≡ true) → n ≤ length xs
pigeons zero xs h = omega arith
pigeons (suc n) xs h =
    let there : has xs (suc n) ≡ true = h (suc n) (omega arith) (omega arith) in
    let fewer = length-without (suc n) xs there in
    let rest = pigeons n (without (suc n) xs) (λ k low high. has-without (suc n) k xs (λ e. absurd (past k n high e)) (h k low (omega arith))) in
    omega (arith, fewer, rest)
  where
    past : (k m : ℕ) → k ≤ m → k ≡ suc m → ⊥
    past k m h e = omega arith

-- a member of a list is among those that a function gives
pub has-map : {A : Type 0} (f : A → ℕ) (xs : List A) (i : ℕ) (x : A) (k : ℕ) → slice_get xs i ≡ Some x → f x ≡ k → has (map f xs) k ≡ true
has-map f [] i x k at e = absurd (cc)
has-map f (y ∷ xs) zero x k at e =
    let same : y ≡ x = cc in
    or_left (nat_eq k (f y)) (has (map f xs) k) (eq-eqb k (f y) (sym (ap f same ∙ e)))
has-map f (y ∷ xs) (suc i) x k at e = or_right (nat_eq k (f y)) (has (map f xs) k) (has-map f xs i x k at e)
