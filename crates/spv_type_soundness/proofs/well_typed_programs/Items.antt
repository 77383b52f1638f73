-- Items at places of lists.
use Rattle.std.proofs.Common.{arith, ◌≡◌, ℕ, zero, suc, ◌<◌, ◌≤◌, ◌⊎◌, inl, inr, nat_lt, Bool, true, false, cond, ◌&&◌, List, [], ◌∷◌, ◌++◌, map, length, Some, None, refl, sym, ap, ◌∙◌, subst}
use Rattle.std.specs.List.{list_all}
use Rattle.std.specs.Cmp.Derive.{both_true}
use Rattle.std.proofs.lemmas.Bool.{false≢true, ltb-true, ltb-false}
use Rattle.spv_logic.proofs.list.Tests.{left_true, right_true}
use Rattle.spv_program.specs.declared.types.TypeForm.{TypeForm}
use Rattle.spv_program.specs.Lists.{item_at}
use Rattle.spv_program.specs.Types.{form_at}
use Rattle.spv_program.proofs.SortFacts.{nothing_there, some_is}
use Rattle.spv_typing.specs.Merging.{first_where}

pub none_below : {P : Type 0} (n : ℕ) → n < 0 → P
none_below n h = absurd (no n h)
  where
    no : (n : ℕ) → n < 0 → ⊥
    no n h = omega arith

-- a number is below another one or not
pub less_or : (i b : ℕ) → (i < b) ⊎ (b ≤ i)
less_or i b = by_test (nat_lt i b) refl
  where
    by_test : (x : Bool) → nat_lt i b ≡ x → (i < b) ⊎ (b ≤ i)
    by_test true e = inl (ltb-true i b e)
    by_test false e = inr (ltb-false i b e)

pub last_or : (i b : ℕ) → i < suc b → (i < b) ⊎ (i ≡ b)
last_or i b h = by_place (less_or i b)
  where
    same : (n m : ℕ) → n < suc m → m ≤ n → n ≡ m
    same n m h g = omega arith

    by_place : (i < b) ⊎ (b ≤ i) → (i < b) ⊎ (i ≡ b)
    by_place (inl g) = inl g
    by_place (inr g) = inr (same i b h g)

-- an item that is there
pub record There {X : Type 0} (xs : List X) (i : ℕ) : Type 0 where
  pub item : X
  pub is : item_at xs i ≡ Some item

pub item_there : {X : Type 0} (xs : List X) (i : ℕ) → i < length xs → There xs i
item_there [] i h = none_below i h
item_there (x ∷ xs) zero h = record { item = x; is = refl }
item_there (x ∷ xs) (suc i) h = let r = item_there xs i (one_less i (length xs) h) in record { item = r.item; is = r.is }
  where
    one_less : (n m : ℕ) → suc n < suc m → n < m
    one_less n m h = omega arith

pub item_within : {X : Type 0} (xs : List X) (i : ℕ) (x : X) → item_at xs i ≡ Some x → i < length xs
item_within [] i x e = absurd (nothing_there e)
item_within (y ∷ xs) zero x e = first (length xs)
  where
    first : (n : ℕ) → 0 < suc n
    first n = omega arith
item_within (y ∷ xs) (suc i) x e = one_more i (length xs) (item_within xs i x e)
  where
    one_more : (n m : ℕ) → n < m → suc n < suc m
    one_more n m h = omega arith

pub item_past : {X : Type 0} (xs : List X) (i : ℕ) → length xs ≤ i → item_at xs i ≡ None
item_past [] i h = refl
item_past (x ∷ xs) zero h = absurd (no (length xs) h)
  where
    no : (n : ℕ) → suc n ≤ 0 → ⊥
    no n h = omega arith
item_past (x ∷ xs) (suc i) h = item_past xs i (one_less (length xs) i h)
  where
    one_less : (n m : ℕ) → suc n ≤ suc m → n ≤ m
    one_less n m h = omega arith

pub item_map : {X Y : Type 0} (f : X → Y) (xs : List X) (i : ℕ) (x : X) → item_at xs i ≡ Some x → item_at (map f xs) i ≡ Some (f x)
item_map f [] i x e = absurd (nothing_there e)
item_map f (y ∷ xs) zero x e = ap (λ z. Some (f z)) (some_is e)
item_map f (y ∷ xs) (suc i) x e = item_map f xs i x e

-- an item of a mapped list is that of an item
pub record MappedFrom {X Y : Type 0} (f : X → Y) (xs : List X) (i : ℕ) (y : Y) : Type 0 where
  pub item : X
  pub at : item_at xs i ≡ Some item
  pub is : f item ≡ y

pub item_mapped : {X Y : Type 0} (f : X → Y) (xs : List X) (i : ℕ) (y : Y) → item_at (map f xs) i ≡ Some y → MappedFrom f xs i y
item_mapped f [] i y e = absurd (nothing_there e)
item_mapped f (x ∷ xs) zero y e = record { item = x; at = refl; is = some_is e }
item_mapped f (x ∷ xs) (suc i) y e = let r = item_mapped f xs i y e in record { item = r.item; at = r.at; is = r.is }

pub item_front : {X : Type 0} (xs ys : List X) (i : ℕ) (x : X) → item_at xs i ≡ Some x → item_at (xs ++ ys) i ≡ Some x
item_front [] ys i x e = absurd (nothing_there e)
item_front (y ∷ xs) ys zero x e = e
item_front (y ∷ xs) ys (suc i) x e = item_front xs ys i x e

-- an item of a list with one more is an item of the list, or that one
pub item_grown : {X : Type 0} (xs : List X) (y : X) (i : ℕ) (x : X) (P : Type 0) → item_at (xs ++ y ∷ []) i ≡ Some x
    → (item_at xs i ≡ Some x → P) → (i ≡ length xs → y ≡ x → P) → P
item_grown [] y zero x P e front last = last refl (some_is e)
item_grown [] y (suc i) x P e front last = absurd (nothing_there e)
item_grown (z ∷ xs) y zero x P e front last = front e
item_grown (z ∷ xs) y (suc i) x P e front last = item_grown xs y i x P e front (λ k. last (ap suc k))

pub form_of_item : (forms : List TypeForm) (i : ℕ) (f : TypeForm) → item_at forms i ≡ Some f → form_at forms i ≡ f
form_of_item [] i f e = absurd (nothing_there e)
form_of_item (g ∷ forms) zero f e = some_is e
form_of_item (g ∷ forms) (suc i) f e = form_of_item forms i f e

pub all_at : {X : Type 0} (test : X → Bool) (xs : List X) → ((i : ℕ) (x : X) → item_at xs i ≡ Some x → test x ≡ true)
    → list_all test xs ≡ true
all_at test [] h = refl
all_at test (x ∷ xs) h = both_true (h 0 x refl) (all_at test xs (λ i y e. h (suc i) y e))

pub at_of_all : {X : Type 0} (test : X → Bool) (xs : List X) (i : ℕ) (x : X) → list_all test xs ≡ true → item_at xs i ≡ Some x
    → test x ≡ true
at_of_all test [] i x h e = absurd (nothing_there e)
at_of_all test (y ∷ xs) zero x h e = subst (λ z. test z ≡ true) (some_is e) (left_true _ _ h)
at_of_all test (y ∷ xs) (suc i) x h e = at_of_all test xs i x (right_true (test y) _ h) e

pub all_map : {X Y : Type 0} (test : Y → Bool) (f : X → Y) (xs : List X) → list_all test (map f xs) ≡ list_all (λ x. test (f x)) xs
all_map test f [] = refl
all_map test f (x ∷ xs) = ap (λ b. test (f x) && b) (all_map test f xs)

-- a list that has the items of another one begins with it
pub record Begins {X : Type 0} (xs ys : List X) : Type 0 where
  pub more : List X
  pub is : ys ≡ xs ++ more

pub begins : {X : Type 0} (xs ys : List X) → ((i : ℕ) (x : X) → item_at xs i ≡ Some x → item_at ys i ≡ Some x) → Begins xs ys
begins [] ys h = record { more = ys; is = refl }
begins (x ∷ xs) [] h = absurd (nothing_there (h 0 x refl))
begins (x ∷ xs) (y ∷ ys) h =
    let rest = begins xs ys (λ i z e. h (suc i) z e) in
    let same : y ≡ x = some_is (h 0 x refl) in
    record { more = rest.more; is = ap (λ z. z ∷ ys) same ∙ ap (λ zs. x ∷ zs) rest.is }

-- ---- the first item that passes a test

pub first_where-same : {X : Type 0} (p q : X → Bool) (xs : List X) → ((i : ℕ) (x : X) → item_at xs i ≡ Some x → p x ≡ q x)
    → first_where p xs ≡ first_where q xs
first_where-same p q [] h = refl
first_where-same p q (x ∷ xs) h =
    ap (λ b. cond b 0 (suc (first_where p xs))) (h 0 x refl)
    ∙ ap (λ n. cond (q x) 0 (suc n)) (first_where-same p q xs (λ i y e. h (suc i) y e))

-- where an item passes, the first one is there, passes, and stands no later
pub record FirstOf {X : Type 0} (test : X → Bool) (xs : List X) (i : ℕ) : Type 0 where
  pub item : X
  pub is : item_at xs (first_where test xs) ≡ Some item
  pub passes : test item ≡ true
  pub early : first_where test xs ≤ i

pub first_where-found : {X : Type 0} (test : X → Bool) (xs : List X) (i : ℕ) (x : X) → item_at xs i ≡ Some x → test x ≡ true
    → FirstOf test xs i
first_where-found test [] i x e h = absurd (nothing_there e)
first_where-found {X} test (y ∷ xs) zero x e h =
    let passes : test y ≡ true = subst (λ z. test z ≡ true) (sym (some_is e)) h in
    by_test (test y) refl passes
  where
    none_less : (n : ℕ) → 0 ≤ n
    none_less n = omega arith

    by_test : (b : Bool) → test y ≡ b → b ≡ true → FirstOf test (y ∷ xs) 0
    by_test true k p = record {
      item = y;
      is = ap (λ c. item_at (y ∷ xs) (cond c 0 (suc (first_where test xs)))) k;
      passes = k;
      early = subst (λ c. cond c 0 (suc (first_where test xs)) ≤ 0) (sym k) (none_less 0);
    }
    by_test false k p = absurd (false≢true p)
first_where-found test (y ∷ xs) (suc i) x e h = by_test (test y) refl (first_where-found test xs i x e h)
  where
    none_less : (n : ℕ) → 0 ≤ n
    none_less n = omega arith

    one_more : (n m : ℕ) → n ≤ m → suc n ≤ suc m
    one_more n m h = omega arith

    by_test : (b : Bool) → test y ≡ b → FirstOf test xs i → FirstOf test (y ∷ xs) (suc i)
    by_test true k r = record {
      item = y;
      is = ap (λ c. item_at (y ∷ xs) (cond c 0 (suc (first_where test xs)))) k;
      passes = k;
      early = subst (λ c. cond c 0 (suc (first_where test xs)) ≤ suc i) (sym k) (none_less (suc i));
    }
    by_test false k r = record {
      item = r.item;
      is = ap (λ c. item_at (y ∷ xs) (cond c 0 (suc (first_where test xs)))) k ∙ r.is;
      passes = r.passes;
      early = subst (λ c. cond c 0 (suc (first_where test xs)) ≤ suc i) (sym k) (one_more (first_where test xs) i r.early);
    }
