-- Tests on lists, and tests that decide sameness.
use Rattle.std.proofs.Common.{◌≡◌, ℕ, Bool, true, false, cond, ◌&&◌, ◌||◌, List, [], ◌∷◌, ◌++◌, filter, refl, sym, ap, ◌∙◌, nat_eq, arith}
use Rattle.std.specs.List.{list_all, list_any}
use Rattle.std.specs.Cmp.Derive.{both_true}
use Rattle.std.proofs.lemmas.Bool.{false≢true}
use Rattle.std.proofs.lemmas.Bool.Decides.{nat_tests}
use Rattle.spv_logic.proofs.list.Tests.{left_true, right_true, left_false, right_false, both_false}

-- ---- truth values

pub or_left : (a b : Bool) → a ≡ true → (a || b) ≡ true
or_left true b h = refl
or_left false b h = absurd (false≢true h)

pub or_right : (a b : Bool) → b ≡ true → (a || b) ≡ true
or_right true b h = refl
or_right false b h = h

-- what is not true is false
pub not_so : (b : Bool) → (b ≡ true → false ≡ true) → b ≡ false
not_so true h = absurd (false≢true (h refl))
not_so false h = refl

pub clash : {X : Type 0} (b : Bool) → b ≡ true → b ≡ false → X
clash b h k = absurd (false≢true (sym k ∙ h))

-- ---- sameness

-- a test that decides sameness may be turned round
pub swapped : {X : Type 0} (same : X → X → Bool) → ((x y : X) → same x y ≡ true → x ≡ y) → ((x : X) → same x x ≡ true) → (x y : X) → same x y ≡ same y x
swapped {X} same means itself x y = by_tests (same x y) (same y x) refl refl
  where
    back : (x y : X) → same x y ≡ true → same y x ≡ true
    back x y e = ap (λ z. same y z) (means x y e) ∙ itself y

    by_tests : (b c : Bool) → same x y ≡ b → same y x ≡ c → b ≡ c
    by_tests true true e f = refl
    by_tests true false e f = clash (same y x) (back x y e) f
    by_tests false true e f = clash (same x y) (back y x f) e
    by_tests false false e f = refl

pub number_swap : (n m : ℕ) (b : Bool) → nat_eq n m ≡ b → nat_eq m n ≡ b
number_swap n m true e = grind (arith, nat_tests)
number_swap n m false e = grind (arith, nat_tests)

-- ---- lists

-- something that passes one test and fails another
pub record Picked {X : Type 0} (f g : X → Bool) : Type 0 where
  pub item : X
  pub passes : f item ≡ true
  pub fails : g item ≡ false

pub picked : {X : Type 0} (f g : X → Bool) (xs : List X) → list_any f xs ≡ true → list_any g xs ≡ false → Picked f g
picked f g [] h k = absurd (false≢true h)
picked {X} f g (x ∷ xs) h k = by_first (f x) refl h (λ h. picked f g xs h (right_false (g x) (list_any g xs) k))
  where
    by_first : (b : Bool) → f x ≡ b → (b || list_any f xs) ≡ true → (list_any f xs ≡ true → Picked f g) → Picked f g
    by_first true e h later = record { item = x; passes = e; fails = left_false (g x) (list_any g xs) k }
    by_first false e h later = later h

-- something that passes two tests
pub record Chosen {X : Type 0} (f g : X → Bool) : Type 0 where
  pub item : X
  pub one : f item ≡ true
  pub two : g item ≡ true

pub chosen_from : {X : Type 0} (f g : X → Bool) (xs : List X) → list_any f xs ≡ true → list_all g xs ≡ true → Chosen f g
chosen_from f g [] h k = absurd (false≢true h)
chosen_from {X} f g (x ∷ xs) h k = by_first (f x) refl h (λ h. chosen_from f g xs h (right_true (g x) (list_all g xs) k))
  where
    by_first : (b : Bool) → f x ≡ b → (b || list_any f xs) ≡ true → (list_any f xs ≡ true → Chosen f g) → Chosen f g
    by_first true e h later = record { item = x; one = e; two = left_true (g x) (list_all g xs) k }
    by_first false e h later = later h

pub all_same : {X : Type 0} (f g : X → Bool) → ((x : X) → f x ≡ g x) → (xs : List X) → list_all f xs ≡ list_all g xs
all_same f g same [] = refl
all_same f g same (x ∷ xs) = λ i. same x i && all_same f g same xs i

pub any_same : {X : Type 0} (f g : X → Bool) → ((x : X) → f x ≡ g x) → (xs : List X) → list_any f xs ≡ list_any g xs
any_same f g same [] = refl
any_same f g same (x ∷ xs) = λ i. same x i || any_same f g same xs i

-- what passes a test also passes another
pub any_passes : {X : Type 0} (f g : X → Bool) → ((x : X) → f x ≡ true → g x ≡ true) → (xs : List X) → list_any f xs ≡ true → list_any g xs ≡ true
any_passes f g passes [] h = h
any_passes f g passes (x ∷ xs) h = by_first (f x) refl h (any_passes f g passes xs)
  where
    by_first : (b : Bool) → f x ≡ b → (b || list_any f xs) ≡ true → (list_any f xs ≡ true → list_any g xs ≡ true) → (g x || list_any g xs) ≡ true
    by_first true e h later = or_left (g x) (list_any g xs) (passes x e)
    by_first false e h later = or_right (g x) (list_any g xs) (later h)

pub any_fails : {X : Type 0} (f g : X → Bool) → ((x : X) → g x ≡ false → f x ≡ false) → (xs : List X) → list_any g xs ≡ false → list_any f xs ≡ false
any_fails f g fails [] h = refl
any_fails f g fails (x ∷ xs) h = both_false (f x) (list_any f xs) (fails x (left_false (g x) (list_any g xs) h)) (any_fails f g fails xs (right_false (g x) (list_any g xs) h))

-- what passes is kept by a filter that keeps what passes
pub any_filter : {X : Type 0} (f keep : X → Bool) → ((x : X) → f x ≡ true → keep x ≡ true) → (xs : List X) → list_any f xs ≡ true → list_any f (filter keep xs) ≡ true
any_filter f keep kept [] h = h
any_filter {X} f keep kept (x ∷ xs) h = by_first (f x) (keep x) refl refl h (any_filter f keep kept xs)
  where
    by_first : (b c : Bool) → f x ≡ b → keep x ≡ c → (b || list_any f xs) ≡ true → (list_any f xs ≡ true → list_any f (filter keep xs) ≡ true) → list_any f (cond c (x ∷ filter keep xs) (filter keep xs)) ≡ true
    by_first true true e k h later = or_left (f x) (list_any f (filter keep xs)) e
    by_first true false e k h later = clash (keep x) (kept x e) k
    by_first false true e k h later = or_right (f x) (list_any f (filter keep xs)) (later h)
    by_first false false e k h later = later h

pub any_right : {X : Type 0} (f : X → Bool) (xs ys : List X) → list_any f ys ≡ true → list_any f (xs ++ ys) ≡ true
any_right f [] ys h = h
any_right f (x ∷ xs) ys h = or_right (f x) (list_any f (xs ++ ys)) (any_right f xs ys h)

pub any_left : {X : Type 0} (f : X → Bool) (xs ys : List X) → list_any f xs ≡ true → list_any f (xs ++ ys) ≡ true
any_left f [] ys h = absurd (false≢true h)
any_left {X} f (x ∷ xs) ys h = by_first (f x) h (any_left f xs ys)
  where
    by_first : (b : Bool) → (b || list_any f xs) ≡ true → (list_any f xs ≡ true → list_any f (xs ++ ys) ≡ true) → (b || list_any f (xs ++ ys)) ≡ true
    by_first true h later = refl
    by_first false h later = later h

pub all_left : {X : Type 0} (f : X → Bool) (xs ys : List X) → list_all f (xs ++ ys) ≡ true → list_all f xs ≡ true
all_left f [] ys h = refl
all_left f (x ∷ xs) ys h = both_true (left_true (f x) (list_all f (xs ++ ys)) h) (all_left f xs ys (right_true (f x) (list_all f (xs ++ ys)) h))

pub all_right : {X : Type 0} (f : X → Bool) (xs ys : List X) → list_all f (xs ++ ys) ≡ true → list_all f ys ≡ true
all_right f [] ys h = h
all_right f (x ∷ xs) ys h = all_right f xs ys (right_true (f x) (list_all f (xs ++ ys)) h)

pub all_both : {X : Type 0} (f : X → Bool) (xs ys : List X) → list_all f xs ≡ true → list_all f ys ≡ true → list_all f (xs ++ ys) ≡ true
all_both f [] ys h k = k
all_both f (x ∷ xs) ys h k = both_true (left_true (f x) (list_all f xs) h) (all_both f xs ys (right_true (f x) (list_all f xs) h) k)

-- what is in two lists is in one of them
pub any_of_two : {X : Type 0} (f : X → Bool) (xs ys : List X) (Q : Type 0) → list_any f (xs ++ ys) ≡ true → (list_any f xs ≡ true → Q) → (list_any f ys ≡ true → Q) → Q
any_of_two f [] ys Q h first second = second h
any_of_two {X} f (x ∷ xs) ys Q h first second = by_case (f x) refl h (λ h. any_of_two f xs ys Q h (λ k. first (or_right (f x) (list_any f xs) k)) second)
  where
    by_case : (b : Bool) → f x ≡ b → (b || list_any f (xs ++ ys)) ≡ true → (list_any f (xs ++ ys) ≡ true → Q) → Q
    by_case true e h later = first (or_left (f x) (list_any f xs) e)
    by_case false e h later = later h

pub filter_two : {X : Type 0} (keep : X → Bool) (xs ys : List X) → filter keep (xs ++ ys) ≡ filter keep xs ++ filter keep ys
filter_two keep [] ys = refl
filter_two {X} keep (x ∷ xs) ys = by_keep (keep x) (filter_two keep xs ys)
  where
    by_keep : (b : Bool) → filter keep (xs ++ ys) ≡ filter keep xs ++ filter keep ys → cond b (x ∷ filter keep (xs ++ ys)) (filter keep (xs ++ ys)) ≡ cond b (x ∷ filter keep xs) (filter keep xs) ++ filter keep ys
    by_keep true e = ap (λ (zs : List X). x ∷ zs) e
    by_keep false e = e
