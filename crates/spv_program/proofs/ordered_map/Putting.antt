-- Names that are put behind others one by one.
use Rattle.std.proofs.Common.{◌≡◌, ℕ, zero, suc, Bool, true, false, cond, List, [], ◌∷◌, ◌++◌, map, take, slice_get, Option, Some, None, is_some, refl, sym, ap, subst, ◌∙◌, ◌+◌}
use Rattle.std.proofs.lemmas.Option.{none-some}
use Rattle.std.proofs.lemmas.List.{append_assoc}
use Rattle.std.proofs.lemmas.Bool.{true≢false}
use Rattle.spv_logic.proofs.list.Tests.{left_false, right_false}
use native.Mathlib.Numerals.{unary_clauses}
use Rattle.std.specs.List.{list_any}
use Rattle.spv_logic.specs.declared.names.names.Symbol.{Symbol}
use Rattle.spv_program.specs.Lists.{found, same_name}
use Rattle.spv_program.specs.ordered_map.Entries.{under}

abbrev test_on : {Y : Type 0} → (Symbol → Bool) → Option (Symbol × Y) → Bool
test_on test None = false
test_on test (Some e) = test e.0

abbrev value_or : {X : Type 0} → X → Option X → X
value_or x None = x
value_or x (Some y) = y

-- a name that two lists do not have
pub still_new : {X : Type 0} (xs ys : List (Symbol × X)) (name : Symbol) → found xs name ≡ None → found ys name ≡ None → found (xs ++ ys) name ≡ None
still_new [] ys name f g = g
still_new (x ∷ xs) ys name f g = by_case (same_name x.0 name) f (still_new xs ys name)
  where
    by_case : (b : Bool) → cond b (Some x.1) (found xs name) ≡ None → (found xs name ≡ None → found ys name ≡ None → found (xs ++ ys) name ≡ None)
        → cond b (Some x.1) (found (xs ++ ys) name) ≡ None
    by_case true h more = absurd (none-some _ (sym h))
    by_case false h more = more h g

-- what stands under a name does not matter
pub none_under : {X Y : Type 0} (x : X) (ys : List (Symbol × Y)) (name : Symbol) → found ys name ≡ None → found (map (under x) ys) name ≡ None
none_under x [] name f = refl
none_under x (y ∷ ys) name f = by_case (same_name y.0 name) f (none_under x ys name)
  where
    by_case : (b : Bool) → cond b (Some y.1) (found ys name) ≡ None → (found ys name ≡ None → found (map (under x) ys) name ≡ None)
        → cond b (Some x) (found (map (under x) ys) name) ≡ None
    by_case true h more = absurd (none-some _ (sym h))
    by_case false h more = more h

pub none_at : {Y : Type 0} (ys : List (Symbol × Y)) (test : Symbol → Bool) (n : ℕ) (e : Symbol × Y) → list_any (λ y. test y.0) ys ≡ false → slice_get ys n ≡ Some e → test e.0 ≡ false
none_at [] test n e h at = absurd (none-some _ at)
none_at {Y} (y ∷ ys) test zero e h at = subst (λ (o : Option (Symbol × Y)). test_on test o ≡ false) at (left_false (test y.0) _ h)
none_at (y ∷ ys) test (suc n) e h at = none_at ys test n e (right_false (test y.0) _ h) at

is_none : {X : Type 0} (o : Option X) → is_some o ≡ false → o ≡ None
is_none None h = refl
is_none (Some x) h = absurd (true≢false h)

-- a further name is new behind those that were put before it
pub next_is_new : {X Y : Type 0} (old put : List (Symbol × X)) (ys : List (Symbol × Y)) (n : ℕ) (e : Symbol × Y)
    → list_any (λ y. is_some (found old y.0)) ys ≡ false → slice_get ys n ≡ Some e → found put e.0 ≡ None → found (old ++ put) e.0 ≡ None
next_is_new old put ys n e h at earlier =
    still_new old put e.0 (is_none (found old e.0) (none_at ys (λ x. is_some (found old x)) n e h at)) earlier

-- one name more is put
pub one_more : {Z Y : Type 0} (f : Symbol × Y → Z) (old : List Z) (ys : List (Symbol × Y)) (n : ℕ) (e : Symbol × Y)
    → slice_get ys n ≡ Some e → (old ++ map f (take n ys)) ++ f e ∷ [] ≡ old ++ map f (take (n + 1) ys)
one_more {Z} {Y} f old ys n e at = simp unary_clauses (append_assoc old (map f (take n ys)) (f e ∷ []) ∙ ap (λ zs. old ++ zs) (step ys n at))
  where
    step : (zs : List _) (k : ℕ) → slice_get zs k ≡ Some e → map f (take k zs) ++ f e ∷ [] ≡ map f (take (suc k) zs)
    step [] k h = absurd (none-some _ h)
    step (z ∷ zs) zero h = ap (λ (o : Option (Symbol × Y)). f (value_or z o) ∷ []) (sym h)
    step (z ∷ zs) (suc k) h = ap (λ l. f z ∷ l) (step zs k h)

pub one_copied : {X : Type 0} (old ys : List (Symbol × X)) (n : ℕ) (e : Symbol × X)
    → slice_get ys n ≡ Some e → (old ++ take n ys) ++ e ∷ [] ≡ old ++ take (n + 1) ys
one_copied {X} old ys n e at = simp unary_clauses (append_assoc old (take n ys) (e ∷ []) ∙ ap (λ zs. old ++ zs) (step ys n at))
  where
    step : (zs : List _) (k : ℕ) → slice_get zs k ≡ Some e → take k zs ++ e ∷ [] ≡ take (suc k) zs
    step [] k h = absurd (none-some _ h)
    step (z ∷ zs) zero h = ap (λ (o : Option (Symbol × X)). value_or z o ∷ []) (sym h)
    step (z ∷ zs) (suc k) h = ap (λ l. z ∷ l) (step zs k h)
