-- Tests joined by OR, and lists that have one that passes.
use Rattle.std.proofs.Common.{◌≡◌, ◌≤◌, ◌<◌, ◌+◌, ℕ, Bool, true, false, ◌||◌, cond, nat_eq, List, [], ◌∷◌, ◌++◌, length, drop, get_or, Result, Ok, Err, IfOk, OnOk, refl, sym, ap, ◌∙◌, eqb-true}
use Rattle.std.specs.List.{list_any}
use Rattle.std.proofs.lemmas.Bool.{false≢true}
use Rattle.std.proofs.lemmas.List.{drop_more, drop_all}
use Rattle.std.proofs.lemmas.List.Folds.{list_any-append}

pub or_false : (b : Bool) → b || false ≡ b
or_false true = refl
or_false false = refl

pub or_true : (b : Bool) → b || true ≡ true
or_true true = refl
or_true false = refl

pub or_grouped : (a b c : Bool) → (a || b) || c ≡ a || (b || c)
or_grouped true b c = refl
or_grouped false b c = refl

pub or_swapped : (a b : Bool) → a || b ≡ b || a
or_swapped true b = sym (or_true b)
or_swapped false b = sym (or_false b)

pub any_last : {X : Type 0} (t : X → Bool) (xs : List X) (x : X) → list_any t (xs ++ x ∷ []) ≡ list_any t xs || t x
any_last t xs x = list_any-append t xs (x ∷ []) ∙ ap (λ b. list_any t xs || b) (or_false (t x))

or_again : (a b c : Bool) → a ≡ c → a || b ≡ (a || b) || c
or_again true b c e = refl
or_again false b c e = sym (or_false b) ∙ ap (λ d. b || d) e

-- ---- one more, if it is new

module _ {X : Type 0} (key : X → ℕ) (t : X → Bool) (respects : (x y : X) → key x ≡ key y → t x ≡ t y) where
  abbrev same : X → X → Bool
  same x y = nat_eq (key x) (key y)

  -- with a second one of the same key, no more passes
  passed : (x : X) (xs : List X) → list_any (same x) xs ≡ true → list_any t xs ≡ list_any t xs || t x
  passed x [] h = absurd (false≢true h)
  passed x (y ∷ ys) h = by_case (same x y) refl h (passed x ys)
    where
      by_case : (b : Bool) → same x y ≡ b → b || list_any (same x) ys ≡ true → (list_any (same x) ys ≡ true → list_any t ys ≡ list_any t ys || t x)
          → t y || list_any t ys ≡ (t y || list_any t ys) || t x
      by_case true e k later = or_again (t y) (list_any t ys) (t x) (sym (respects x y (eqb-true (key x) (key y) e)))
      by_case false e k later = ap (λ b. t y || b) (later k) ∙ sym (or_grouped (t y) (list_any t ys) (t x))

  pub one_more : (xs : List X) (x : X) → list_any t (cond (list_any (same x) xs) xs (xs ++ x ∷ [])) ≡ list_any t xs || t x
  one_more xs x = by_case (list_any (same x) xs) refl
    where
      by_case : (b : Bool) → list_any (same x) xs ≡ b → list_any t (cond b xs (xs ++ x ∷ [])) ≡ list_any t xs || t x
      by_case true h = passed x xs h
      by_case false h = any_last t xs x

-- ---- a loop that adds to what passes

module _ {X A : Type 0} (m : X → A → Bool) (xs : List X) (i : ℕ) (before start : A → Bool)
    (so_far : (q : A) → before q || list_any (λ x. m x q) (drop i xs) ≡ start q) where
  pub turn : (after : A → Bool) (d : X) → i < length xs → ((q : A) → after q ≡ before q || m (get_or xs i d) q) → (q : A)
      → after q || list_any (λ y. m y q) (drop (i + 1) xs) ≡ start q
  turn after d below adds q =
      ap (λ b. b || list_any (λ y. m y q) (drop (i + 1) xs)) (adds q) ∙ or_grouped (before q) (m (get_or xs i d) q) (list_any (λ y. m y q) (drop (i + 1) xs))
      ∙ ap (λ ys. before q || list_any (λ y. m y q) ys) (sym (drop_more xs i d below)) ∙ so_far q

  pub end : length xs ≤ i → (q : A) → before q ≡ start q
  end over q = sym (or_false (before q)) ∙ ap (λ ys. before q || list_any (λ y. m y q) ys) (sym (drop_all i xs over)) ∙ so_far q

-- ---- results

pub if_ok : {T E : Type 0} (r : Result T E) {P Q : T → Type 0} → IfOk r P → ((t : T) → P t → Q t) → IfOk r Q
if_ok (Ok t) p next = next t p
if_ok (Err e) p next = tt

pub on_ok : {T E P Q : Type 0} (r : Result T E) → OnOk r P → (P → Q) → OnOk r Q
on_ok (Ok t) p next = next p
on_ok (Err e) p next = tt
