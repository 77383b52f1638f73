-- Membership in lists of terms, and terms that are added where they are new.
use Rattle.std.proofs.Common.{◌≡◌, Bool, true, false, cond, ◌||◌, List, [], ◌∷◌, ◌++◌, refl, ap, ◌∙◌}
use Rattle.std.specs.List.{list_any}
use Rattle.std.proofs.lemmas.Bool.{false≢true}
use Rattle.spv_logic.specs.Terms.{Term, term_eq}
use Rattle.spv_logic.proofs.Equality.{term_eq-true, term_eq-refl}
use Rattle.spv_atoms.specs.Atoms.{with_term, with_terms, only_if}
use Rattle.spv_atoms.specs.Order.{passing}

abbrev pub has : List Term → Term → Bool
has xs t = list_any (term_eq t) xs

-- each of these is among the others
abbrev pub AllIn : List Term → List Term → Type 0
AllIn xs [] = Unit {0}
AllIn xs (t ∷ ts) = (has xs t ≡ true) × AllIn xs ts

pub or_right : (a b : Bool) → b ≡ true → (a || b) ≡ true
or_right true b h = refl
or_right false b h = h

pub or_left : (a b : Bool) → a ≡ true → (a || b) ≡ true
or_left true b h = refl
or_left false b h = absurd (false≢true h)

pub or_cases : {A : Type 0} (a b : Bool) → (a || b) ≡ true → (a ≡ true → A) → (b ≡ true → A) → A
or_cases true b h f g = f refl
or_cases false b h f g = g h

pub has-left : (xs ys : List Term) (t : Term) → has xs t ≡ true → has (xs ++ ys) t ≡ true
has-left [] ys t h = absurd (false≢true h)
has-left (x ∷ xs) ys t h = or_cases (term_eq t x) (has xs t) h (λ e. or_left (term_eq t x) (has (xs ++ ys) t) e) (λ e. or_right (term_eq t x) (has (xs ++ ys) t) (has-left xs ys t e))

pub has-right : (xs ys : List Term) (t : Term) → has ys t ≡ true → has (xs ++ ys) t ≡ true
has-right [] ys t h = h
has-right (x ∷ xs) ys t h = or_right (term_eq t x) (has (xs ++ ys) t) (has-right xs ys t h)

pub has-last : (xs : List Term) (t : Term) → has (xs ++ t ∷ []) t ≡ true
has-last xs t = has-right xs (t ∷ []) t (or_left (term_eq t t) false (term_eq-refl t))

-- what is among both parts is in one of them
pub has-parts : {A : Type 0} (xs ys : List Term) (t : Term) → has (xs ++ ys) t ≡ true → (has xs t ≡ true → A) → (has ys t ≡ true → A) → A
has-parts [] ys t h f g = g h
has-parts (x ∷ xs) ys t h f g =
    or_cases (term_eq t x) (has (xs ++ ys) t) h (λ e. f (or_left (term_eq t x) (has xs t) e))
    (λ e. has-parts xs ys t e (λ k. f (or_right (term_eq t x) (has xs t) k)) g)

pub has_one : (t u : Term) → has (u ∷ []) t ≡ true → t ≡ u
has_one t u h = or_cases (term_eq t u) false h (λ e. term_eq-true t u e) (λ e. absurd (false≢true e))

-- ---- terms that are added

pub with_term-known : (xs : List Term) (t : Term) → has xs t ≡ true → with_term xs t ≡ xs
with_term-known xs t h = ap (λ b. cond b xs (xs ++ t ∷ [])) h

pub with_term-new : (xs : List Term) (t : Term) → has xs t ≡ false → with_term xs t ≡ xs ++ t ∷ []
with_term-new xs t h = ap (λ b. cond b xs (xs ++ t ∷ [])) h

pub has-with_term : (xs : List Term) (t u : Term) → has xs u ≡ true → has (with_term xs t) u ≡ true
has-with_term xs t u h = by_case (has xs t)
  where
    by_case : (b : Bool) → has (cond b xs (xs ++ t ∷ [])) u ≡ true
    by_case true = h
    by_case false = has-left xs (t ∷ []) u h

pub with_term-has : (xs : List Term) (t : Term) → has (with_term xs t) t ≡ true
with_term-has xs t = by_case (has xs t) refl
  where
    by_case : (b : Bool) → has xs t ≡ b → has (cond b xs (xs ++ t ∷ [])) t ≡ true
    by_case true e = e
    by_case false e = has-last xs t

pub has-with_terms : (xs ts : List Term) (u : Term) → has xs u ≡ true → has (with_terms xs ts) u ≡ true
has-with_terms xs [] u h = h
has-with_terms xs (t ∷ ts) u h = has-with_terms (with_term xs t) ts u (has-with_term xs t u h)

pub with_terms-has : (xs ts : List Term) (u : Term) → has ts u ≡ true → has (with_terms xs ts) u ≡ true
with_terms-has xs [] u h = absurd (false≢true h)
with_terms-has xs (t ∷ ts) u h =
    or_cases (term_eq u t) (has ts u) h
    (λ e. has-with_terms (with_term xs t) ts u (ap (has (with_term xs t)) (term_eq-true u t e) ∙ with_term-has xs t))
    (λ e. with_terms-has (with_term xs t) ts u e)

pub with_terms-append : (xs ts us : List Term) → with_terms xs (ts ++ us) ≡ with_terms (with_terms xs ts) us
with_terms-append xs [] us = refl
with_terms-append xs (t ∷ ts) us = with_terms-append (with_term xs t) ts us

pub with_terms-known : (xs ts : List Term) → AllIn xs ts → with_terms xs ts ≡ xs
with_terms-known xs [] h = refl
with_terms-known xs (t ∷ ts) h = ap (λ ys. with_terms ys ts) (with_term-known xs t h.0) ∙ with_terms-known xs ts h.1

pub AllIn-more : (xs ys ts : List Term) → ((t : Term) → has xs t ≡ true → has ys t ≡ true) → AllIn xs ts → AllIn ys ts
AllIn-more xs ys [] sub h = tt
AllIn-more xs ys (t ∷ ts) sub h = (sub t h.0, AllIn-more xs ys ts sub h.1)

pub AllIn-append : (xs ts us : List Term) → AllIn xs ts → AllIn xs us → AllIn xs (ts ++ us)
AllIn-append xs [] us h k = k
AllIn-append xs (t ∷ ts) us h k = (h.0, AllIn-append xs ts us h.1 k)

pub AllIn-self : (xs ts : List Term) → ((t : Term) → has ts t ≡ true → has xs t ≡ true) → AllIn xs ts
AllIn-self xs [] sub = tt
AllIn-self xs (t ∷ ts) sub =
    (sub t (or_left (term_eq t t) (has ts t) (term_eq-refl t)), AllIn-self xs ts (λ u h. sub u (or_right (term_eq u t) (has ts u) h)))

-- ---- terms that pass a test

pub passing-append : (test : Term → Bool) (xs ys : List Term) → passing test (xs ++ ys) ≡ passing test xs ++ passing test ys
passing-append test [] ys = refl
passing-append test (x ∷ xs) ys = by_case (test x) (passing-append test xs ys)
  where
    by_case : (b : Bool) → passing test (xs ++ ys) ≡ passing test xs ++ passing test ys → (only_if b x ++ passing test (xs ++ ys)) ≡ (only_if b x ++ passing test xs) ++ passing test ys
    by_case true e = ap (λ zs. x ∷ zs) e
    by_case false e = e
