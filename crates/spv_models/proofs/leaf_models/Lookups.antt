-- What lists that are made of a list of terms have: those that pass a test, those of each term, and the numbers beside them.
use Rattle.std.proofs.Common.{◌≡◌, ℕ, zero, suc, Bool, true, false, cond, List, [], ◌∷◌, ◌++◌, map, refl, sym, ap, ◌∙◌, subst, Some}
use Rattle.std.specs.Prelude.{slice_get}
use Rattle.std.specs.List.{flat_map}
use Rattle.std.proofs.lemmas.Bool.{false≢true}
use Rattle.std.proofs.lemmas.Option.{same_Some}
use Rattle.spv_whole.specs.Fraction.{Fraction}
use Rattle.spv_logic.specs.Terms.{Term, term_eq}
use Rattle.spv_logic.proofs.Equality.{term_eq-true, term_eq-refl}
use Rattle.spv_atoms.specs.Atoms.{only_if}
use Rattle.spv_atoms.specs.Order.{passing}
use Rattle.spv_atoms.proofs.Members.{has, or_cases, or_left, or_right, has-left, has-right, has-parts, has_one}
use Rattle.spv_table.specs.Values.{listed_in}

-- ---- terms that pass a test

pub has-only_if : (b : Bool) (u t : Term) (rest : List Term) → b ≡ true → t ≡ u → has (only_if b u ++ rest) t ≡ true
has-only_if b u t rest h e = ap (λ c. has (only_if c u ++ rest) t) h ∙ or_left (term_eq t u) (has rest t) (ap (term_eq t) (sym e) ∙ term_eq-refl t)

pub has-passing : (test : Term → Bool) (ts : List Term) (t : Term) → has ts t ≡ true → test t ≡ true → has (passing test ts) t ≡ true
has-passing test [] t h p = h
has-passing test (u ∷ us) t h p =
    or_cases (term_eq t u) (has us t) h
    (λ e. let is : t ≡ u = term_eq-true t u e in has-only_if (test u) u t (passing test us) (ap test (sym is) ∙ p) is)
    (λ e. has-right (only_if (test u) u) (passing test us) t (has-passing test us t e p))

-- a term is among these and passes the test
pub record IsPassing (test : Term → Bool) (ts : List Term) (t : Term) : Type 0 where
  pub among : has ts t ≡ true
  pub passes : test t ≡ true

pub passing-parts : (test : Term → Bool) (ts : List Term) (t : Term) → has (passing test ts) t ≡ true → IsPassing test ts t
passing-parts test [] t h = absurd (false≢true h)
passing-parts test (u ∷ us) t h =
    has-parts (only_if (test u) u) (passing test us) t h (by_case (test u) refl)
    (λ k. let p = passing-parts test us t k in record { among = or_right (term_eq t u) (has us t) p.among; passes = p.passes })
  where
    by_case : (b : Bool) → test u ≡ b → has (only_if b u) t ≡ true → IsPassing test (u ∷ us) t
    by_case true e k =
        let is : t ≡ u = has_one t u k in
        record { among = or_left (term_eq t u) (has us t) (ap (term_eq t) (sym is) ∙ term_eq-refl t); passes = ap test is ∙ e }
    by_case false e k = absurd (false≢true k)

-- ---- the terms of each term

pub has-flat_map : (f : Term → List Term) (ts : List Term) (t e : Term) → has ts t ≡ true → has (f t) e ≡ true → has (flat_map f ts) e ≡ true
has-flat_map f [] t e h k = absurd (false≢true h)
has-flat_map f (u ∷ us) t e h k =
    or_cases (term_eq t u) (has us t) h
    (λ same. has-left (f u) (flat_map f us) e (ap (λ x. has (f x) e) (sym (term_eq-true t u same)) ∙ k))
    (λ later. has-right (f u) (flat_map f us) e (has-flat_map f us t e later k))

-- ---- numbers beside terms

abbrev pub beside : (Term → Fraction) → List Term → List (Term × Fraction)
beside n ts = map (λ t. (t, n t)) ts

pub listed-beside : (n : Term → Fraction) (ts : List Term) (t : Term) → has ts t ≡ true → listed_in (beside n ts) t ≡ n t
listed-beside n [] t h = absurd (false≢true h)
listed-beside n (u ∷ us) t h = by_case (term_eq u t) refl (listed-beside n us t)
  where
    by_case : (b : Bool) → term_eq u t ≡ b → (has us t ≡ true → listed_in (beside n us) t ≡ n t) → cond b (n u) (listed_in (beside n us) t) ≡ n t
    by_case true e later = ap n (term_eq-true u t e)
    by_case false e later = or_cases (term_eq t u) (has us t) h (λ k. absurd (false≢true (sym e ∙ (ap (term_eq u) (term_eq-true t u k) ∙ term_eq-refl u)))) later

pub beside-terms : (n : Term → Fraction) (ts : List Term) → map (λ (p : Term × Fraction). p.0) (beside n ts) ≡ ts
beside-terms n [] = refl
beside-terms n (t ∷ ts) = ap (λ us. t ∷ us) (beside-terms n ts)

-- a row is a term of the list with its number
pub record IsBeside (n : Term → Fraction) (ts : List Term) (p : Term × Fraction) : Type 0 where
  pub among : has ts p.0 ≡ true
  pub is : p.1 ≡ n p.0

pub beside-at : (n : Term → Fraction) (ts : List Term) (i : ℕ) (p : Term × Fraction) → slice_get (beside n ts) i ≡ Some p → IsBeside n ts p
beside-at n [] i p e = absurd (cc)
beside-at n (t ∷ ts) zero p e =
    let row : Term × Fraction = (t, n t) in
    subst (IsBeside n (t ∷ ts)) (same_Some row p e) (record { among = or_left (term_eq t t) (has ts t) (term_eq-refl t); is = refl })
beside-at n (t ∷ ts) (suc i) p e =
    let b = beside-at n ts i p e in
    record { among = or_right (term_eq p.0 t) (has ts p.0) b.among; is = b.is }
