-- Terms that are neither negations nor FALSE, and lists of terms without the others.
use Rattle.std.proofs.Common.{◌≡◌, Bool, true, false, List, [], ◌∷◌, ◌++◌, ◌||◌, refl, sym, ap, ◌∙◌}
use Rattle.std.specs.List.{list_any, flat_map}
use Rattle.std.proofs.lemmas.Bool.{false≢true}
use Rattle.std.proofs.lemmas.List.{append-nil}
use Rattle.spv_logic.specs.declared.operators.Head.TheVariants.{Not, False}
use Rattle.spv_logic.specs.Terms.{Term, Terms, term, term_eq}
use Rattle.spv_logic.proofs.Equality.{term_eq-refl}
use Rattle.spv_atoms.specs.Atoms.{only_if, with_term, with_terms}
use Rattle.spv_atoms.specs.Order.{passing}
use Rattle.spv_atoms.proofs.Members.{has, or_left, or_right, with_term-known, with_term-new, passing-append}
use Rattle.spv_models.proofs.leaf_models.Lookups.{has-passing, passing-parts}

-- whether a term is neither a negation nor FALSE
abbrev pub remains : Term → Bool
remains (term Not ts) = false
remains (term False ts) = false
remains _ = true

abbrev pub remaining : List Term → List Term
remaining ts = passing remains ts

-- a term that is left out
pub data IsLeftOut : Term → Type 0 where
  negated : (ts : Terms) → IsLeftOut (term Not ts)
  untrue : (ts : Terms) → IsLeftOut (term False ts)

pub left_out : (t : Term) → remains t ≡ false → IsLeftOut t
left_out (term Not ts) e = negated ts
left_out (term False ts) e = untrue ts
left_out (term h ts) e = absurd (false≢true (sym e))

-- ---- truth values

pub one_truth : (a b : Bool) → (a ≡ true → b ≡ true) → (b ≡ true → a ≡ true) → a ≡ b
one_truth true b f g = sym (f refl)
one_truth false true f g = g refl
one_truth false false f g = refl

-- ---- terms that pass a test

-- a test that passes less may be made behind one that passes more
pub passing-through : (less more : Term → Bool) (ts : List Term) → ((t : Term) → more t ≡ false → less t ≡ false) → passing less (passing more ts) ≡ passing less ts
passing-through less more [] h = refl
passing-through less more (t ∷ ts) h = by (more t) refl (passing-through less more ts h)
  where
    by : (b : Bool) → more t ≡ b → passing less (passing more ts) ≡ passing less ts → passing less (only_if b t ++ passing more ts) ≡ only_if (less t) t ++ passing less ts
    by true e later = ap (λ us. only_if (less t) t ++ us) later
    by false e later = later ∙ ap (λ b. only_if b t ++ passing less ts) (sym (h t e))

pub has-passing-same : (test : Term → Bool) (ts : List Term) (t : Term) → test t ≡ true → has (passing test ts) t ≡ has ts t
has-passing-same test ts t e = one_truth (has (passing test ts) t) (has ts t) (λ m. (passing-parts test ts t m).among) (λ m. has-passing test ts t m e)

pub passing-with_term : (test : Term → Bool) (ts : List Term) (t : Term) → passing test (with_term ts t) ≡ with_terms (passing test ts) (only_if (test t) t)
passing-with_term test ts t = by (test t) (has ts t) refl refl
  where
    more : has ts t ≡ false → (b : Bool) → test t ≡ b → passing test (with_term ts t) ≡ passing test ts ++ (only_if b t ++ [])
    more m b e = ap (passing test) (with_term-new ts t m) ∙ (passing-append test ts (t ∷ []) ∙ ap (λ c. passing test ts ++ (only_if c t ++ [])) e)

    by : (b c : Bool) → test t ≡ b → has ts t ≡ c → passing test (with_term ts t) ≡ with_terms (passing test ts) (only_if b t)
    by true true e m = ap (passing test) (with_term-known ts t m) ∙ sym (with_term-known (passing test ts) t (has-passing test ts t m e))
    by true false e m = more m true e ∙ sym (with_term-new (passing test ts) t (has-passing-same test ts t e ∙ m))
    by false true e m = ap (passing test) (with_term-known ts t m)
    by false false e m = more m false e ∙ append-nil (passing test ts)

-- tests that agree on these terms pass the same
pub passing-same : (one other : Term → Bool) (ts : List Term) → ((t : Term) → has ts t ≡ true → one t ≡ other t) → passing one ts ≡ passing other ts
passing-same one other [] h = refl
passing-same one other (t ∷ ts) h =
    ap (λ b. only_if b t ++ passing one ts) (h t (or_left (term_eq t t) (has ts t) (term_eq-refl t)))
    ∙ ap (λ us. only_if (other t) t ++ us) (passing-same one other ts (λ u m. h u (or_right (term_eq u t) (has ts u) m)))

-- ---- what comes of each term

-- terms of which nothing comes may be left out
pub flat_map-passing : {A : Type 0} (test : Term → Bool) (f : Term → List A) (ts : List Term) → ((t : Term) → test t ≡ false → f t ≡ []) → flat_map f (passing test ts) ≡ flat_map f ts
flat_map-passing test f [] h = refl
flat_map-passing test f (t ∷ ts) h = by (test t) refl (flat_map-passing test f ts h)
  where
    by : (b : Bool) → test t ≡ b → flat_map f (passing test ts) ≡ flat_map f ts → flat_map f (only_if b t ++ passing test ts) ≡ f t ++ flat_map f ts
    by true e later = ap (λ us. f t ++ us) later
    by false e later = later ∙ ap (λ us. us ++ flat_map f ts) (sym (h t e))

-- where the same comes of each, the same comes of all
pub flat_map-same : {X A : Type 0} (f g : X → List A) (xs : List X) → ((x : X) → f x ≡ g x) → flat_map f xs ≡ flat_map g xs
flat_map-same f g [] h = refl
flat_map-same f g (x ∷ xs) h = ap (λ us. us ++ flat_map f xs) (h x) ∙ ap (λ us. g x ++ us) (flat_map-same f g xs h)

pub any-passing : (test keeps : Term → Bool) (ts : List Term) → ((t : Term) → keeps t ≡ false → test t ≡ false) → list_any test (passing keeps ts) ≡ list_any test ts
any-passing test keeps [] h = refl
any-passing test keeps (t ∷ ts) h = by (keeps t) refl (any-passing test keeps ts h)
  where
    by : (b : Bool) → keeps t ≡ b → list_any test (passing keeps ts) ≡ list_any test ts → list_any test (only_if b t ++ passing keeps ts) ≡ (test t || list_any test ts)
    by true e later = ap (λ b. test t || b) later
    by false e later = later ∙ ap (λ b. b || list_any test ts) (sym (h t e))
