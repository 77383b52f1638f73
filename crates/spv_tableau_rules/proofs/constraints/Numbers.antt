-- Combinations as functions that give each term its number.
use Rattle.std.proofs.Common.{◌≡◌, Bool, true, false, cond, ◌||◌, List, [], ◌∷◌, ℤ, pos, refl, sym, ap, ◌∙◌}
use Rattle.std.specs.List.{list_all}
use Rattle.spv_frac.specs.rational.Rational.{Rational, whole, plus, times, is_zero}
use Rattle.spv_frac.proofs.rational.Field.{plus_zero, zero_plus, times_zero}
use Rattle.spv_logic.specs.Terms.{Term, term_eq}
use Rattle.spv_logic.proofs.Equality.{term_eq-true, term_eq-refl}
use Rattle.spv_atoms.specs.Forms.{Form, with_part, with_parts}
use Rattle.spv_atoms.specs.Linear.{coefficient}
use Rattle.spv_atoms.proofs.Coefficients.{AreDifferent, has_part, none_listed, both_true}
use Rattle.spv_proof_rules.specs.Sums.{Combination, add_form}
use Rattle.spv_tableau_rules.specs.tableaux.Numbers.{nothing}
use Rattle.spv_tableau_rules.proofs.pivots.Tests.{or_left, or_right}

-- what a term is multiplied by
abbrev pub number_at : List (Term × Rational) → Term → Rational
number_at [] x = nothing
number_at (p ∷ parts) x = cond (term_eq p.0 x) p.1 (number_at parts x)

abbrev pub is_listed : List (Term × Rational) → Term → Bool
is_listed [] x = false
is_listed (p ∷ parts) x = term_eq p.0 x || is_listed parts x

-- no term is listed twice
abbrev pub AreSingle : List (Term × Rational) → Type 0
AreSingle [] = Unit {0}
AreSingle (p ∷ parts) = (is_listed parts p.0 ≡ false) × AreSingle parts

-- ---- terms that differ

neither : (a b : Bool) → a ≡ false → b ≡ false → (a || b) ≡ false
neither true b h k = h
neither false b h k = k

-- of two terms that differ, what is the one is not the other
apart : (p t x : Term) → term_eq p t ≡ false → term_eq p x ≡ true → term_eq t x ≡ false
apart p t x f e = by_case (term_eq t x) refl
  where
    by_case : (b : Bool) → term_eq t x ≡ b → b ≡ false
    by_case false g = refl
    by_case true g = sym (ap (λ u. term_eq u t) (term_eq-true p x e ∙ sym (term_eq-true t x g)) ∙ term_eq-refl t) ∙ f

-- ---- one part more

-- the number of a term, where n more is given to t
abbrev with_number : Term → Rational → Term → Rational → Rational
with_number t n x y = cond (term_eq t x) (plus y n) y

part-number : (t : Term) (n : Rational) (parts : List (Term × Rational)) (x : Term) → number_at (with_part plus t n parts) x ≡ with_number t n x (number_at parts x)
part-number t n [] x = ap (λ m. cond (term_eq t x) m nothing) (sym (zero_plus n))
part-number t n (p ∷ parts) x = by_case (term_eq p.0 t) refl (term_eq p.0 x) refl (part-number t n parts x)
  where
    by_case : (b : Bool) → term_eq p.0 t ≡ b → (c : Bool) → term_eq p.0 x ≡ c → number_at (with_part plus t n parts) x ≡ with_number t n x (number_at parts x)
        → number_at (cond b ((p.0, plus p.1 n) ∷ parts) (p ∷ with_part plus t n parts)) x ≡ with_number t n x (cond (term_eq p.0 x) p.1 (number_at parts x))
    by_case true e true f later =
        ap (λ c. cond c (plus p.1 n) (number_at parts x)) f
        ∙ sym (ap (λ c. with_number t n x (cond c p.1 (number_at parts x))) f ∙ ap (λ c. cond c (plus p.1 n) p.1) (ap (λ u. term_eq u x) (sym (term_eq-true p.0 t e)) ∙ f))
    by_case true e false f later =
        ap (λ c. cond c (plus p.1 n) (number_at parts x)) f
        ∙ sym (ap (λ c. with_number t n x (cond c p.1 (number_at parts x))) f
        ∙ ap (λ c. cond c (plus (number_at parts x) n) (number_at parts x)) (ap (λ u. term_eq u x) (sym (term_eq-true p.0 t e)) ∙ f))
    by_case false e true f later =
        ap (λ c. cond c p.1 (number_at (with_part plus t n parts) x)) f
        ∙ sym (ap (λ c. with_number t n x (cond c p.1 (number_at parts x))) f ∙ ap (λ c. cond c (plus p.1 n) p.1) (apart p.0 t x e f))
    by_case false e false f later =
        ap (λ c. cond c p.1 (number_at (with_part plus t n parts) x)) f ∙ (later ∙ sym (ap (λ c. with_number t n x (cond c p.1 (number_at parts x))) f))

part-listed : (t : Term) (n : Rational) (parts : List (Term × Rational)) (x : Term) → is_listed parts x ≡ false → term_eq t x ≡ false → is_listed (with_part plus t n parts) x ≡ false
part-listed t n [] x h k = neither (term_eq t x) false k refl
part-listed t n (p ∷ parts) x h k = by_case (term_eq p.0 t) (part-listed t n parts x (or_right (term_eq p.0 x) (is_listed parts x) h) k)
  where
    by_case : (b : Bool) → is_listed (with_part plus t n parts) x ≡ false → is_listed (cond b ((p.0, plus p.1 n) ∷ parts) (p ∷ with_part plus t n parts)) x ≡ false
    by_case true later = h
    by_case false later = neither (term_eq p.0 x) (is_listed (with_part plus t n parts) x) (or_left (term_eq p.0 x) (is_listed parts x) h) later

part-single : (t : Term) (n : Rational) (parts : List (Term × Rational)) → AreSingle parts → AreSingle (with_part plus t n parts)
part-single t n [] h = (refl, tt)
part-single t n (p ∷ parts) h = by_case (term_eq p.0 t) refl (part-single t n parts h.1)
  where
    by_case : (b : Bool) → term_eq p.0 t ≡ b → AreSingle (with_part plus t n parts) → AreSingle (cond b ((p.0, plus p.1 n) ∷ parts) (p ∷ with_part plus t n parts))
    by_case true e later = h
    by_case false e later = (part-listed t n parts p.0 h.0 (apart p.0 t p.0 e (term_eq-refl p.0)), later)

-- ---- a multiple of a form more

module _ (m : Rational) where
  -- what a multiple of parts gives a term
  abbrev multiple : List (Term × ℤ) → Term → Rational
  multiple parts x = times m (whole (coefficient parts x))

  abbrev with_all : List (Term × ℤ) → List (Term × Rational) → List (Term × Rational)
  with_all others parts = with_parts plus (λ n. times m (whole n)) others parts

  none_more : (parts : List (Term × ℤ)) (x : Term) (y : Rational) → coefficient parts x ≡ pos 0 → plus y (multiple parts x) ≡ y
  none_more parts x y e = ap (λ z. plus y (times m (whole z))) e ∙ (ap (plus y) (times_zero m) ∙ plus_zero y)

  -- the part in front, and then those behind it
  front-more : (p : Term × ℤ) (parts : List (Term × ℤ)) (x : Term) (y : Rational) → AreDifferent (p ∷ parts)
      → plus (with_number p.0 (times m (whole p.1)) x y) (multiple parts x) ≡ plus y (multiple (p ∷ parts) x)
  front-more p parts x y d = by_case (term_eq p.0 x) refl
    where
      by_case : (b : Bool) → term_eq p.0 x ≡ b → plus (cond b (plus y (times m (whole p.1))) y) (multiple parts x) ≡ plus y (times m (whole (cond b p.1 (coefficient parts x))))
      by_case true e = none_more parts x (plus y (times m (whole p.1))) (none_listed parts x (ap (has_part parts) (sym (term_eq-true p.0 x e)) ∙ d.0))
      by_case false e = refl

  all-number : (others : List (Term × ℤ)) (parts : List (Term × Rational)) (x : Term) → AreDifferent others → number_at (with_all others parts) x ≡ plus (number_at parts x) (multiple others x)
  all-number [] parts x d = sym (none_more [] x (number_at parts x) refl)
  all-number (p ∷ others) parts x d =
      all-number others (with_part plus p.0 (times m (whole p.1)) parts) x d.1
      ∙ (ap (λ y. plus y (multiple others x)) (part-number p.0 (times m (whole p.1)) parts x) ∙ front-more p others x (number_at parts x) d)

  all-single : (others : List (Term × ℤ)) (parts : List (Term × Rational)) → AreSingle parts → AreSingle (with_all others parts)
  all-single [] parts h = h
  all-single (p ∷ others) parts h = all-single others (with_part plus p.0 (times m (whole p.1)) parts) (part-single p.0 (times m (whole p.1)) parts h)

  pub add-number : (f : Form) (c : Combination) (x : Term) → AreDifferent f.parts
      → number_at (add_form m f c).parts x ≡ plus (number_at c.parts x) (times m (whole (coefficient f.parts x)))
  add-number f c x d = all-number f.parts c.parts x d

  pub add-single : (f : Form) (c : Combination) → AreSingle c.parts → AreSingle (add_form m f c).parts
  add-single f c h = all-single f.parts c.parts h

-- ---- where each number is 0

pub all-zero : (parts : List (Term × Rational)) → AreSingle parts → ((x : Term) → number_at parts x ≡ nothing) → list_all (λ (p : Term × Rational). is_zero p.1) parts ≡ true
all-zero [] s h = refl
all-zero (p ∷ parts) s h =
    both_true (is_zero p.1) (list_all (λ (q : Term × Rational). is_zero q.1) parts)
    (ap is_zero (sym (ap (λ b. cond b p.1 (number_at parts p.0)) (term_eq-refl p.0)) ∙ h p.0))
    (all-zero parts s.1 (λ x. by_case x (term_eq p.0 x) refl))
  where
    absent : (qs : List (Term × Rational)) (x : Term) → is_listed qs x ≡ false → number_at qs x ≡ nothing
    absent [] x k = refl
    absent (q ∷ qs) x k = ap (λ b. cond b q.1 (number_at qs x)) (or_left (term_eq q.0 x) (is_listed qs x) k) ∙ absent qs x (or_right (term_eq q.0 x) (is_listed qs x) k)

    by_case : (x : Term) (b : Bool) → term_eq p.0 x ≡ b → number_at parts x ≡ nothing
    by_case x true e = absent parts x (ap (is_listed parts) (sym (term_eq-true p.0 x e)) ∙ s.0)
    by_case x false e = sym (ap (λ b. cond b p.1 (number_at parts x)) e) ∙ h x
