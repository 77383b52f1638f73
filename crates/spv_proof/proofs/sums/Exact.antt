-- A sum in fractions, where nothing stops it, is the exact sum.
use Rattle.std.proofs.Common.{◌≡◌, Bool, true, false, cond, ◌&&◌, ◌||◌, List, [], ◌∷◌, ℤ, pos, refl, sym, ap, ◌∙◌, subst}
use Rattle.std.specs.List.{list_all}
use Rattle.std.specs.Ordering.{int_eq}
use Rattle.std.proofs.lemmas.Bool.{false≢true}
use Rattle.spv_logic.proofs.list.Tests.{left_true, right_true}
use Rattle.spv_whole.specs.Fraction.{Fraction}
use Rattle.spv_whole.specs.Fraction as fraction
use Rattle.spv_whole.proofs.Arithmetic.{product_comm}
use Rattle.spv_frac.specs.declared.frac.Op.TheVariants.{Add, Mul}
use Rattle.spv_frac.specs.Range.{op_fits}
use Rattle.spv_frac.specs.rational.Rational.{Rational, whole, plus, times, is_zero}
use Rattle.spv_frac.proofs.rational.Field.{plus_zero, zero_plus, times_zero}
use Rattle.spv_logic.specs.Terms.{Term, term_eq}
use Rattle.spv_logic.proofs.Equality.{term_eq-true, term_eq-refl}
use Rattle.spv_atoms.specs.Forms.{Form, with_part, with_parts}
use Rattle.spv_atoms.specs.Linear.{coefficient}
use Rattle.spv_atoms.proofs.Coefficients.{AreDifferent, has_part, none_listed}
use Rattle.spv_proof_rules.specs.Sums.{Combination, add_form}
use Rattle.spv_proof_rules.specs.Stops.{Halt, Partial, Tally, Stands, Ended, Halted, then_tally, operate, add_number, factor_of, with_factor, with_constant, add_parts}
use Rattle.spv_proof.specs.sums.Partials.{has_term, AreOnce, IsExact}
use Rattle.spv_proof.specs.sums.Added.{add_ordered}

-- ---- one part more

same_differs : (p t x : Term) → term_eq p x ≡ true → term_eq p t ≡ false → term_eq t x ≡ false
same_differs p t x e f = by_case (term_eq t x) refl
  where
    by_case : (b : Bool) → term_eq t x ≡ b → b ≡ false
    by_case true g =
        let same : p ≡ t = term_eq-true p x e ∙ sym (term_eq-true t x g) in
        absurd (false≢true (sym f ∙ (ap (λ u. term_eq u t) same ∙ term_eq-refl t)))
    by_case false g = refl

module _ {N : Type 0} (none : N) (add : N → N → N) (unit : (n : N) → add none n ≡ n) where
  part-factor : (t : Term) (n : N) (parts : List (Term × N)) (x : Term)
      → factor_of none (with_part add t n parts) x ≡ cond (term_eq t x) (add (factor_of none parts x) n) (factor_of none parts x)
  part-factor t n [] x = ap (λ m. cond (term_eq t x) m none) (sym (unit n))
  part-factor t n (p ∷ parts) x = by_case (term_eq p.0 t) refl (part-factor t n parts x)
    where
      known : term_eq p.0 t ≡ true → (c : Bool) → term_eq p.0 x ≡ c
          → cond c (add p.1 n) (factor_of none parts x) ≡ cond (term_eq t x) (add (cond c p.1 (factor_of none parts x)) n) (cond c p.1 (factor_of none parts x))
      known e true f =
          let is : term_eq t x ≡ true = ap (λ u. term_eq u x) (sym (term_eq-true p.0 t e)) ∙ f in
          sym (ap (λ b. cond b (add p.1 n) p.1) is)
      known e false f =
          let is : term_eq t x ≡ false = ap (λ u. term_eq u x) (sym (term_eq-true p.0 t e)) ∙ f in
          sym (ap (λ b. cond b (add (factor_of none parts x) n) (factor_of none parts x)) is)

      new : term_eq p.0 t ≡ false → factor_of none (with_part add t n parts) x ≡ cond (term_eq t x) (add (factor_of none parts x) n) (factor_of none parts x) → (c : Bool) → term_eq p.0 x ≡ c
          → cond c p.1 (factor_of none (with_part add t n parts) x) ≡ cond (term_eq t x) (add (cond c p.1 (factor_of none parts x)) n) (cond c p.1 (factor_of none parts x))
      new e later true f = sym (ap (λ b. cond b (add p.1 n) p.1) (same_differs p.0 t x f e))
      new e later false f = later

      by_case : (b : Bool) → term_eq p.0 t ≡ b → factor_of none (with_part add t n parts) x ≡ cond (term_eq t x) (add (factor_of none parts x) n) (factor_of none parts x)
          → factor_of none (cond b ((p.0, add p.1 n) ∷ parts) (p ∷ with_part add t n parts)) x
          ≡ cond (term_eq t x) (add (cond (term_eq p.0 x) p.1 (factor_of none parts x)) n) (cond (term_eq p.0 x) p.1 (factor_of none parts x))
      by_case true e later = known e (term_eq p.0 x) refl
      by_case false e later = new e later (term_eq p.0 x) refl

  both_false : (b c : Bool) → b ≡ false → c ≡ false → (b || c) ≡ false
  both_false true c h k = h
  both_false false c h k = k

  left_false : (b c : Bool) → (b || c) ≡ false → b ≡ false
  left_false true c h = h
  left_false false c h = refl

  right_false : (b c : Bool) → (b || c) ≡ false → c ≡ false
  right_false true c h = absurd (false≢true (sym h))
  right_false false c h = h

  part-has : (t : Term) (n : N) (parts : List (Term × N)) (x : Term) → has_term parts x ≡ false → term_eq t x ≡ false → has_term (with_part add t n parts) x ≡ false
  part-has t n [] x h k = both_false (term_eq t x) false k refl
  part-has t n (p ∷ parts) x h k = by_case (term_eq p.0 t) (part-has t n parts x (right_false (term_eq p.0 x) (has_term parts x) h) k)
    where
      by_case : (b : Bool) → has_term (with_part add t n parts) x ≡ false → has_term (cond b ((p.0, add p.1 n) ∷ parts) (p ∷ with_part add t n parts)) x ≡ false
      by_case true later = h
      by_case false later = both_false (term_eq p.0 x) (has_term (with_part add t n parts) x) (left_false (term_eq p.0 x) (has_term parts x) h) later

  differs-sym : (p t : Term) → term_eq p t ≡ false → term_eq t p ≡ false
  differs-sym p t f = same_differs p t p (term_eq-refl p) f

  part-once : (t : Term) (n : N) (parts : List (Term × N)) → AreOnce parts → AreOnce (with_part add t n parts)
  part-once t n [] h = (refl, tt)
  part-once t n (p ∷ parts) h = by_case (term_eq p.0 t) refl (part-once t n parts h.1)
    where
      by_case : (b : Bool) → term_eq p.0 t ≡ b → AreOnce (with_part add t n parts) → AreOnce (cond b ((p.0, add p.1 n) ∷ parts) (p ∷ with_part add t n parts))
      by_case true e later = h
      by_case false e later = (part-has t n parts p.0 h.0 (differs-sym p.0 t e), later)

parts-once : (m : Rational) (others : List (Term × ℤ)) (parts : List (Term × Rational)) → AreOnce parts → AreOnce (with_parts plus (λ n. times m (whole n)) others parts)
parts-once m [] parts h = h
parts-once m (p ∷ others) parts h =
    parts-once m others (with_part plus p.0 (times m (whole p.1)) parts) (part-once (whole (pos 0)) plus zero_plus p.0 (times m (whole p.1)) parts h)

-- ---- the exact sum

-- what a multiple of parts adds to a number
abbrev multiple : Rational → List (Term × ℤ) → Term → Rational
multiple m parts x = times m (whole (coefficient parts x))

absent : (parts : List (Term × ℤ)) (p : Term × ℤ) (x : Term) → has_part parts p.0 ≡ false → term_eq p.0 x ≡ true → coefficient parts x ≡ pos 0
absent parts p x h e = none_listed parts x (ap (has_part parts) (sym (term_eq-true p.0 x e)) ∙ h)

no_more : (m : Rational) (parts : List (Term × ℤ)) (x : Term) (y : Rational) → coefficient parts x ≡ pos 0 → plus y (multiple m parts x) ≡ y
no_more m parts x y e = ap (λ z. plus y (times m (whole z))) e ∙ (ap (plus y) (times_zero m) ∙ plus_zero y)

-- a number for the part in front, and others for those behind it
first-more : (m : Rational) (p : Term × ℤ) (parts : List (Term × ℤ)) (x : Term) (y : Rational) → AreDifferent (p ∷ parts)
    → plus (cond (term_eq p.0 x) (plus y (times m (whole p.1))) y) (multiple m parts x) ≡ plus y (multiple m (p ∷ parts) x)
first-more m p parts x y d = by_case (term_eq p.0 x) refl
  where
    by_case : (b : Bool) → term_eq p.0 x ≡ b
        → plus (cond b (plus y (times m (whole p.1))) y) (multiple m parts x) ≡ plus y (times m (whole (cond b p.1 (coefficient parts x))))
    by_case true e = no_more m parts x (plus y (times m (whole p.1))) (absent parts p x d.0 e)
    by_case false e = refl

parts-factor : (m : Rational) (others : List (Term × ℤ)) (parts : List (Term × Rational)) (x : Term) → AreDifferent others
    → factor_of (whole (pos 0)) (with_parts plus (λ n. times m (whole n)) others parts) x ≡ plus (factor_of (whole (pos 0)) parts x) (multiple m others x)
parts-factor m [] parts x d = sym (no_more m [] x (factor_of (whole (pos 0)) parts x) refl)
parts-factor m (p ∷ others) parts x d =
    parts-factor m others (with_part plus p.0 (times m (whole p.1)) parts) x d.1
    ∙ (ap (λ y. plus y (multiple m others x)) (part-factor (whole (pos 0)) plus zero_plus p.0 (times m (whole p.1)) parts x)
    ∙ first-more m p others x (factor_of (whole (pos 0)) parts x) d)

-- ---- the sum in fractions

-- what stands was made, and then what follows from it
pub record Stood {S T : Type 0} (t : Tally S) (go : S → Tally T) (x : T) : Type 0 where
  pub value : S
  pub first : t ≡ Stands value
  pub rest : go value ≡ Stands x

pub stood : {S T : Type 0} (t : Tally S) (go : S → Tally T) (x : T) → then_tally t go ≡ Stands x → Stood t go x
stood (Stands s) go x e = record { value = s; first = refl; rest = e }
stood Ended go x e = absurd (cc)
stood (Halted h) go x e = absurd (cc)

operated : (b : Bool) (h : Halt) (value f : Fraction) → cond b (Stands value) (Halted h) ≡ Stands f → value ≡ f
operated true h value f e = cc
operated false h value f e = absurd (cc)

number-stands : (known : List Term) (m y : Rational) (n : ℤ) (f : Fraction) → add_number known m.fraction y.fraction n ≡ Stands f → f ≡ (plus y (times m (whole n))).fraction
number-stands known m y n f e =
    let s = stood (operate known Mul (fraction.whole n) m.fraction (fraction.product (fraction.whole n) m.fraction)) (λ p. operate known Add y.fraction p (fraction.sum y.fraction p)) f e in
    let product = operated (op_fits Mul (fraction.whole n) m.fraction) _ (fraction.product (fraction.whole n) m.fraction) s.value s.first in
    let sum = operated (op_fits Add y.fraction s.value) _ (fraction.sum y.fraction s.value) f s.rest in
    sym sum ∙ ap (fraction.sum y.fraction) (sym product ∙ product_comm (fraction.whole n) m.fraction)

-- each factor is this rational number
abbrev AreFactors : Partial → (Term → Rational) → Type 0
AreFactors s y = (x : Term) → factor_of (fraction.whole (pos 0)) s.parts x ≡ (y x).fraction

pub record Summed (m : Rational) (parts : List (Term × ℤ)) (s new : Partial) (y : Term → Rational) : Type 0 where
  pub factors : AreFactors new (λ x. plus (y x) (multiple m parts x))
  pub constant : new.constant ≡ s.constant
  pub once : AreOnce new.parts

parts-stand : (known : List Term) (m : Rational) (parts : List (Term × ℤ)) (s new : Partial) (y : Term → Rational) → AreDifferent parts → AreFactors s y → AreOnce s.parts
    → add_parts known m.fraction parts s ≡ Stands new → Summed m parts s new y
parts-stand known m [] s new y d h o e =
    let same : s ≡ new = cc in
    subst (λ (r : Partial). Summed m [] s r y) same (record { factors = λ x. h x ∙ ap (λ (z : Rational). z.fraction) (sym (no_more m [] x (y x) refl)); constant = refl; once = o })
parts-stand known m (p ∷ parts) s new y d h o e =
    let k = stood (add_number known m.fraction (factor_of (fraction.whole (pos 0)) s.parts p.0) p.1) (λ f. add_parts known m.fraction parts (with_factor s p.0 f)) new e in
    let number : k.value ≡ (plus (y p.0) (times m (whole p.1))).fraction = number-stands known m (y p.0) p.1 k.value (ap (λ f. add_number known m.fraction f p.1) (sym (h p.0)) ∙ k.first) in
    let later = parts-stand known m parts (with_factor s p.0 k.value) new (λ x. cond (term_eq p.0 x) (plus (y x) (times m (whole p.1))) (y x)) d.1
    (λ x. part-factor (fraction.whole (pos 0)) (λ old now. now) (λ n. refl) p.0 k.value s.parts x ∙ by_case x (term_eq p.0 x) refl k.value number)
    (part-once (fraction.whole (pos 0)) (λ old now. now) (λ n. refl) p.0 k.value s.parts o) k.rest in
    record {
      factors = λ x. later.factors x ∙ ap (λ (z : Rational). z.fraction) (first-more m p parts x (y x) d);
      constant = later.constant;
      once = later.once;
    }
  where
    by_case : (x : Term) (b : Bool) → term_eq p.0 x ≡ b → (f : Fraction) → f ≡ (plus (y p.0) (times m (whole p.1))).fraction
        → cond b f (factor_of (fraction.whole (pos 0)) s.parts x) ≡ (cond b (plus (y x) (times m (whole p.1))) (y x)).fraction
    by_case x true g f is = is ∙ ap (λ t. (plus (y t) (times m (whole p.1))).fraction) (term_eq-true p.0 x g)
    by_case x false g f is = h x

-- a multiple of a form that is added to a sum in fractions, where nothing stops it, is added to the exact sum
pub exact-added : (known : List Term) (m : Rational) (f exact : Form) (s new : Partial) (c : Combination) → AreDifferent f.parts → AreDifferent exact.parts
    → ((x : Term) → coefficient f.parts x ≡ coefficient exact.parts x) → f.constant ≡ exact.constant → IsExact s c → add_ordered known m.fraction f s ≡ Stands new
    → IsExact new (add_form m exact c)
exact-added known m f exact s new c d k same constant is e =
    let first = stood (add_parts known m.fraction f.parts s) (λ r. then_tally (add_number known m.fraction r.constant f.constant) (λ z. Stands (with_constant r z))) new e in
    let parts = parts-stand known m f.parts s first.value (λ x. factor_of (whole (pos 0)) c.parts x) d is.factors is.once first.first in
    let second = stood (add_number known m.fraction first.value.constant f.constant) (λ z. Stands (with_constant first.value z)) new first.rest in
    let at : first.value.constant ≡ c.constant.fraction = parts.constant ∙ is.constant in
    let number : second.value ≡ (plus c.constant (times m (whole f.constant))).fraction =
    number-stands known m c.constant f.constant second.value (ap (λ z. add_number known m.fraction z f.constant) (sym at) ∙ second.first) in
    let made : with_constant first.value second.value ≡ new = cc in
    subst (λ (r : Partial). IsExact r (add_form m exact c)) made (record {
      factors = λ x. parts.factors x ∙ ap (λ (z : Rational). z.fraction)
          (ap (λ z. plus (factor_of (whole (pos 0)) c.parts x) (times m (whole z))) (same x) ∙ sym (parts-factor m exact.parts c.parts x k));
      constant = number ∙ ap (λ z. (plus c.constant (times m (whole z))).fraction) constant;
      once = parts.once;
      exact_once = parts-once m exact.parts c.parts is.exact_once;
    })

-- ---- above zero

module _ {N : Type 0} (none : N) (zero : N → Bool) (is_zero_none : zero none ≡ true) where
  all-factors : (parts : List (Term × N)) → list_all (λ (p : Term × N). zero p.1) parts ≡ true → (x : Term) → zero (factor_of none parts x) ≡ true
  all-factors [] h x = is_zero_none
  all-factors (p ∷ parts) h x = by_case (term_eq p.0 x) (all-factors parts (right_true (zero p.1) _ h) x)
    where
      by_case : (b : Bool) → zero (factor_of none parts x) ≡ true → zero (cond b p.1 (factor_of none parts x)) ≡ true
      by_case true later = left_true (zero p.1) _ h
      by_case false later = later

  not-there : (parts : List (Term × N)) (x : Term) → has_term parts x ≡ false → factor_of none parts x ≡ none
  not-there [] x h = refl
  not-there (p ∷ parts) x h = by_case (term_eq p.0 x) h (not-there parts x)
    where
      by_case : (b : Bool) → (b || has_term parts x) ≡ false → (has_term parts x ≡ false → factor_of none parts x ≡ none) → cond b p.1 (factor_of none parts x) ≡ none
      by_case true h later = absurd (false≢true (sym h))
      by_case false h later = later h

  both_true : (b c : Bool) → b ≡ true → c ≡ true → (b && c) ≡ true
  both_true true c h k = k
  both_true false c h k = h

  factors-all : (parts : List (Term × N)) → AreOnce parts → ((x : Term) → zero (factor_of none parts x) ≡ true) → list_all (λ (p : Term × N). zero p.1) parts ≡ true
  factors-all [] o h = refl
  factors-all (p ∷ parts) o h =
      both_true (zero p.1) _ (ap (λ b. zero (cond b p.1 (factor_of none parts p.0))) (sym (term_eq-refl p.0)) ∙ h p.0)
      (factors-all parts o.1 (λ x. by_case x (term_eq p.0 x) refl))
    where
      by_case : (x : Term) (b : Bool) → term_eq p.0 x ≡ b → zero (factor_of none parts x) ≡ true
      by_case x true e = ap zero (not-there parts x (ap (has_term parts) (sym (term_eq-true p.0 x e)) ∙ o.0)) ∙ is_zero_none
      by_case x false e = ap (λ b. zero (cond b p.1 (factor_of none parts x))) (sym e) ∙ h x

abbrev zero_fraction : Fraction → Bool
zero_fraction f = int_eq f.num (pos 0)

pub exact-zeros : (s : Partial) (c : Combination) → IsExact s c → list_all (λ (p : Term × Fraction). zero_fraction p.1) s.parts ≡ list_all (λ (p : Term × Rational). is_zero p.1) c.parts
exact-zeros s c is = by_case (list_all (λ (p : Term × Fraction). zero_fraction p.1) s.parts) refl (list_all (λ (p : Term × Rational). is_zero p.1) c.parts) refl
  where
    there : list_all (λ (p : Term × Fraction). zero_fraction p.1) s.parts ≡ true → list_all (λ (p : Term × Rational). is_zero p.1) c.parts ≡ true
    there e = factors-all (whole (pos 0)) is_zero refl c.parts is.exact_once (λ x. ap zero_fraction (sym (is.factors x)) ∙ all-factors (fraction.whole (pos 0)) zero_fraction refl s.parts e x)

    back : list_all (λ (p : Term × Rational). is_zero p.1) c.parts ≡ true → list_all (λ (p : Term × Fraction). zero_fraction p.1) s.parts ≡ true
    back e = factors-all (fraction.whole (pos 0)) zero_fraction refl s.parts is.once (λ x. ap zero_fraction (is.factors x) ∙ all-factors (whole (pos 0)) is_zero refl c.parts e x)

    by_case : (b : Bool) → list_all (λ (p : Term × Fraction). zero_fraction p.1) s.parts ≡ b → (d : Bool) → list_all (λ (p : Term × Rational). is_zero p.1) c.parts ≡ d → b ≡ d
    by_case true e true f = refl
    by_case true e false f = absurd (false≢true (sym f ∙ there e))
    by_case false e true f = absurd (false≢true (sym e ∙ back f))
    by_case false e false f = refl
