-- Sums of multiples: where each reading holds, no sum of them is above 0.
use Rattle.std.proofs.Common.{◌≡◌, ℕ, Bool, true, false, cond, ◌||◌, not, List, [], ◌∷◌, ℤ, pos, ◌*ℤ◌, refl, sym, ap, ◌∙◌, Option, Some, None}
use Rattle.std.specs.List.{list_all}
use Rattle.std.specs.Int.RustNames.{int_lt}
use Rattle.std.proofs.lemmas.Bool.{false≢true}
use Rattle.spv_logic.proofs.list.Tests.{left_true, right_true}
use Rattle.spv_whole.specs.Fraction.{Fraction}
use Rattle.spv_frac.specs.rational.Rational.{Rational, whole, number, plus, times, is_zero, is_positive, is_negative}
use Rattle.spv_frac.proofs.rational.Field.{plus_comm, plus_assoc, plus_zero, zero_plus, plus_middle, times_assoc, times_plus, plus_times, times_zero, zero_times, whole_plus, whole_times}
use Rattle.spv_frac.proofs.rational.Signs.{not_positive_plus, not_positive_times, zero_is}
use Rattle.spv_logic.specs.Terms.{Term, term_eq}
use Rattle.spv_logic.proofs.Equality.{term_eq-true}
use Rattle.spv_atoms.specs.Forms.{Form, with_part, with_parts, parts_worth, form_worth}
use Rattle.spv_proof_rules.specs.Sums.{Reading, Combination, nothing, add_form, may_multiply, add_reading, cited_reading, then_add, sum_of, shows_above_zero, is_at_most_zero, difference, refutes}

plus_swap : (a b c : Rational) → plus a (plus b c) ≡ plus b (plus a c)
plus_swap a b c = sym (plus_assoc a b c) ∙ (ap (λ x. plus x c) (plus_comm a b) ∙ plus_assoc b a c)

module _ (w : Term → ℤ) where
  -- what parts are worth, and what a combination is worth
  abbrev pub parts_total : List (Term × Rational) → Rational
  parts_total [] = whole (pos 0)
  parts_total (p ∷ parts) = plus (times p.1 (whole (w p.0))) (parts_total parts)

  abbrev pub total : Combination → Rational
  total c = plus (parts_total c.parts) c.constant

  with_part-total : (t : Term) (n : Rational) (parts : List (Term × Rational)) → parts_total (with_part plus t n parts) ≡ plus (times n (whole (w t))) (parts_total parts)
  with_part-total t n [] = refl
  with_part-total t n (p ∷ parts) = by_case (term_eq p.0 t) refl (with_part-total t n parts)
    where
      by_case : (b : Bool) → term_eq p.0 t ≡ b → parts_total (with_part plus t n parts) ≡ plus (times n (whole (w t))) (parts_total parts)
          → parts_total (cond b ((p.0, plus p.1 n) ∷ parts) (p ∷ with_part plus t n parts)) ≡ plus (times n (whole (w t))) (plus (times p.1 (whole (w p.0))) (parts_total parts))
      by_case true e later =
          ap (λ x. plus x (parts_total parts)) (plus_times p.1 n (whole (w p.0)) ∙ ap (λ u. plus (times p.1 (whole (w p.0))) (times n (whole (w u)))) (term_eq-true p.0 t e))
          ∙ (plus_assoc (times p.1 (whole (w p.0))) (times n (whole (w t))) (parts_total parts) ∙ plus_swap (times p.1 (whole (w p.0))) (times n (whole (w t))) (parts_total parts))
      by_case false e later = ap (plus (times p.1 (whole (w p.0)))) later ∙ plus_swap (times p.1 (whole (w p.0))) (times n (whole (w t))) (parts_total parts)

  with_parts-total : (m : Rational) (others : List (Term × ℤ)) (parts : List (Term × Rational))
      → parts_total (with_parts plus (λ n. times m (whole n)) others parts) ≡ plus (parts_total parts) (times m (whole (parts_worth w others)))
  with_parts-total m [] parts = sym (ap (plus (parts_total parts)) (times_zero m) ∙ plus_zero (parts_total parts))
  with_parts-total m (p ∷ others) parts =
      with_parts-total m others (with_part plus p.0 (times m (whole p.1)) parts)
      ∙ (ap (λ x. plus x rest) (with_part-total p.0 (times m (whole p.1)) parts ∙ ap (λ x. plus x (parts_total parts)) first)
      ∙ (ap (λ x. plus x rest) (plus_comm own (parts_total parts))
      ∙ (plus_assoc (parts_total parts) own rest
      ∙ ap (plus (parts_total parts)) (sym (times_plus m (whole (p.1 *ℤ w p.0)) (whole (parts_worth w others))) ∙ ap (times m) (whole_plus (p.1 *ℤ w p.0) (parts_worth w others))))))
    where
      rest : Rational
      rest = times m (whole (parts_worth w others))

      own : Rational
      own = times m (whole (p.1 *ℤ w p.0))

      first : times (times m (whole p.1)) (whole (w p.0)) ≡ times m (whole (p.1 *ℤ w p.0))
      first = times_assoc m (whole p.1) (whole (w p.0)) ∙ ap (times m) (whole_times p.1 (w p.0))

  add_form-total : (m : Rational) (f : Form) (c : Combination) → total (add_form m f c) ≡ plus (total c) (times m (whole (form_worth w f)))
  add_form-total m f c =
      ap (λ x. plus x (plus c.constant (times m (whole f.constant)))) (with_parts-total m f.parts c.parts)
      ∙ (plus_middle (parts_total c.parts) (times m (whole (parts_worth w f.parts))) c.constant (times m (whole f.constant))
      ∙ ap (plus (total c)) (sym (times_plus m (whole (parts_worth w f.parts)) (whole f.constant)) ∙ ap (times m) (whole_plus (parts_worth w f.parts) f.constant)))

  zero_parts : (parts : List (Term × Rational)) → list_all (λ (p : Term × Rational). is_zero p.1) parts ≡ true → parts_total parts ≡ whole (pos 0)
  zero_parts [] h = refl
  zero_parts (p ∷ parts) h =
      ap (λ x. plus x (parts_total parts)) (ap (λ x. times x (whole (w p.0))) (zero_is p.1 (left_true (is_zero p.1) _ h)) ∙ zero_times (whole (w p.0)))
      ∙ (zero_plus (parts_total parts) ∙ zero_parts parts (right_true (is_zero p.1) _ h))

  -- ---- readings that hold

  -- the form is at most 0, and is 0 where the reading says so
  pub record Says (r : Reading) : Type 0 where
    pub at_most : int_lt (pos 0) (form_worth w r.form) ≡ false
    pub equal : r.is_equal ≡ true → form_worth w r.form ≡ pos 0

  not_false : (b : Bool) → not b ≡ true → b ≡ false
  not_false true h = absurd (false≢true h)
  not_false false h = refl

  multiple_at_most : (m : Rational) (r : Reading) → may_multiply m r ≡ true → Says r → is_positive (times m (whole (form_worth w r.form))) ≡ false
  multiple_at_most m r may says = by_case r.is_equal refl may
    where
      by_case : (b : Bool) → r.is_equal ≡ b → (b || not (is_negative m)) ≡ true → is_positive (times m (whole (form_worth w r.form))) ≡ false
      by_case true e h = ap is_positive (ap (λ z. times m (whole z)) (says.equal e) ∙ times_zero m)
      by_case false e h = not_positive_times m (whole (form_worth w r.form)) (not_false (is_negative m) h) says.at_most

  add_at_most : (m : Rational) (r : Reading) (c : Combination) → may_multiply m r ≡ true → Says r → is_positive (total c) ≡ false → is_positive (total (add_form m r.form c)) ≡ false
  add_at_most m r c may says h =
      ap is_positive (add_form-total m r.form c) ∙ not_positive_plus (total c) (times m (whole (form_worth w r.form))) h (multiple_at_most m r may says)

  -- the sum so far, where there is one, is not above 0
  abbrev NotAbove : Option Combination → Type 0
  NotAbove None = Unit {0}
  NotAbove (Some c) = is_positive (total c) ≡ false

  add_reading_right : (m : Rational) (o : Option Reading) (c : Combination) → ((r : Reading) → o ≡ Some r → Says r) → is_positive (total c) ≡ false → NotAbove (add_reading m o c)
  add_reading_right m None c says h = tt
  add_reading_right m (Some r) c says h = by_case (may_multiply m r) refl
    where
      by_case : (b : Bool) → may_multiply m r ≡ b → NotAbove (cond b (Some (add_form m r.form c)) None)
      by_case true e = add_at_most m r c e (says r refl) h
      by_case false e = tt

  sum_right : (is_number : Term → Bool) (facts : List Term) (denied : Reading) → ((k : ℕ) (r : Reading) → cited_reading is_number facts denied k ≡ Some r → Says r)
      → (multiples : List (Fraction × ℕ)) (c : Combination) → is_positive (total c) ≡ false → NotAbove (sum_of is_number facts denied multiples c)
  sum_right is_number facts denied says [] c h = h
  sum_right is_number facts denied says (m ∷ multiples) c h =
      by_case (add_reading (number m.0) (cited_reading is_number facts denied m.1) c)
      (add_reading_right (number m.0) (cited_reading is_number facts denied m.1) c (says m.1) h)
      (sum_right is_number facts denied says multiples)
    where
      by_case : (o : Option Combination) → NotAbove o → ((d : Combination) → is_positive (total d) ≡ false → NotAbove (sum_of is_number facts denied multiples d))
          → NotAbove (then_add o (sum_of is_number facts denied multiples))
      by_case None g go = tt
      by_case (Some d) g go = go d g

  no_sum_above : (o : Option Combination) → NotAbove o → shows_above_zero o ≡ true → ⊥
  no_sum_above None g h = false≢true h
  no_sum_above (Some c) g h =
      let zero_sum = zero_parts c.parts (left_true (list_all (λ (p : Term × Rational). is_zero p.1) c.parts) _ h) in
      let positive = right_true (list_all (λ (p : Term × Rational). is_zero p.1) c.parts) _ h in
      let same : total c ≡ c.constant = ap (λ x. plus x c.constant) zero_sum ∙ zero_plus c.constant in
      false≢true (sym g ∙ (ap is_positive same ∙ positive))

  pub no_refutation : (is_number : Term → Bool) (facts : List Term) (a b : Term) (multiples : List (Fraction × ℕ))
      → ((k : ℕ) (r : Reading) → cited_reading is_number facts (is_at_most_zero (difference b a (pos 1))) k ≡ Some r → Says r) → refutes is_number facts a b multiples ≡ true → ⊥
  no_refutation is_number facts a b multiples says h =
      no_sum_above (sum_of is_number facts (is_at_most_zero (difference b a (pos 1))) multiples nothing)
      (sum_right is_number facts (is_at_most_zero (difference b a (pos 1))) says multiples nothing (ap is_positive (plus_zero (whole (pos 0))))) h
