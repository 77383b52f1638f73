-- Bounds are met where what they say is true.
use Rattle.std.proofs.Common.{◌≡◌, ℕ, Bool, true, false, ◌&&◌, not, List, [], ◌∷◌, ℤ, pos, ◌+ℤ◌, neg_ℤ, refl, sym, ap, ◌∙◌, Some, arith}
use mathlib.Core.Path.{ap₂}
use Rattle.std.specs.Prelude.{slice_get}
use Rattle.std.proofs.lemmas.Int.{ints}
use Rattle.std.proofs.lemmas.Option.{same_Some}
use Rattle.spv_frac.specs.rational.Rational.{Rational, whole, plus, opposite, is_zero, is_positive, is_negative}
use Rattle.spv_frac.proofs.rational.Field.{same, plus_comm, plus_assoc, plus_zero, whole_plus}
use Rattle.spv_frac.proofs.rational.Signs.{zero_is}
use Rattle.spv_logic.specs.Terms.{Term}
use Rattle.spv_term.specs.Arena.{Arena, IsArena}
use Rattle.spv_atoms.specs.Linear.{IdForm}
use Rattle.spv_proof_rules.specs.Sums.{Reading, difference, is_at_most_zero}
use Rattle.spv_tableau_rules.specs.declared.tableaux.side.Side.TheVariants.{Lower, Upper}
use Rattle.spv_tableau_rules.specs.tableaux.Rows.{column_of, Point, IsSolution}
use Rattle.spv_tableau_rules.specs.tableaux.Bounds.{breaks}
use Rattle.spv_tableau_rules.specs.tableaux.Forms.{rows_of}
use Rattle.spv_tableau_rules.proofs.pivots.Algebra.{opposite_opposite, opposite_sum, opposite_minus, positive_opposite, positive_not_negative, negative_of, less_is}
use Rattle.spv_tableau_rules.specs.declared.constraints.saying.RowConstraint.{RowConstraint}
use Rattle.spv_tableau_rules.specs.declared.constraints.saying.RowConstraint.TheVariants.{Equal, Below, AtMost, Above, AtLeast, Differs}
use Rattle.spv_tableau_rules.specs.constraints.Sayings.{reading_of, bounds_of}
use Rattle.spv_tableau_rules.specs.constraints.Relations.{IsRowOf, AreIn}
use Rattle.spv_tableau_rules.specs.constraints.Values.{form_value, part_value, value_in, holds_at, meets}
use Rattle.spv_tableau_rules.proofs.constraints.Values.{difference-value, row_worth}

and_true : (b : Bool) → (b && true) ≡ b
and_true true = refl
and_true false = refl

opposite_whole : (z : ℤ) → opposite (whole z) ≡ whole (neg_ℤ z)
opposite_whole z = same (opposite (whole z)) (whole (neg_ℤ z)) refl

-- a value x is above a bound where x with the opposite of the bound is positive
above_bound : (x : Rational) (n : ℤ) → breaks Upper (whole (neg_ℤ n)) x ≡ is_positive (plus x (whole n))
above_bound x n = less_is (whole (neg_ℤ n)) x ∙ ap (λ y. is_positive (plus x y)) (ap opposite (sym (opposite_whole n)) ∙ opposite_opposite (whole n))

below_bound : (x : Rational) (k m : ℤ) → breaks Lower (whole (neg_ℤ k +ℤ m)) x ≡ is_positive (plus (opposite (plus x (whole k))) (whole m))
below_bound x k m =
    less_is x (whole (neg_ℤ k +ℤ m))
    ∙ ap is_positive
    (plus_comm (whole (neg_ℤ k +ℤ m)) (opposite x)
    ∙ (ap (plus (opposite x)) (sym (whole_plus (neg_ℤ k) m) ∙ ap (λ y. plus y (whole m)) (sym (opposite_whole k)))
    ∙ (sym (plus_assoc (opposite x) (opposite (whole k)) (whole m)) ∙ ap (λ y. plus y (whole m)) (sym (opposite_sum x (whole k))))))

zero_between : (a : Rational) → (not (is_negative a) && not (is_positive a)) ≡ is_zero a
zero_between a = by_zero (is_zero a) refl
  where
    by_sign : is_zero a ≡ false → (b : Bool) → is_positive a ≡ b → (not (is_negative a) && not b) ≡ false
    by_sign z true e = ap (λ c. not c && false) (positive_not_negative a e)
    by_sign z false e = ap (λ c. not c && true) (negative_of a z e)

    by_zero : (b : Bool) → is_zero a ≡ b → (not (is_negative a) && not (is_positive a)) ≡ b
    by_zero true e = ap (λ x. not (is_negative x) && not (is_positive x)) (zero_is a e)
    by_zero false e = by_sign e (is_positive a) refl

module _ (a : Arena) (ok : IsArena a) (fs : List IdForm) (inside : AreIn a fs) (v : Point) (solution : IsSolution (rows_of fs) v) (i : ℕ) (f : IdForm) (at : slice_get fs i ≡ Some f) (s t : Term)
    (row : IsRowOf a (s, t) f) where
  abbrev x : Rational
  x = v (column_of (rows_of fs) i)

  abbrev w : Term → Rational
  w = part_value a fs v

  -- left - right + m is the row, its constant and m
  left_right : (m : ℤ) → form_value w (difference s t m) ≡ plus x (whole (f.constant +ℤ m))
  left_right m =
      difference-value w s t m
      ∙ (ap (λ y. plus y (whole m)) (sym (row_worth a ok fs inside v solution i f at s t row))
      ∙ (plus_assoc x (whole f.constant) (whole m) ∙ ap (plus x) (whole_plus f.constant m)))

  right_left : (m : ℤ) → form_value w (difference t s m) ≡ plus (opposite (plus x (whole f.constant))) (whole m)
  right_left m =
      difference-value w t s m
      ∙ ap (λ y. plus y (whole m)) (sym (opposite_minus (value_in a fs v s) (value_in a fs v t)) ∙ ap opposite (sym (row_worth a ok fs inside v solution i f at s t row)))

  -- an upper bound, and a lower one
  upper : (m n : ℤ) → f.constant +ℤ m ≡ n → meets x (record { row = i; side = Upper; value = whole (neg_ℤ n) } ∷ []) ≡ holds_at w (is_at_most_zero (difference s t m))
  upper m n e = and_true (not (breaks Upper (whole (neg_ℤ n)) x)) ∙ ap not (above_bound x n ∙ ap is_positive (ap (λ z. plus x (whole z)) (sym e) ∙ sym (left_right m)))

  lower : (m n : ℤ) → neg_ℤ f.constant +ℤ m ≡ n → meets x (record { row = i; side = Lower; value = whole n } ∷ []) ≡ holds_at w (is_at_most_zero (difference t s m))
  lower m n e =
      and_true (not (breaks Lower (whole n) x)) ∙ ap not (ap (λ z. breaks Lower (whole z) x) (sym e) ∙ (below_bound x f.constant m ∙ ap is_positive (sym (right_left m))))

  no_more : (z : ℤ) → z +ℤ pos 0 ≡ z
  no_more z = omega (arith, ints)

  -- both bounds of an equality
  both : meets x (record { row = i; side = Lower; value = whole (neg_ℤ f.constant) } ∷ record { row = i; side = Upper; value = whole (neg_ℤ f.constant) } ∷ [])
      ≡ holds_at w (record { form = difference s t (pos 0); is_equal = true })
  both =
      ap₂ (λ b c. not b && c)
      (ap (λ z. breaks Lower (whole z) x) (sym (no_more (neg_ℤ f.constant)))
      ∙ (below_bound x f.constant (pos 0)
      ∙ (ap is_positive (plus_zero (opposite (plus x (whole f.constant)))) ∙ positive_opposite (plus x (whole f.constant)))))
      (and_true (not (breaks Upper (whole (neg_ℤ f.constant)) x)) ∙ ap not (above_bound x f.constant))
      ∙ (zero_between (plus x (whole f.constant)) ∙ ap is_zero (ap (λ z. plus x (whole z)) (sym (no_more f.constant)) ∙ sym (left_right (pos 0))))

  read_as : (x : RowConstraint) (known r : Reading) → Some known ≡ Some r → (b : Bool) → b ≡ holds_at w known → b ≡ holds_at w r
  read_as x known r e b h = h ∙ ap (holds_at w) (same_Some known r e)

  pub met_where_true : (y : RowConstraint) (r : Reading) → reading_of y s t ≡ Some r → meets x (bounds_of i f.constant y) ≡ holds_at w r
  met_where_true Equal r e = read_as Equal (record { form = difference s t (pos 0); is_equal = true }) r e _ both
  met_where_true Below r e = read_as Below (is_at_most_zero (difference s t (pos 1))) r e _ (upper (pos 1) (f.constant +ℤ pos 1) refl)
  met_where_true AtMost r e = read_as AtMost (is_at_most_zero (difference s t (pos 0))) r e _ (upper (pos 0) f.constant (no_more f.constant))
  met_where_true Above r e = read_as Above (is_at_most_zero (difference t s (pos 1))) r e _ (lower (pos 1) (neg_ℤ f.constant +ℤ pos 1) refl)
  met_where_true AtLeast r e = read_as AtLeast (is_at_most_zero (difference t s (pos 0))) r e _ (lower (pos 0) (neg_ℤ f.constant) (no_more (neg_ℤ f.constant)))
  met_where_true Differs r e = absurd (cc)
