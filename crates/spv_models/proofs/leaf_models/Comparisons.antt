-- Comparisons of rational numbers, as a table makes them and as relations are read.
use Rattle.std.proofs.Common.{◌≡◌, Bool, true, false, cond, not, ℤ, pos, ◌*ℤ◌, refl, sym, ap, ◌∙◌, Option, Some}
use mathlib.Core.Path.{ap₂}
use Rattle.std.proofs.lemmas.Bool.{false≢true, eqb-true, eq-eqb}
use Rattle.std.specs.Cmp.Derive.{both_true}
use Rattle.std.specs.Int.RustNames.{int_lt}
use Rattle.std.specs.declared.cmp.Ordering.TheVariants.{Less, Greater, Equal}
use Rattle.std.specs.Ordering.{int_cmp, int_eq}
use Rattle.std.proofs.lemmas.Int.{ints}
use Rattle.std.proofs.Common.{arith}
use Rattle.spv_logic.proofs.list.Tests.{left_true, right_true}
use Rattle.spv_whole.specs.Fraction.{Fraction, order}
use Rattle.spv_frac.specs.rational.Rational.{Rational, whole, plus, is_positive}
use Rattle.spv_frac.proofs.rational.Field.{plus_comm, plus_assoc, plus_zero, zero_plus}
use Rattle.spv_frac.proofs.rational.Signs.{not_positive_plus}
use Rattle.spv_logic.specs.declared.operators.Head.TheVariants.{Lt, Le}
use Rattle.spv_logic.specs.Terms.{Term, term, no_terms, terms}
use Rattle.spv_logic.proofs.Equality.{int_eq-true, int_eq-refl}
use Rattle.spv_proof_rules.specs.Sums.{Reading, difference, is_at_most_zero}
use Rattle.spv_tableau_rules.specs.tableaux.Numbers.{minus}
use Rattle.spv_tableau_rules.proofs.pivots.Algebra.{opposite_minus, minus_itself, less_is}
use Rattle.spv_tableau_rules.specs.declared.constraints.saying.RowConstraint.TheVariants.{Below, AtMost, Above, AtLeast}
use Rattle.spv_tableau_rules.specs.constraints.Sayings.{literal}
use Rattle.spv_tableau_rules.specs.constraints.Values.{form_value}
use Rattle.spv_tableau_rules.proofs.constraints.Values.{difference-value}
use Rattle.spv_tableau_rules.proofs.constraints.Literals.{literal_read}
use Rattle.spv_table.specs.Values.{is_same, is_less, is_at_most}
use Rattle.spv_models.specs.leaf_models.Leaves.{worth_at, is_met_by, is_met}

-- ---- fractions

pub same-refl : (x : Fraction) → is_same x x ≡ true
same-refl x = both_true (int_eq-refl x.num) (eq-eqb x.den x.den refl)

pub same-true : (x y : Fraction) → is_same x y ≡ true → x ≡ y
same-true x y e = of_parts (int_eq-true x.num y.num (left_true _ _ e)) (eqb-true x.den y.den (right_true (int_eq x.num y.num) _ e))
  where
    of_parts : x.num ≡ y.num → x.den ≡ y.den → x ≡ y
    of_parts f g = ap₂ (λ n d. record { num = n; den = d }) f g

int_less : (a b : ℤ) → is_less (int_cmp a b) ≡ int_lt a b
int_less a b = by_case (int_lt a b) (int_lt b a)
  where
    by_case : (c d : Bool) → is_less (cond c Less (cond d Greater Equal)) ≡ c
    by_case true d = refl
    by_case false true = refl
    by_case false false = refl

both_ways : (a b : ℤ) → int_lt a b ≡ true → int_lt b a ≡ true → ⊥
both_ways a b h k = omega (arith, ints)

int_at_most : (a b : ℤ) → is_at_most (int_cmp a b) ≡ not (int_lt b a)
int_at_most a b = by_case (int_lt a b) refl (int_lt b a) refl
  where
    by_case : (c : Bool) → int_lt a b ≡ c → (d : Bool) → int_lt b a ≡ d → is_at_most (cond c Less (cond d Greater Equal)) ≡ not d
    by_case true e true f = absurd (both_ways a b e f)
    by_case true e false f = refl
    by_case false e true f = refl
    by_case false e false f = refl

pub less-is : (a b : Rational) → is_less (order a.fraction b.fraction) ≡ is_positive (minus b a)
less-is a b = int_less (a.fraction.num *ℤ pos b.fraction.den) (b.fraction.num *ℤ pos a.fraction.den) ∙ less_is a b

pub at_most-is : (a b : Rational) → is_at_most (order a.fraction b.fraction) ≡ not (is_positive (minus a b))
at_most-is a b = int_at_most (a.fraction.num *ℤ pos b.fraction.den) (b.fraction.num *ℤ pos a.fraction.den) ∙ ap not (less_is b a)

-- ---- differences

no_difference : (a b : Rational) → plus (minus b a) (plus (minus a b) (whole (pos 1))) ≡ whole (pos 1)
no_difference a b =
    sym (plus_assoc (minus b a) (minus a b) (whole (pos 1)))
    ∙ (ap (λ x. plus x (whole (pos 1))) (plus_comm (minus b a) (minus a b) ∙ (ap (plus (minus a b)) (sym (opposite_minus a b)) ∙ minus_itself (minus a b) (minus a b) refl)) ∙ zero_plus (whole (pos 1)))

-- where a - b + 1 is not positive, b - a is
pub positive-behind : (a b : Rational) → is_positive (plus (minus a b) (whole (pos 1))) ≡ false → is_positive (minus b a) ≡ true
positive-behind a b h = by_case (is_positive (minus b a)) refl
  where
    by_case : (c : Bool) → is_positive (minus b a) ≡ c → is_positive (minus b a) ≡ true
    by_case true e = e
    by_case false e = absurd (false≢true (sym (not_positive_plus (minus b a) (plus (minus a b) (whole (pos 1))) e h) ∙ ap is_positive (no_difference a b)))

pub not_positive-itself : (a b : Rational) → a ≡ b → is_positive (minus a b) ≡ false
not_positive-itself a b e = ap is_positive (minus_itself a b e)

-- ---- readings

not_false : (b : Bool) → not b ≡ true → b ≡ false
not_false true h = sym h
not_false false h = refl

module _ (is_number : Term → Bool) (w : Term → Rational) (s t : Term) (hs : is_number s ≡ true) (ht : is_number t ≡ true) where
  -- what is read of a difference that is at most 0
  difference_read : (x y : Term) (z : ℤ) (o : Option Reading) → o ≡ Some (is_at_most_zero (difference x y z)) → is_met_by w o ≡ true → is_positive (plus (minus (worth_at w x) (worth_at w y)) (whole z)) ≡ false
  difference_read x y z o e h = ap is_positive (sym (difference-value w x y z)) ∙ not_false (is_positive (form_value w (difference x y z))) (sym (ap (is_met_by w) e) ∙ h)

  less_zero : (x y : Term) → is_positive (plus (minus (worth_at w x) (worth_at w y)) (whole (pos 0))) ≡ false → is_positive (minus (worth_at w x) (worth_at w y)) ≡ false
  less_zero x y h = ap is_positive (sym (plus_zero (minus (worth_at w x) (worth_at w y)))) ∙ h

  pub less-met : (b : Bool) → is_met is_number w (literal b (term Lt (terms s (terms t no_terms)))) ≡ true → is_positive (minus (worth_at w t) (worth_at w s)) ≡ b
  less-met true h = positive-behind (worth_at w s) (worth_at w t) (difference_read s t (pos 1) _ (literal_read is_number s t hs ht Lt true Below refl) h)
  less-met false h = less_zero t s (difference_read t s (pos 0) _ (literal_read is_number s t hs ht Lt false AtLeast refl) h)

  pub at_most-met : (b : Bool) → is_met is_number w (literal b (term Le (terms s (terms t no_terms)))) ≡ true → not (is_positive (minus (worth_at w s) (worth_at w t))) ≡ b
  at_most-met true h = ap not (less_zero s t (difference_read s t (pos 0) _ (literal_read is_number s t hs ht Le true AtMost refl) h))
  at_most-met false h = ap not (positive-behind (worth_at w t) (worth_at w s) (difference_read t s (pos 1) _ (literal_read is_number s t hs ht Le false Above refl) h))
