-- What outcomes of operations are, where they are no stop.
use Rattle.std.proofs.Common.{◌≡◌, Bool, true, false, cond, not, refl, sym, ap, ◌∙◌, subst, Ok, Err}
use Rattle.std.specs.declared.cmp.Ordering.{Ordering}
use Rattle.spv_whole.specs.Fraction.{Fraction, order}
use Rattle.spv_frac.specs.Range.{op_fits}
use Rattle.spv_frac.specs.declared.frac.Op.{Op}
use Rattle.spv_frac.specs.declared.frac.Op.TheVariants as op
use Rattle.spv_logic.specs.Values.{bool_eq}
use Rattle.spv_table.specs.declared.operations.WideValue.{WideValue}
use Rattle.spv_table.specs.Values.{Outcome, truth_value, is_same, is_true, too_wide, exact, operated, compared, both, negation}

-- an outcome that is no stop is this fraction
pub record IsIfOk (o : Outcome) (x : Fraction) : Type 0 where
  pub is : (y : Fraction) → o ≡ Ok y → y ≡ x

pub same_ok : (y z : Fraction) (o : Outcome) → o ≡ Ok y → o ≡ Ok z → y ≡ z
same_ok y z o e f = cc

no_stop : (w : WideValue) (o : Outcome) (y : Fraction) → o ≡ Err w → o ≡ Ok y → ⊥
no_stop w o y e f = cc

pub ok-is : (o : Outcome) (y x : Fraction) → o ≡ Ok y → y ≡ x → IsIfOk o x
ok-is o y x e h = record { is = λ z f. sym (same_ok y z o e f) ∙ h }

pub stop-is : (o : Outcome) (w : WideValue) (x : Fraction) → o ≡ Err w → IsIfOk o x
stop-is o w x e = record { is = λ z f. absurd (no_stop w o z e f) }

-- the same of another fraction
pub with_value : (o : Outcome) (x y : Fraction) → IsIfOk o x → x ≡ y → IsIfOk o y
with_value o x y h e = record { is = λ z f. h.is z f ∙ e }

pub both-is : (f : Fraction → Fraction → Outcome) (a b : Outcome) (x y z : Fraction) → IsIfOk a x → IsIfOk b y → IsIfOk (f x y) z → IsIfOk (both f a b) z
both-is f (Err w) b x y z h k m = stop-is (Err w) w z refl
both-is f (Ok p) (Err w) x y z h k m = stop-is (Err w) w z refl
both-is f (Ok p) (Ok q) x y z h k m = subst (λ (u : Fraction). IsIfOk (f u q) z) (sym (h.is p refl)) (subst (λ (u : Fraction). IsIfOk (f x u) z) (sym (k.is q refl)) m)

pub operated-is : (o : Op) (x y : Fraction) → IsIfOk (operated o x y) (exact o x y)
operated-is o x y = by_case (op_fits o x y)
  where
    by_case : (b : Bool) → IsIfOk (cond b (Ok (exact o x y)) (too_wide o x y)) (exact o x y)
    by_case true = ok-is (Ok (exact o x y)) (exact o x y) (exact o x y) refl refl
    by_case false = stop-is (too_wide o x y) (record { op = o; left = x; right = y }) (exact o x y) refl

pub compared-is : (test : Ordering → Bool) (x y : Fraction) → IsIfOk (compared test x y) (truth_value (test (order x y)))
compared-is test x y = by_case (op_fits op.Cmp x y)
  where
    by_case : (b : Bool) → IsIfOk (cond b (Ok (truth_value (test (order x y)))) (too_wide op.Cmp x y)) (truth_value (test (order x y)))
    by_case true = ok-is (Ok (truth_value (test (order x y)))) (truth_value (test (order x y))) (truth_value (test (order x y))) refl refl
    by_case false = stop-is (too_wide op.Cmp x y) (record { op = op.Cmp; left = x; right = y }) (truth_value (test (order x y))) refl

-- ---- truth values

pub true-value : (b : Bool) → is_true (truth_value b) ≡ b
true-value true = refl
true-value false = refl

pub same-values : (a b : Bool) → is_same (truth_value a) (truth_value b) ≡ bool_eq a b
same-values true true = refl
same-values true false = refl
same-values false true = refl
same-values false false = refl

pub negation-is : (o : Outcome) (b : Bool) → IsIfOk o (truth_value b) → IsIfOk (negation o) (truth_value (not b))
negation-is (Err w) b h = stop-is (Err w) w (truth_value (not b)) refl
negation-is (Ok x) b h =
    let known : is_true x ≡ b = ap is_true (h.is x refl) ∙ true-value b in
    ok-is (Ok (truth_value (not (is_true x)))) (truth_value (not (is_true x))) (truth_value (not b)) refl (ap (λ c. truth_value (not c)) known)

-- an operation on truth values
pub truths-are : (f : Bool → Bool → Bool) (a b : Bool) → IsIfOk (Ok (truth_value (f (is_true (truth_value a)) (is_true (truth_value b))))) (truth_value (f a b))
truths-are f a b = ok-is (Ok (truth_value (f (is_true (truth_value a)) (is_true (truth_value b))))) (truth_value (f (is_true (truth_value a)) (is_true (truth_value b)))) (truth_value (f a b)) refl (ap (λ c. truth_value (f c (is_true (truth_value b)))) (true-value a) ∙ ap (λ c. truth_value (f a c)) (true-value b))
