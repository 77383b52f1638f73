use Rattle.std.proofs.Common.{ℕ, ◌+◌, ◌≤◌, ◌^◌, ◌∙◌, refl, subst, le_refl, le_of_lt}
use Rattle.spv_listing_values.proofs.Digits.{too_many, too_many_tens, more_digits, not_fitting}
use Rattle.spv_rechecking.proofs.written_terms.numerals.below.Goals as goal

pub returns-in_err-checked_mul-clause-value : goal.returns-in_err-checked_mul-clause-value
returns-in_err-checked_mul-clause-value c =
    c.from_residual.ensures
    ∙ too_many_tens c.args.limit c.args.digits.now c.loop-digit.digit-index c.loop-digit.value c.loop-digit-test.true c.loop-digit.invariant.value
    (not_fitting c.args.limit _ (2 ^ 128) (2 ^ 128) (le_of_lt c.ranges.limit.fits) (le_refl (2 ^ 128)) c.in_err-checked_mul.ensures)

pub returns-in_err-next-clause-value : goal.returns-in_err-next-clause-value
returns-in_err-next-clause-value c =
    c.from_residual-in_err-next.ensures
    ∙ too_many c.args.limit c.args.digits.now c.loop-digit.digit-index c.loop-digit-test.true
    (subst (λ (n : ℕ). c.args.limit ≤ n)
    (more_digits c.args.digits.now c.loop-digit.digit-index c.loop-digit.value c.in_ok-checked_mul.field-0 c.from.result (c.in_ok-checked_mul.field-0 + c.from.result) c.loop-digit-test.true
    c.loop-digit.invariant.value c.in_ok-checked_mul.ensures.1 (c.from.ensures ∙ c.digit_value.ensures) refl)
    (not_fitting c.args.limit (c.in_ok-checked_mul.field-0 + c.from.result) (2 ^ 128) (2 ^ 128) (le_of_lt c.ranges.limit.fits) (le_refl (2 ^ 128)) c.in_err-next.ensures))

pub returns-then-next-limit-clause-value : goal.returns-then-next-limit-clause-value
returns-then-next-limit-clause-value c =
    too_many c.args.limit c.args.digits.now c.loop-digit.digit-index c.loop-digit-test.true
    (subst (λ (n : ℕ). c.args.limit ≤ n)
    (more_digits c.args.digits.now c.loop-digit.digit-index c.loop-digit.value c.in_ok-checked_mul.field-0 c.from.result c.in_ok-next.next c.loop-digit-test.true c.loop-digit.invariant.value
    c.in_ok-checked_mul.ensures.1 (c.from.ensures ∙ c.digit_value.ensures) c.in_ok-next.ensures.1)
    c.if-next-limit.true)

pub loop-digit-preserved : goal.loop-digit-preserved
loop-digit-preserved c = record {
  value = more_digits c.args.digits.now c.loop-digit.digit-index c.loop-digit.value c.in_ok-checked_mul.field-0 c.from.result c.in_ok-next.next c.loop-digit-test.true c.loop-digit.invariant.value
      c.in_ok-checked_mul.ensures.1 (c.from.ensures ∙ c.digit_value.ensures) c.in_ok-next.ensures.1;
  in_range = c.if-next-limit.false;
}
