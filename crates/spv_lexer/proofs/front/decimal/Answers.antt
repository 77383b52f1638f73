use Rattle.std.proofs.Common.{◌∙◌, ◌<◌, ◌+◌, sym, arith}
use Rattle.spv_lexer.specs.Front.{decimal}
use Rattle.spv_lexer.proofs.Fronts.{decimal-more, decimal-grows, too_large}
use Rattle.spv_lexer.proofs.front.decimal.Goals as goal

pub returns-in_err-checked_mul : goal.returns-in_err-checked_mul
returns-in_err-checked_mul c =
    let more = decimal-more c.args.digits.now c.loop-digit.digit-index c.loop-digit-test.true in
    let grows = decimal-grows c.args.digits.now (c.loop-digit.digit-index + 1) in
    let above : 9223372036854775807 < decimal c.args.digits.now = omega arith in
    c.from_residual.ensures ∙ sym (too_large (decimal c.args.digits.now) above)

pub returns-in_err-value : goal.returns-in_err-value
returns-in_err-value c =
    let more = decimal-more c.args.digits.now c.loop-digit.digit-index c.loop-digit-test.true in
    let grows = decimal-grows c.args.digits.now (c.loop-digit.digit-index + 1) in
    let above : 9223372036854775807 < decimal c.args.digits.now = omega arith in
    c.from_residual-in_err-value.ensures ∙ sym (too_large (decimal c.args.digits.now) above)
