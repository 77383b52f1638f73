-- The operands of an operation, as fractions.
use Rattle.std.proofs.Common.{◌≡◌, sym, ap, ◌∙◌}
use Rattle.spv_whole.specs.Fraction.{Fraction}
use Rattle.spv_frac.specs.rational.Rational.{Rational, number}
use Rattle.spv_frac.proofs.rational.Field.{number_is}
use Rattle.spv_frac.specs.Range.{IsFrac}

-- the fraction of the number that a fraction stands for is that fraction
pub operand : (f : Fraction) (q : Rational) → number f ≡ q → IsFrac f → f ≡ q.fraction
operand f q e is = sym (number_is f is.is_lowest) ∙ ap (λ (n : Rational). n.fraction) e
