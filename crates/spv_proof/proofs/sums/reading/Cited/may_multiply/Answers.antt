use Rattle.std.proofs.Common.{◌∙◌, ap, sym, ◌||◌, not}
use Rattle.spv_whole.specs.Fraction.{Fraction}
use Rattle.spv_frac.specs.rational.Rational.{number, is_negative}
use Rattle.spv_proof.proofs.sums.Numeric.{not-negative, numerator}
use Rattle.spv_proof.proofs.sums.reading.Cited.may_multiply.Goals as goal

pub returns-else-self : goal.returns-else-self
returns-else-self c a =
    not-negative c.args.m c.law_frac.ensures.is_lowest _ (numerator c.args.m c.law_frac.ensures c.m.inside.num (ap (λ (f : Fraction). f.num) c.m.view_is))
    ∙ ap (λ b. b || not (is_negative (number c.args.m))) (sym c.if-self.false)
