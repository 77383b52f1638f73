use Rattle.std.proofs.Common.{sym, ap, ◌∙◌}
use Rattle.spv_frac.specs.rational.Rational.{Rational}
use Rattle.spv_frac.proofs.rational.Field.{number_is}
use Rattle.spv_dictionary.proofs.checked_numbers.number.Number.frac.Goals as goal

pub returns : goal.returns
returns c = sym (number_is c.self.inside.frac c.self.invariant) ∙ ap (λ (r : Rational). r.fraction) c.self.view_is
