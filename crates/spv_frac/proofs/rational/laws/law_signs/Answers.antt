use Rattle.spv_frac.proofs.rational.Signs.{not_positive_plus, not_positive_times, zero_is}
use Rattle.spv_frac.proofs.rational.laws.law_signs.Goals as goal

pub returns-clause-sum : goal.returns-clause-sum
returns-clause-sum c = not_positive_plus

pub returns-clause-product : goal.returns-clause-product
returns-clause-product c = not_positive_times

pub returns-clause-zero : goal.returns-clause-zero
returns-clause-zero c = zero_is
