use Rattle.spv_frac.proofs.rational.Field.{whole_plus, whole_times}
use Rattle.spv_frac.proofs.rational.laws.law_whole.Goals as goal

pub returns-clause-sum : goal.returns-clause-sum
returns-clause-sum c = whole_plus

pub returns-clause-product : goal.returns-clause-product
returns-clause-product c = whole_times
