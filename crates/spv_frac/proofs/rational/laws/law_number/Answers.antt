use Rattle.spv_frac.proofs.rational.Field.{number_is, number_sum, number_product}
use Rattle.spv_frac.proofs.rational.laws.law_number.Goals as goal

pub returns-clause-lowest : goal.returns-clause-lowest
returns-clause-lowest c = number_is

pub returns-clause-sum : goal.returns-clause-sum
returns-clause-sum c = number_sum

pub returns-clause-product : goal.returns-clause-product
returns-clause-product c = number_product
