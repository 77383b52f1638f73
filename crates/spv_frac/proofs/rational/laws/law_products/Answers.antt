use Rattle.spv_frac.proofs.rational.Field.{times_comm, times_assoc, times_one, times_zero, times_plus}
use Rattle.spv_frac.proofs.rational.laws.law_products.Goals as goal

pub returns-clause-commutative : goal.returns-clause-commutative
returns-clause-commutative c = times_comm

pub returns-clause-associative : goal.returns-clause-associative
returns-clause-associative c = times_assoc

pub returns-clause-one : goal.returns-clause-one
returns-clause-one c = times_one

pub returns-clause-zero : goal.returns-clause-zero
returns-clause-zero c = times_zero

pub returns-clause-distributive : goal.returns-clause-distributive
returns-clause-distributive c = times_plus
