use Rattle.spv_frac.proofs.rational.Field.{same, plus_comm, plus_assoc, plus_zero, plus_opposite}
use Rattle.spv_frac.proofs.rational.laws.law_sums.Goals as goal

pub returns-clause-one_value : goal.returns-clause-one_value
returns-clause-one_value c = same

pub returns-clause-commutative : goal.returns-clause-commutative
returns-clause-commutative c = plus_comm

pub returns-clause-associative : goal.returns-clause-associative
returns-clause-associative c = plus_assoc

pub returns-clause-zero : goal.returns-clause-zero
returns-clause-zero c = plus_zero

pub returns-clause-opposite : goal.returns-clause-opposite
returns-clause-opposite c = plus_opposite
