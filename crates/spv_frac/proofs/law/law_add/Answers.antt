use Rattle.spv_whole.proofs.Arithmetic.{sum_comm, sum_assoc, sum-IsLowest, sum-value}
use Rattle.spv_whole.proofs.Units.{sum-zero, sum-negated, sum_of_negated, negated-IsLowest}
use Rattle.spv_frac.proofs.law.law_add.Goals as goal

pub returns-clause-lowest : goal.returns-clause-lowest
returns-clause-lowest c = λ a b ha hb. sum-IsLowest a b ha.positive hb.positive

pub returns-clause-value : goal.returns-clause-value
returns-clause-value c = sum-value

pub returns-clause-commutative : goal.returns-clause-commutative
returns-clause-commutative c = sum_comm

pub returns-clause-associative : goal.returns-clause-associative
returns-clause-associative c = λ a b d ha hb hd. sum_assoc a b d ha.positive hb.positive hd.positive

pub returns-clause-zero : goal.returns-clause-zero
returns-clause-zero c = sum-zero

pub returns-clause-negated_lowest : goal.returns-clause-negated_lowest
returns-clause-negated_lowest c = negated-IsLowest

pub returns-clause-negated : goal.returns-clause-negated
returns-clause-negated c = λ a h. sum-negated a h.positive

pub returns-clause-both_negated : goal.returns-clause-both_negated
returns-clause-both_negated c = sum_of_negated
