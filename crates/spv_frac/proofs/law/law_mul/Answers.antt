use Rattle.spv_whole.proofs.Arithmetic.{product_comm, product_assoc, product-IsLowest, product-value, product-sum}
use Rattle.spv_whole.proofs.Ring.{nonzero_abs}
use Rattle.spv_whole.proofs.Units.{product-one, product-zero, product-negated, product-reciprocal, reciprocal-IsLowest}
use Rattle.spv_frac.proofs.law.law_mul.Goals as goal

pub returns-clause-lowest : goal.returns-clause-lowest
returns-clause-lowest c = λ a b ha hb. product-IsLowest a b ha.positive hb.positive

pub returns-clause-value : goal.returns-clause-value
returns-clause-value c = product-value

pub returns-clause-commutative : goal.returns-clause-commutative
returns-clause-commutative c = product_comm

pub returns-clause-associative : goal.returns-clause-associative
returns-clause-associative c = λ a b d ha hb hd. product_assoc a b d ha.positive hb.positive hd.positive

pub returns-clause-one : goal.returns-clause-one
returns-clause-one c = product-one

pub returns-clause-distributive : goal.returns-clause-distributive
returns-clause-distributive c = λ a b d ha hb hd. product-sum a b d ha.positive hb.positive hd.positive

pub returns-clause-reciprocal_lowest : goal.returns-clause-reciprocal_lowest
returns-clause-reciprocal_lowest c = λ a h nonzero. reciprocal-IsLowest a h (nonzero_abs a.num nonzero)

pub returns-clause-reciprocal : goal.returns-clause-reciprocal
returns-clause-reciprocal c = λ a h nonzero. product-reciprocal a h.positive (nonzero_abs a.num nonzero)

pub returns-clause-zero : goal.returns-clause-zero
returns-clause-zero c = λ a h. product-zero a h.positive

pub returns-clause-negated : goal.returns-clause-negated
returns-clause-negated c = product-negated
