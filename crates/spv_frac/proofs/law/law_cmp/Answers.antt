use Rattle.spv_whole.proofs.Order.{order_total, order-less, IsLess_irrefl, IsLess_trans, sum-less, product-less}
use Rattle.spv_frac.proofs.law.law_cmp.Goals as goal

pub returns-clause-total : goal.returns-clause-total
returns-clause-total c = order_total

pub returns-clause-less : goal.returns-clause-less
returns-clause-less c = order-less

pub returns-clause-irreflexive : goal.returns-clause-irreflexive
returns-clause-irreflexive c = IsLess_irrefl

pub returns-clause-transitive : goal.returns-clause-transitive
returns-clause-transitive c = λ a b d ha hb hd. IsLess_trans a b d ha.positive hb.positive hd.positive

pub returns-clause-sum : goal.returns-clause-sum
returns-clause-sum c = λ a b d ha hb hd. sum-less a b d ha.positive hb.positive hd.positive

pub returns-clause-product : goal.returns-clause-product
returns-clause-product c = λ a b d ha hb hd. product-less a b d ha.positive hb.positive hd.positive
