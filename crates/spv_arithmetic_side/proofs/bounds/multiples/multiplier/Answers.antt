use Rattle.spv_arithmetic_side.proofs.bounds.Stating.{equal_is, factor_is}
use Rattle.spv_arithmetic_side.proofs.bounds.multiples.multiplier.Goals as goal

pub returns-then-is_equal : goal.returns-then-is_equal
returns-then-is_equal c = equal_is c.args.factor c.signed.result c.args.side c.args.is_equal c.if-is_equal.true c.signed.ensures

pub returns-else-is_equal : goal.returns-else-is_equal
returns-else-is_equal c = factor_is c.args.factor c.args.side c.args.is_equal c.law_frac.ensures.is_lowest c.if-is_equal.false
