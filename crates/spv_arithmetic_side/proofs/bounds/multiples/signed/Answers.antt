use Rattle.spv_arithmetic_side.proofs.bounds.Stating.{lower_is, upper_is}
use Rattle.spv_arithmetic_side.proofs.bounds.multiples.signed.Goals as goal

pub returns-in-Lower : goal.returns-in-Lower
returns-in-Lower c = lower_is c.args.factor c.neg.result c.args.side c.law_frac.ensures.is_lowest c.in-Lower.is c.neg.ensures

pub returns-in-Upper : goal.returns-in-Upper
returns-in-Upper c = upper_is c.args.factor c.args.side c.law_frac.ensures.is_lowest c.in-Upper.is
