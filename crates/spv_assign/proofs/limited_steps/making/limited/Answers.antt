use Rattle.spv_assign.proofs.limited_steps.Limits.{limited_stops}
use Rattle.spv_assign.proofs.limited_steps.making.limited.Goals as goal

pub returns-in-Err-clause-walk : goal.returns-in-Err-clause-walk
returns-in-Err-clause-walk g c = λ old ts h. limited_stops old c.args.terms.now ts c.args.made c.in-Err.fault c.fault_of.result c.most.result c.in-Err.is c.fault_of.ensures c.most.ensures h
