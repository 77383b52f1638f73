use Rattle.spv_assign.proofs.limits.Limits.{made_meets_none, not_both}
use Rattle.spv_assign.proofs.limits.laws.law_one_limit.Goals as goal

pub returns-clause-made : goal.returns-clause-made
returns-clause-made c = made_meets_none

pub returns-clause-one : goal.returns-clause-one
returns-clause-one c = not_both
