use Rattle.spv_conditions.proofs.Limits.{meets_no_other, meets_one}
use Rattle.spv_conditions.proofs.laws.law_limits.Goals as goal

pub returns-clause-within : goal.returns-clause-within
returns-clause-within c = meets_no_other c.law_one_limit.ensures.made

pub returns-clause-one : goal.returns-clause-one
returns-clause-one c = meets_one c.law_one_limit.ensures.one
