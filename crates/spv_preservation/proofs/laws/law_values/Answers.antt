use Rattle.spv_preservation.proofs.Starts.{has_values, right_is_start}
use Rattle.spv_preservation.proofs.laws.law_values.Goals as goal

pub returns-clause-values : goal.returns-clause-values
returns-clause-values c = has_values

pub returns-clause-starts : goal.returns-clause-starts
returns-clause-starts c = right_is_start
