use Rattle.spv_whole.proofs.Lowest.{same_value}
use Rattle.spv_frac.proofs.law.law_value.Goals as goal

pub returns : goal.returns
returns c = same_value
