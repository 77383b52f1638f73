use Rattle.spv_flow_parts.proofs.Roots.{changed_there}
use Rattle.spv_flow_parts.proofs.laws.law_changed.Goals as goal

pub returns : goal.returns
returns c = changed_there
