use Rattle.spv_flow_parts.proofs.body_tables.Headings.{stands}
use Rattle.spv_flow_parts.proofs.body_tables.laws.law_stands.Goals as goal

pub returns : goal.returns
returns c = stands
