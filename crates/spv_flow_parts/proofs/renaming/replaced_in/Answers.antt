use Rattle.spv_flow_parts.proofs.Conditions.{replaced_comes}
use Rattle.spv_flow_parts.proofs.renaming.replaced_in.Goals as goal

pub returns : goal.returns
returns c = replaced_comes c.replaced.result c.args.terms.now c.replaced.new.terms _ c.replaced.ensures.conditions c.replaced.ensures.in_range c.replaced.ensures.grows c.replaced.ensures.walk
