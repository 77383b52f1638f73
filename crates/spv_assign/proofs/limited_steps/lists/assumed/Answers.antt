use Rattle.spv_assign.proofs.Replacing.{assumes}
use Rattle.spv_assign.proofs.limited_steps.lists.assumed.Goals as goal

pub returns-clause-assumes : goal.returns-clause-assumes
returns-clause-assumes c = assumes c.args.h c.args.rest.items c.in_ok-assumed.field-0.items c.in_ok-assumed.ensures
