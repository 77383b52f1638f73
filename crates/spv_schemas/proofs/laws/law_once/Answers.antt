use Rattle.spv_schemas.specs.Instances.{schemas}
use Rattle.spv_schemas.proofs.Once.{at_once, once_at, listed_once}
use Rattle.spv_schemas.proofs.laws.law_once.Goals as goal

pub returns : goal.returns
returns c shapes ok decls used once = once_at (schemas shapes decls used) (listed_once shapes ok decls used (at_once used once))
