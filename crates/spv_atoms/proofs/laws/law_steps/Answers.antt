use Rattle.spv_atoms.proofs.Steps.{shape_back}
use Rattle.spv_atoms.proofs.laws.law_steps.Goals as goal

pub returns-clause-back : goal.returns-clause-back
returns-clause-back c x s e = shape_back x s e
