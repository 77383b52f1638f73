use Rattle.spv_derivations.proofs.derivation.Copies.{steps-add, steps-close}
use Rattle.spv_derivations.proofs.derivation.laws.law_steps.Goals as goal

pub returns-clause-adds : goal.returns-clause-adds
returns-clause-adds c a s known es f told = steps-add a s known es f told

pub returns-clause-closes : goal.returns-clause-closes
returns-clause-closes c a s known es first second f told end = steps-close a s known es first second f told end
