use Rattle.spv_tableau_rules.proofs.constraints.Steps.{adds_impossible}
use Rattle.spv_tableau_rules.proofs.constraints.laws.law_impossible.Goals as goal

pub returns-clause-adds : goal.returns-clause-adds
returns-clause-adds c = adds_impossible
