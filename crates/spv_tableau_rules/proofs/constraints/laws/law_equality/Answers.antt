use Rattle.spv_tableau_rules.proofs.constraints.Steps.{adds_equation}
use Rattle.spv_tableau_rules.proofs.constraints.laws.law_equality.Goals as goal

pub returns-clause-adds : goal.returns-clause-adds
returns-clause-adds c = adds_equation
