use Rattle.spv_tableau_rules.proofs.constraints.Refuting.{contradiction_refutes}
use Rattle.spv_tableau_rules.proofs.constraints.laws.law_refuted.Goals as goal

pub returns : goal.returns
returns c = contradiction_refutes
