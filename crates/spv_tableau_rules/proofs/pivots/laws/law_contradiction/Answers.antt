use Rattle.spv_tableau_rules.proofs.pivots.Contradicting.{refutes}
use Rattle.spv_tableau_rules.proofs.pivots.Stuck.{stuck_contradicts}
use Rattle.spv_tableau_rules.proofs.pivots.laws.law_contradiction.Goals as goal

pub returns-clause-stuck : goal.returns-clause-stuck
returns-clause-stuck c = stuck_contradicts

pub returns-clause-refutes : goal.returns-clause-refutes
returns-clause-refutes c = refutes
