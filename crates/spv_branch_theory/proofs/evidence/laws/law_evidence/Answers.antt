use Rattle.spv_branch_theory.proofs.evidence.Evidence.{wide_reached, pivots_reached}
use Rattle.spv_branch_theory.proofs.evidence.laws.law_evidence.Goals as goal

pub returns-clause-wide : goal.returns-clause-wide
returns-clause-wide c = wide_reached

pub returns-clause-pivots : goal.returns-clause-pivots
returns-clause-pivots c = pivots_reached
