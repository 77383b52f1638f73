use Rattle.spv_arithmetic_side.proofs.farkas.Refuting.{refuted_above, ends_by_one}
use Rattle.spv_arithmetic_side.proofs.farkas.laws.law_refuted.Goals as goal

pub returns-clause-above : goal.returns-clause-above
returns-clause-above c = refuted_above

pub returns-clause-ends : goal.returns-clause-ends
returns-clause-ends c = ends_by_one
