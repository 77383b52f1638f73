use Rattle.spv_worked.proofs.TwoRows.{no_start}
use Rattle.spv_worked.proofs.doubts.law_no_start.Goals as goal

pub returns : goal.returns
returns c = no_start
