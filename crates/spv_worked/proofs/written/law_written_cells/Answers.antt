use Rattle.spv_worked.proofs.Puts.{making_writes}
use Rattle.spv_worked.proofs.written.law_written_cells.Goals as goal

pub returns-clause-writes : goal.returns-clause-writes
returns-clause-writes c = making_writes
