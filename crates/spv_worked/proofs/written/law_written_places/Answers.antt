use Rattle.spv_worked.proofs.Puts.{filling_writes}
use Rattle.spv_worked.proofs.written.law_written_places.Goals as goal

pub returns-clause-writes : goal.returns-clause-writes
returns-clause-writes c = filling_writes
