use Rattle.spv_worked.proofs.Puts.{adding_writes}
use Rattle.spv_worked.proofs.written.law_written_recursion.Goals as goal

pub returns-clause-writes : goal.returns-clause-writes
returns-clause-writes c = adding_writes
