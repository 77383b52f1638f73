use Rattle.spv_meaning.proofs.MainStart.{defaults_start}
use Rattle.spv_meaning.proofs.RoutineStarts.{routine_start}
use Rattle.spv_meaning.proofs.laws.law_starts.Goals as goal

pub returns-clause-main_blocks : goal.returns-clause-main_blocks
returns-clause-main_blocks c = defaults_start

pub returns-clause-routines : goal.returns-clause-routines
returns-clause-routines c = routine_start
