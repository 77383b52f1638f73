use Rattle.spv_frame_law.proofs.Levels.{statement_writes, jump_writes, expression_same, place_fixed, arguments_bound, routine_writes, function_alone, called_writes}
use Rattle.spv_frame_law.proofs.laws.law_frame.Goals as goal

pub returns-clause-routines : goal.returns-clause-routines
returns-clause-routines c = routine_writes

pub returns-clause-functions : goal.returns-clause-functions
returns-clause-functions c = λ p f id r t there is state right turns choices after ended. function_alone p f id r there t is state right turns choices after ended

pub returns-clause-statements : goal.returns-clause-statements
returns-clause-statements c = statement_writes

pub returns-clause-expressions : goal.returns-clause-expressions
returns-clause-expressions c = expression_same

pub returns-clause-places : goal.returns-clause-places
returns-clause-places c = place_fixed

pub returns-clause-arguments : goal.returns-clause-arguments
returns-clause-arguments c = arguments_bound

pub returns-clause-calls : goal.returns-clause-calls
returns-clause-calls c = called_writes

pub returns-clause-jumps : goal.returns-clause-jumps
returns-clause-jumps c = jump_writes
