use Rattle.spv_writes.proofs.Steps.{put_beside}
use Rattle.spv_frame_law.proofs.Callees.{call_begins}
use Rattle.spv_frame_law.proofs.Views.{body_calls}
use Rattle.spv_frame_law.proofs.Starts.{apart_stays, start_stays, leaves_start}
use Rattle.spv_frame_law.proofs.laws.law_apart.Goals as goal

pub returns-clause-apart : goal.returns-clause-apart
returns-clause-apart c = apart_stays

pub returns-clause-starts : goal.returns-clause-starts
returns-clause-starts c = start_stays

pub returns-clause-statements : goal.returns-clause-statements
returns-clause-statements c = leaves_start

pub returns-clause-put : goal.returns-clause-put
returns-clause-put c = put_beside

pub returns-clause-calls : goal.returns-clause-calls
returns-clause-calls c = call_begins

pub returns-clause-bodies : goal.returns-clause-bodies
returns-clause-bodies c = body_calls
