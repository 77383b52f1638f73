use Rattle.spv_frame_law.proofs.Stacks.{writing_keeps, statements_keep, calls_push, calls_pop}
use Rattle.spv_frame_law.proofs.laws.law_apart_kept.Goals as goal

pub returns-clause-writing : goal.returns-clause-writing
returns-clause-writing c = writing_keeps

pub returns-clause-statements : goal.returns-clause-statements
returns-clause-statements c = statements_keep

pub returns-clause-calls : goal.returns-clause-calls
returns-clause-calls c = calls_push

pub returns-clause-returns : goal.returns-clause-returns
returns-clause-returns c = calls_pop
