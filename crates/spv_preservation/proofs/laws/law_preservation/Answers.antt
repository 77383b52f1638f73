use Rattle.spv_preservation.proofs.Levels.{statement_leaves, statement_jumps, body_keeps}
use Rattle.spv_preservation.proofs.laws.law_preservation.Goals as goal

pub returns-clause-statements : goal.returns-clause-statements
returns-clause-statements c = statement_leaves

pub returns-clause-jumps : goal.returns-clause-jumps
returns-clause-jumps c = statement_jumps

pub returns-clause-bodies : goal.returns-clause-bodies
returns-clause-bodies c = body_keeps
