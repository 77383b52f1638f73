use Rattle.spv_decisions.proofs.decision.Questions.{questions-filled}
use Rattle.spv_decisions.proofs.decision.Filled.{nothing_left}
use Rattle.spv_decisions.proofs.decision.laws.law_full.Goals as goal

pub returns-clause-questions : goal.returns-clause-questions
returns-clause-questions c = questions-filled

pub returns-clause-filled : goal.returns-clause-filled
returns-clause-filled c = nothing_left
