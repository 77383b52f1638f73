use Rattle.spv_search.proofs.branches.Telling.{others-new, last-in}
use Rattle.spv_search.proofs.branches.laws.law_cases.Goals as goal

pub returns-clause-new : goal.returns-clause-new
returns-clause-new c = others-new

pub returns-clause-last : goal.returns-clause-last
returns-clause-last c = last-in
