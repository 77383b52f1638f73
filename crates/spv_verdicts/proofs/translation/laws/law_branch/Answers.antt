use Rattle.spv_verdicts.proofs.translation.BranchLemmas.{own-survives}
use Rattle.spv_verdicts.proofs.translation.laws.law_branch.Goals as goal

pub returns : goal.returns
returns c = own-survives
