use Rattle.spv_verdicts.proofs.answers.ClosedTrees.{closed_accepted, closed_tree}
use Rattle.spv_verdicts.proofs.answers.laws.law_closed.Goals as goal

pub returns-clause-accepted : goal.returns-clause-accepted
returns-clause-accepted c = closed_accepted

pub returns-clause-tree : goal.returns-clause-tree
returns-clause-tree c = closed_tree
