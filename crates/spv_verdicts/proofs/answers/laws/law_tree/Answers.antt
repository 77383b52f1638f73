use Rattle.spv_verdicts.proofs.answers.OneTree.{one_tree}
use Rattle.spv_verdicts.proofs.answers.laws.law_tree.Goals as goal

pub returns : goal.returns
returns c = one_tree
