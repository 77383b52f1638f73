use Rattle.spv_models.proofs.split_trees.Counting.{kept-small}
use Rattle.spv_verdicts.proofs.laws.law_splits.Goals as goal

pub returns : goal.returns
returns c a q limits tree kept = kept-small q limits.splits tree kept
