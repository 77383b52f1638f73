use Rattle.spv_models.proofs.split_trees.Counting.{few-splits, kept-once, kept-small}
use Rattle.spv_models.proofs.split_trees.laws.law_few_splits.Goals as goal

pub returns-clause-trees : goal.returns-clause-trees
returns-clause-trees c = few-splits

pub returns-clause-once : goal.returns-clause-once
returns-clause-once c = kept-once

pub returns-clause-kept : goal.returns-clause-kept
returns-clause-kept c = kept-small
