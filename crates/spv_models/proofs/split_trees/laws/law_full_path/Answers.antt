use Rattle.spv_models.proofs.split_trees.Filling.{full-told, full-point, full-leaf, full-survives}
use Rattle.spv_models.proofs.split_trees.laws.law_full_path.Goals as goal

pub returns-clause-told : goal.returns-clause-told
returns-clause-told c = full-told

pub returns-clause-point : goal.returns-clause-point
returns-clause-point c = full-point

pub returns-clause-leaf : goal.returns-clause-leaf
returns-clause-leaf c = full-leaf

pub returns-clause-survives : goal.returns-clause-survives
returns-clause-survives c = full-survives
