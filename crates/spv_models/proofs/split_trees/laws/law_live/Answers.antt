use Rattle.spv_models.proofs.split_trees.Showing.{shown-live}
use Rattle.spv_models.proofs.split_trees.Worlds.{true-live}
use Rattle.spv_models.proofs.split_trees.laws.law_live.Goals as goal

pub returns-clause-shown : goal.returns-clause-shown
returns-clause-shown c = shown-live

pub returns-clause-live : goal.returns-clause-live
returns-clause-live c = true-live
