use Rattle.spv_models.proofs.split_trees.Finishing.{gives-least}
use Rattle.spv_models.proofs.split_trees.Worlds.{known-true}
use Rattle.spv_models.proofs.split_trees.laws.law_known.Goals as goal

pub returns-clause-least : goal.returns-clause-least
returns-clause-least c = gives-least

pub returns-clause-true_in_a_world : goal.returns-clause-true_in_a_world
returns-clause-true_in_a_world c = known-true
