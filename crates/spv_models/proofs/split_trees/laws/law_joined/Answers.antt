use Rattle.spv_models.proofs.split_trees.Showing.{linked-joined, joined-linked, linked-same}
use Rattle.spv_models.proofs.split_trees.laws.law_joined.Goals as goal

pub returns-clause-derived : goal.returns-clause-derived
returns-clause-derived c = linked-joined

pub returns-clause-found : goal.returns-clause-found
returns-clause-found c = joined-linked

pub returns-clause-least : goal.returns-clause-least
returns-clause-least c = linked-same
