use Rattle.std.proofs.Common.{ap, ◌∙◌}
use Rattle.spv_verdicts.specs.answers.Nodes.{tree_at}
use Rattle.spv_verdicts.proofs.answers.GrownTrees.{turned_tree, turned_trees}
use Rattle.spv_verdicts.proofs.answers.growing.grown_tree.Goals as goal

pub new-requires : goal.new-requires
new-requires c = turned_tree c.args.nodes.items c.in_ok-other.other.items c.in_ok-placed.placed.items c.requires c.in_ok-other.ensures c.in_ok-placed.ensures

pub returns-clause-tree : goal.returns-clause-tree
returns-clause-tree c =
    λ at. ap (tree_at at) c.new.ensures ∙ turned_trees at c.args.nodes.items c.in_ok-other.other.items c.in_ok-placed.placed.items c.requires c.in_ok-other.ensures c.in_ok-placed.ensures
