-- Trees of searches in which other steps stand where hypotheses were cited.
use Rattle.std.specs.Prelude.{List, map}
use Rattle.spv_atoms.specs.declared.proofs.Step.{Step}
use Rattle.spv_models.specs.split_trees.Trees.{Tree, Trees, Open, Closed, Split, no_trees, trees}
use Rattle.spv_verdicts.specs.declared.answers.trees.SplitNode.{SplitNode}
use Rattle.spv_verdicts.specs.declared.answers.trees.SplitNode.TheVariants as node
use Rattle.spv_verdicts.specs.translation.Exchanged.{exchanged_steps}

abbrev mutual
  -- a tree whose closed paths have the steps that take the place of theirs
  pub exchanged_tree : List Step → Tree → Tree
  exchanged_tree table Open = Open
  exchanged_tree table (Closed steps) = Closed (exchanged_steps table steps)
  exchanged_tree table (Split t parts) = Split t (exchanged_trees table parts)

  pub exchanged_trees : List Step → Trees → Trees
  exchanged_trees table no_trees = no_trees
  exchanged_trees table (trees part parts) = trees (exchanged_tree table part) (exchanged_trees table parts)

-- the same where a tree is kept as a list
abbrev pub exchanged_split_node : List Step → SplitNode → SplitNode
exchanged_split_node table node.Open = node.Open
exchanged_split_node table (node.Closed steps) = node.Closed (exchanged_steps table steps)
exchanged_split_node table (node.Split t parts) = node.Split t parts

abbrev pub exchanged_split_nodes : List Step → List SplitNode → List SplitNode
exchanged_split_nodes table nodes = map (exchanged_split_node table) nodes
