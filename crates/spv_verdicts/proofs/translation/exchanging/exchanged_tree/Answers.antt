use Rattle.std.proofs.Common.{sym, ap, ◌∙◌, subst}
use Rattle.spv_verdicts.specs.answers.Nodes.{is_split_tree, tree_at}
use Rattle.spv_verdicts.specs.answers.Views.{SplitNodesIn}
use Rattle.spv_verdicts.specs.translation.ExchangedTrees.{exchanged_tree}
use Rattle.spv_verdicts.proofs.translation.ExchangedTreeLemmas.{tree-exchanged, split-tree-stays}
use Rattle.spv_verdicts.proofs.translation.StandLemmas.{split-nodes-in}
use Rattle.spv_verdicts.proofs.translation.exchanging.exchanged_tree.Goals as goal

pub new-requires : goal.new-requires
new-requires c = ap is_split_tree c.in_ok-nodes.ensures ∙ split-tree-stays c.args.replacements.now c.nodes.result.now c.nodes.ensures.tree

pub returns-clause-tree : goal.returns-clause-tree
returns-clause-tree c =
    λ at. ap (tree_at at) (c.new.ensures ∙ c.in_ok-nodes.ensures)
    ∙ (tree-exchanged at c.args.replacements.now c.nodes.result.now ∙ ap (λ nodes. exchanged_tree c.args.replacements.now (tree_at at nodes)) c.nodes.ensures.nodes)

pub returns-clause-terms : goal.returns-clause-terms
returns-clause-terms c =
    λ a table own. subst (SplitNodesIn a) (sym (c.new.ensures ∙ c.in_ok-nodes.ensures)) (split-nodes-in a c.args.replacements.now c.nodes.result.now table (subst (SplitNodesIn a) (sym c.nodes.ensures.nodes) own))
