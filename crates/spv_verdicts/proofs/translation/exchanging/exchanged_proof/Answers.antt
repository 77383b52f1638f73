use Rattle.std.proofs.Common.{sym, ap, ◌∙◌, subst}
use Rattle.spv_atoms.specs.Shape.{is_tree}
use Rattle.spv_proof_rules.specs.Stand.{NodesIn}
use Rattle.spv_verdicts.proofs.translation.ExchangeLemmas.{tree-stays}
use Rattle.spv_verdicts.proofs.translation.StandLemmas.{nodes-in}
use Rattle.spv_verdicts.proofs.translation.exchanging.exchanged_proof.Goals as goal

pub new-requires : goal.new-requires
new-requires c = ap is_tree c.in_ok-nodes.ensures ∙ tree-stays c.args.replacements.now c.nodes.result.now c.nodes.ensures.tree

pub returns-clause-terms : goal.returns-clause-terms
returns-clause-terms c =
    λ a table own. subst (NodesIn a) (sym (c.new.ensures ∙ c.in_ok-nodes.ensures)) (nodes-in a c.args.replacements.now c.nodes.result.now table (subst (NodesIn a) (sym c.nodes.ensures.nodes) own))
