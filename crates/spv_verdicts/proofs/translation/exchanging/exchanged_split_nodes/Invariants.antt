use Rattle.std.proofs.Common.{◌≡◌, take}
use Rattle.spv_verdicts.specs.translation.ExchangedTrees.{exchanged_split_nodes}
use Rattle.spv_verdicts.proofs.translation.exchanging.exchanged_split_nodes.Given as goal

abbrev pub invariant-loop-node : goal.invariant-loop-node
invariant-loop-node l = l.list.items ≡ exchanged_split_nodes l.replacements (take l.node-index l.nodes)
