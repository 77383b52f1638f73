use Rattle.std.proofs.Common.{◌≡◌, take}
use Rattle.spv_verdicts.specs.translation.Exchanged.{exchanged_nodes}
use Rattle.spv_verdicts.proofs.translation.exchanging.exchanged_nodes.Given as goal

abbrev pub invariant-loop-node : goal.invariant-loop-node
invariant-loop-node l = l.list.items ≡ exchanged_nodes l.replacements (take l.node-index l.nodes)
