use Rattle.std.proofs.Common.{◌≡◌, take}
use Rattle.spv_verdicts.specs.answers.Nodes.{proof_nodes}
use Rattle.spv_search.proofs.branches.copying.nodes_of.Given as goal

abbrev pub invariant-loop-node : goal.invariant-loop-node
invariant-loop-node l = l.list.items ≡ proof_nodes (take l.node-index l.nodes)
