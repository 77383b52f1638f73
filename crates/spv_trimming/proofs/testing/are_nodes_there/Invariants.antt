use Rattle.std.proofs.Common.{drop}
use Rattle.spv_proof_rules.specs.Stand.{NodesIn}
use Rattle.spv_trimming.proofs.testing.are_nodes_there.Given as goal

abbrev pub invariant-loop-node : goal.invariant-loop-node
invariant-loop-node l = NodesIn l.terms (drop l.node-index l.nodes) → NodesIn l.terms l.nodes
