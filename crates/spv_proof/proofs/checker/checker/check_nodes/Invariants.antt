use Rattle.std.proofs.Common.{drop}
use Rattle.spv_proof.proofs.checker.Nodes.{Checking}
use Rattle.spv_proof.proofs.checker.checker.check_nodes.Given as goal

abbrev pub invariant-loop-node : goal.invariant-loop-node
invariant-loop-node l = Checking l.fn.terms l.task l.nodes l.terms l.facts.items l.pending.items (drop l.node-index l.nodes)
