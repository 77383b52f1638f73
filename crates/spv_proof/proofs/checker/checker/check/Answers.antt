use Rattle.spv_proof_rules.specs.Stand.{question}
use Rattle.spv_proof.proofs.checker.Nodes.{if_accepted}
use Rattle.spv_proof.proofs.checker.checker.check.Goals as goal

pub returns-clause-accepted : goal.returns-clause-accepted
returns-clause-accepted c = if_accepted c.args.terms.now c.check_nodes.new.terms (question c.args.terms.now c.args.condition.now) c.nodes.result.now c.args.proof.now c.nodes.ensures.nodes c.check_nodes.result c.check_nodes.ensures.outcome
