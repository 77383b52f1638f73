use Rattle.spv_proof_steps.specs.Steps.{fact_of}
use Rattle.spv_proof.proofs.checker.linear.shows.Goals as goal

pub returns-in-Ok-clause-unstopped : goal.returns-in-Ok-clause-unstopped
returns-in-Ok-clause-unstopped c = c.in-Ok.ensures.unstopped c.args.terms.now.most (fact_of c.args.terms.now c.args.relation)
