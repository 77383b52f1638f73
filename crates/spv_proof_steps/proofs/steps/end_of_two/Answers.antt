use Rattle.std.proofs.Common.{refl, length}
use Rattle.spv_proof_steps.proofs.steps.end_of_two.Goals as goal

pub contrary-requires-clause-s : goal.contrary-requires-clause-s
contrary-requires-clause-s c = c.in-Some.ensures.in_range (length c.args.terms.now.nodes) c.requires c.in-Some.s refl

pub contrary-requires-clause-t : goal.contrary-requires-clause-t
contrary-requires-clause-t c = c.in-Some-fact.ensures.in_range (length c.args.terms.now.nodes) c.requires c.in-Some-fact.t refl
