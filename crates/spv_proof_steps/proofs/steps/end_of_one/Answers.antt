use Rattle.std.proofs.Common.{refl, length}
use Rattle.spv_proof_steps.proofs.steps.end_of_one.Goals as goal

pub impossible-requires : goal.impossible-requires
impossible-requires c = c.in-Some.ensures.in_range (length c.args.terms.now.nodes) c.requires c.in-Some.t refl
