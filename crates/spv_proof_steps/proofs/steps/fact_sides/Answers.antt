use Rattle.std.proofs.Common.{refl, length}
use Rattle.spv_proof_steps.proofs.steps.fact_sides.Goals as goal

pub sides-requires : goal.sides-requires
sides-requires c = c.in-Some.ensures.in_range (length c.args.terms.now.nodes) c.requires c.in-Some.t refl
