use Rattle.std.proofs.Common.{refl, length}
use Rattle.spv_proof_steps.proofs.congruence.says_equal.Goals as goal

pub is_equation-requires-clause-u : goal.is_equation-requires-clause-u
is_equation-requires-clause-u c = c.in-Some.ensures.in_range (length c.args.terms.now.nodes) c.requires.facts c.in-Some.u refl
