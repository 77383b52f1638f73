use Rattle.spv_assignments.proofs.assignment_vector.Giving.{direct_negation, direct_core}
use Rattle.spv_assignments.proofs.assignment_vector.lists.direct.Goals as goal

pub returns-in-Some : goal.returns-in-Some
returns-in-Some c = direct_negation c.args.terms.now c.args.given.now c.args.t _ c.in-Some.ensures.value

pub returns-in-None : goal.returns-in-None
returns-in-None c = direct_core c.args.terms.now c.args.given.now c.args.t c.affirmed.result c.truth.result c.requires c.in-None.ensures.value c.affirmed.ensures c.truth.ensures
