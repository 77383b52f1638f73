use Rattle.std.proofs.Common.{Some, None, refl}
use Rattle.spv_assignments.proofs.partial_assignment.Deciding.{supposes_some, supposes_none}
use Rattle.spv_assignments.proofs.partial_assignment.answering.denied.Goals as goal

pub returns-in-Some : goal.returns-in-Some
returns-in-Some c = supposes_some c.args.terms.now c.args.t c.requires (Some c.in-Some.u) c.in-Some.u refl c.in-Some.ensures.value (c.in-Some.ensures.in_range _ refl)

pub returns-in-None : goal.returns-in-None
returns-in-None c = supposes_none c.args.terms.now c.args.t c.requires None refl c.in-None.ensures.value
