use Rattle.std.proofs.Common.{sym}
use Rattle.spv_decisions.proofs.literal_lookup.Ordered.{order_there}
use Rattle.spv_decisions.proofs.decision.choosing.is_ordered.Goals as goal

pub returns-in-Some : goal.returns-in-Some
returns-in-Some c = sym (order_there c.args.terms.now c.args.t c.args.known.now _ c.in-Some.ensures.found)

pub returns-in-None : goal.returns-in-None
returns-in-None c = sym c.in-None.ensures.none
