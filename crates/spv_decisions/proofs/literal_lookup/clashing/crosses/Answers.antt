use Rattle.spv_term.specs.Arena.{tree}
use Rattle.spv_assignments.specs.partial_assignment.Facts.{fact_of}
use Rattle.spv_decisions.proofs.literal_lookup.Opposed.{crosses_true, crosses_other}
use Rattle.spv_decisions.proofs.literal_lookup.clashing.crosses.Goals as goal

pub returns-in-True : goal.returns-in-True
returns-in-True c = crosses_true (tree c.args.terms.now c.args.f.term) (fact_of c.args.terms.now c.args.g) c.args.f.part c.orders.result c.in-True.is c.orders.ensures.value

pub returns-in_default : goal.returns-in_default
returns-in_default c = crosses_other (tree c.args.terms.now c.args.f.term) (fact_of c.args.terms.now c.args.g) c.args.f.part c.in_default.not-True
