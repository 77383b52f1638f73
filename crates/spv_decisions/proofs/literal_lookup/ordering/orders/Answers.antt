use Rattle.spv_term.specs.Arena.{tree}
use Rattle.spv_assignments.specs.partial_assignment.Facts.{fact_of}
use Rattle.spv_decisions.proofs.literal_lookup.Ordered.{crosses_some, crosses_none}
use Rattle.spv_decisions.proofs.literal_lookup.ordering.orders.Goals as goal

pub returns-in-Some : goal.returns-in-Some
returns-in-Some c =
    let a = c.args.terms.now in
    record { value = crosses_some (tree a c.args.t) (fact_of a c.args.k) (tree a c.in-Some.left) (tree a c.in-Some.right) c.compares.result c.in-Some.ensures.value c.compares.ensures }

pub returns-in-None : goal.returns-in-None
returns-in-None c = record { value = crosses_none (tree c.args.terms.now c.args.t) (fact_of c.args.terms.now c.args.k) c.in-None.ensures.value }
