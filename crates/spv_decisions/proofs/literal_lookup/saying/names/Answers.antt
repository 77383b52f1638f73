use Rattle.std.proofs.Common.{sym}
use Rattle.spv_term.specs.Arena.{tree}
use Rattle.spv_assignments.specs.partial_assignment.Facts.{fact_of}
use Rattle.spv_decisions.proofs.literal_lookup.Said.{order_names_none}
use Rattle.spv_decisions.proofs.literal_lookup.saying.names.Goals as goal

pub returns-in-Some : goal.returns-in-Some
returns-in-Some c = order_names_none (tree c.args.terms.now c.args.t) (fact_of c.args.terms.now c.args.k) _ c.requires.unordered c.in-Some.ensures.value

pub is_itself-requires-clause-unordered : goal.is_itself-requires-clause-unordered
is_itself-requires-clause-unordered c = sym c.in-None.ensures.value
