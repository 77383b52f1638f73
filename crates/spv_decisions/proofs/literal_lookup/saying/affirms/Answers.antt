use Rattle.std.proofs.Common.{sym}
use Rattle.spv_term.specs.Arena.{tree}
use Rattle.spv_assignments.specs.partial_assignment.Facts.{fact_of}
use Rattle.spv_decisions.proofs.literal_lookup.Said.{affirms_order}
use Rattle.spv_decisions.proofs.literal_lookup.saying.affirms.Goals as goal

pub returns-in-Some : goal.returns-in-Some
returns-in-Some c =
    let a = c.args.terms.now in
    affirms_order (tree a c.args.t) (tree a c.in-Some.low) (tree a c.in-Some.high) (fact_of a c.args.k) c.puts_below.result c.in-Some.ensures.value c.puts_below.ensures

pub names-requires-clause-unordered : goal.names-requires-clause-unordered
names-requires-clause-unordered c = sym c.in-None.ensures.value
