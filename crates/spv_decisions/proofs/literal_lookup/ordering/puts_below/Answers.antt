use Rattle.spv_term.specs.Arena.{tree}
use Rattle.spv_assignments.specs.partial_assignment.Facts.{fact_of}
use Rattle.spv_decisions.proofs.literal_lookup.Ordered.{put_some, put_none}
use Rattle.spv_decisions.proofs.literal_lookup.ordering.puts_below.Goals as goal

pub returns-in-Some : goal.returns-in-Some
returns-in-Some c =
    let a = c.args.terms.now in
    put_some (tree a c.args.s) (tree a c.args.t) (tree a c.in-Some.low) (tree a c.in-Some.high) (fact_of a c.args.k) c.same_terms.result c.in-Some.ensures.value c.same_terms.ensures

pub returns-in-None : goal.returns-in-None
returns-in-None c =
    let a = c.args.terms.now in
    put_none (tree a c.args.s) (tree a c.args.t) (fact_of a c.args.k) c.in-None.ensures.value
