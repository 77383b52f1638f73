use Rattle.std.proofs.Common.{refl}
use Rattle.spv_term.specs.Arena.{tree}
use Rattle.spv_assignments.specs.partial_assignment.Facts.{fact_of}
use Rattle.spv_trail.proofs.propagation.Ends.{refuted_none, refuted_some}
use Rattle.spv_trail.proofs.propagation.ending.is_refuted.Goals as goal

pub returns-in-Some : goal.returns-in-Some
returns-in-Some c =
    let a = c.args.terms.now in
    refuted_some (fact_of a c.args.k) (tree a c.in-Some.low) (tree a c.in-Some.high) c.is_downward.result c.in-Some.ensures.value c.is_downward.ensures

pub returns-in-None : goal.returns-in-None
returns-in-None c = refuted_none (fact_of c.args.terms.now c.args.k) _ c.in-None.ensures.value refl
