use Rattle.spv_assignments.specs.kleene.Passes.{start_value}
use Rattle.spv_assignments.proofs.kleene.Listing.{ValuedTo}
use Rattle.spv_assignments.proofs.kleene.passes.started.Given as goal

abbrev pub invariant-loop-i : goal.invariant-loop-i
invariant-loop-i l = ValuedTo l.i (start_value l.terms l.own) l.start.items
