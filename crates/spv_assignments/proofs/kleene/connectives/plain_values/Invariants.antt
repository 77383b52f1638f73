use Rattle.spv_assignments.specs.kleene.Passes.{plain_at}
use Rattle.spv_assignments.proofs.kleene.Listing.{ValuedTo}
use Rattle.spv_assignments.proofs.kleene.connectives.plain_values.Given as goal

abbrev pub invariant-loop-i : goal.invariant-loop-i
invariant-loop-i l = ValuedTo l.i (plain_at l.terms) l.values.items
