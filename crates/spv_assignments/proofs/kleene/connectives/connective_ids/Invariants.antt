use Rattle.spv_assignments.proofs.kleene.Listing.{ListedTo}
use Rattle.spv_assignments.proofs.kleene.connectives.connective_ids.Given as goal

abbrev pub invariant-loop-i : goal.invariant-loop-i
invariant-loop-i l = ListedTo l.terms l.i l.ids.items
