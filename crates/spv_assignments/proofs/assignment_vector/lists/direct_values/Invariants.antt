use Rattle.spv_assignments.specs.assignment_vector.Values.{direct_value, Said, ListedFor}
use Rattle.spv_assignments.proofs.assignment_vector.lists.direct_values.Given as goal

abbrev pub invariant-loop-i : goal.invariant-loop-i
invariant-loop-i l = ListedFor l.terms (Said l.terms l.given) direct_value l.i l.values.items
