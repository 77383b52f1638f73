use Rattle.spv_assignments.specs.partial_assignment.Values.{core_value}
use Rattle.spv_assignments.specs.assignment_vector.Values.{Said, ListedFor}
use Rattle.spv_assignments.proofs.assignment_vector.lists.core_values.Given as goal

abbrev pub invariant-loop-i : goal.invariant-loop-i
invariant-loop-i l = ListedFor l.terms (Said l.terms l.given) core_value l.i l.values.items
