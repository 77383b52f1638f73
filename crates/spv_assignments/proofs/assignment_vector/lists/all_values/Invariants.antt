use Rattle.spv_assignments.specs.partial_assignment.Values.{value_by}
use Rattle.spv_assignments.specs.assignment_vector.Values.{CoresAre, ListedFor}
use Rattle.spv_assignments.proofs.assignment_vector.lists.all_values.Given as goal

abbrev pub invariant-loop-i : goal.invariant-loop-i
invariant-loop-i l = ListedFor l.terms (CoresAre l.terms l.cores) value_by l.i l.values.items
