use Rattle.spv_assignments.proofs.kleene.Marking.{MarkedTo}
use Rattle.spv_assignments.proofs.kleene.connectives.mark_all.Given as goal

abbrev pub invariant-loop-t : goal.invariant-loop-t
invariant-loop-t l = MarkedTo l.fn.marks.items l.marks.items l.ids l.t-index
