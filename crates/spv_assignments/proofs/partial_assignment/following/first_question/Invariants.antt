use Rattle.spv_assignments.proofs.partial_assignment.Turns.{AreEither}
use Rattle.spv_assignments.proofs.partial_assignment.following.first_question.Given as goal

abbrev pub invariant-loop-t : goal.invariant-loop-t
invariant-loop-t l = AreEither l.terms l.lists.direct.items l.lists.cores.items l.lists.all.items l.questions l.t-index
