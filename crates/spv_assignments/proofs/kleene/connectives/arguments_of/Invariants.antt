use Rattle.spv_assignments.proofs.kleene.Marking.{ArgumentsTo}
use Rattle.spv_assignments.proofs.kleene.connectives.arguments_of.Given as goal

abbrev pub invariant-loop-t : goal.invariant-loop-t
invariant-loop-t l = ArgumentsTo l.terms l.marks.items l.ids l.t-index
