use Rattle.std.proofs.Common.{drop}
use Rattle.spv_assignments.specs.partial_assignment.Facts.{facts_of}
use Rattle.spv_assignments.proofs.assignment_vector.AllFacts.{SaidOf}
use Rattle.spv_assignments.proofs.assignment_vector.reading.sayings_of.Given as goal

abbrev pub invariant-loop-k : goal.invariant-loop-k
invariant-loop-k l = SaidOf l.terms (facts_of l.terms l.known) (facts_of l.terms (drop l.k-index l.known)) l.sayings
