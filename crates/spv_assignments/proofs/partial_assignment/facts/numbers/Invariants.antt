use Rattle.std.proofs.Common.{◌≡◌, take}
use Rattle.spv_assignments.specs.partial_assignment.Facts.{numbers_of}
use Rattle.spv_assignments.proofs.partial_assignment.facts.numbers.Given as goal

abbrev pub invariant-loop-k : goal.invariant-loop-k
invariant-loop-k l = l.cites.items ≡ numbers_of (take l.k-index l.known)
