use Rattle.std.proofs.Common.{◌≡◌}
use Rattle.spv_proof_steps.proofs.Congruences.{equal_from}
use Rattle.spv_proof_steps.proofs.congruence.all_equal.Given as goal

abbrev pub invariant-loop-i : goal.invariant-loop-i
invariant-loop-i l = equal_from l.terms l.facts l.left l.right l.numbers l.i ≡ equal_from l.terms l.facts l.left l.right l.numbers 0
