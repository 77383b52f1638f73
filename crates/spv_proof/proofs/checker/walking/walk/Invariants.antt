use Rattle.std.proofs.Common.{drop}
use Rattle.spv_proof.proofs.checker.Goings.{Going}
use Rattle.spv_proof.proofs.checker.walking.walk.Given as goal

abbrev pub invariant-loop-place : goal.invariant-loop-place
invariant-loop-place l = Going l.fn.terms l.task l.fn.facts.items l.steps l.terms l.facts.items (drop l.place l.steps)
