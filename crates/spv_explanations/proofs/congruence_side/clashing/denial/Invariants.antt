use Rattle.std.proofs.Common.{◌≡◌, drop}
use Rattle.spv_explanations.specs.congruence_side.Holding.{denial}
use Rattle.spv_explanations.proofs.congruence_side.clashing.denial.Given as goal

abbrev pub invariant-loop-fact : goal.invariant-loop-fact
invariant-loop-fact l = denial (drop l.fact-index l.facts) l.s l.t ≡ denial l.facts l.s l.t
