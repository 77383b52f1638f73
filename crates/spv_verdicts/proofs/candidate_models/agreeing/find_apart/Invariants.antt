use Rattle.spv_verdicts.specs.candidate_models.Trying.{AreNotApart}
use Rattle.spv_verdicts.proofs.candidate_models.agreeing.find_apart.Given as goal

abbrev pub invariant-loop-place : goal.invariant-loop-place
invariant-loop-place l = AreNotApart l.terms l.pairs l.keys l.place
