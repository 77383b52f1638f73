use Rattle.spv_verdicts.specs.candidate_models.Trying.{AreTruthful}
use Rattle.spv_verdicts.proofs.candidate_models.agreeing.are_truthful.Given as goal

abbrev pub invariant-loop-place : goal.invariant-loop-place
invariant-loop-place l = AreTruthful l.terms l.pairs l.place
