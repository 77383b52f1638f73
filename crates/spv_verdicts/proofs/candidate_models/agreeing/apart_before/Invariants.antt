use Rattle.spv_verdicts.specs.candidate_models.Trying.{IsApartFromNone}
use Rattle.spv_verdicts.proofs.candidate_models.agreeing.apart_before.Given as goal

abbrev pub invariant-loop-j : goal.invariant-loop-j
invariant-loop-j l = IsApartFromNone l.terms l.pairs l.keys l.place l.j
