use Rattle.spv_dictionary.proofs.Mixed.{SolvedTo}
use Rattle.spv_dictionary.proofs.mixing.solve.Given as goal

abbrev pub invariant-loop-place : goal.invariant-loop-place
invariant-loop-place l = SolvedTo l.row l.into l.slot l.place
