use Rattle.spv_trail.specs.backtracking.Beginning.{KnowsFirst}
use Rattle.spv_trail.proofs.backtracking.beginning.give_hypotheses.Given as goal

abbrev pub invariant-loop-place : goal.invariant-loop-place
invariant-loop-place l = KnowsFirst l.terms l.condition l.derivation l.known.items l.place
