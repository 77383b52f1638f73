use Rattle.spv_table.specs.Kept.{listed_over}
use Rattle.spv_verdicts.proofs.model_check.LoopLemmas.{HoldSoFar}
use Rattle.spv_verdicts.proofs.model_check.evaluating.all_hold.Given as goal

abbrev pub invariant-loop-f : goal.invariant-loop-f
invariant-loop-f l = HoldSoFar l.terms (listed_over l.terms l.table.values) l.fs l.f-index
