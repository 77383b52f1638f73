use Rattle.spv_table.specs.Kept.{listed_over}
use Rattle.spv_verdicts.proofs.model_check.LoopLemmas.{TruthsSoFar}
use Rattle.spv_verdicts.proofs.model_check.evaluating.truths.Given as goal

abbrev pub invariant-loop-f : goal.invariant-loop-f
invariant-loop-f l = TruthsSoFar l.terms (listed_over l.terms l.table.values) l.fs l.f-index l.branch.items
