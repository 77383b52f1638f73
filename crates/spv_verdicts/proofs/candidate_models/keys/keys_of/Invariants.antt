use Rattle.spv_table.specs.Kept.{listed_over}
use Rattle.spv_verdicts.proofs.candidate_models.Worths.{KeysSoFar}
use Rattle.spv_verdicts.proofs.candidate_models.keys.keys_of.Given as goal

abbrev pub invariant-loop-place : goal.invariant-loop-place
invariant-loop-place l = KeysSoFar l.terms (listed_over l.terms l.table.values) l.pairs l.place l.keys.items
