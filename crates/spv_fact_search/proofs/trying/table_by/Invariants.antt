use Rattle.spv_fact_search.proofs.Guessed.{HasEntries}
use Rattle.spv_fact_search.proofs.trying.table_by.Given as goal

abbrev pub invariant-loop-place : goal.invariant-loop-place
invariant-loop-place l = HasEntries l.terms l.ids l.place l.values.items
