use Rattle.spv_term.specs.Arena.{Extends}
use Rattle.spv_fact_search.proofs.ranging.by_values.Given as goal

abbrev pub invariant-loop-value : goal.invariant-loop-value
invariant-loop-value l = Extends l.initial.terms l.terms
