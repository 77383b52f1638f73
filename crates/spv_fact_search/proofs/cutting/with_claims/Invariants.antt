use Rattle.spv_term.specs.Arena.{Extends}
use Rattle.spv_fact_search.proofs.cutting.with_claims.Given as goal

abbrev pub invariant-loop-one : goal.invariant-loop-one
invariant-loop-one l = Extends l.initial.terms l.terms
