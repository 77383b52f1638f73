use Rattle.spv_term.specs.Arena.{Extends}
use Rattle.spv_fact_search.proofs.abstracting.variables_for.Given as goal

abbrev pub invariant-loop-t : goal.invariant-loop-t
invariant-loop-t l = Extends l.initial.terms l.terms
