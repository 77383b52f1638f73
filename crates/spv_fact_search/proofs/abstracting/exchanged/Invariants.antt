use Rattle.spv_term.specs.Arena.{Extends}
use Rattle.spv_fact_search.proofs.abstracting.exchanged.Given as goal

abbrev pub invariant-loop-number : goal.invariant-loop-number
invariant-loop-number l = Extends l.initial.terms l.terms
