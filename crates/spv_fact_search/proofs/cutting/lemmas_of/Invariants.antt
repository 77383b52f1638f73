use Rattle.spv_term.specs.Arena.{Extends}
use Rattle.spv_fact_search.proofs.cutting.lemmas_of.Given as goal

abbrev pub invariant-loop-cut : goal.invariant-loop-cut
invariant-loop-cut l = Extends l.initial.terms l.terms
