use Rattle.std.proofs.Common.{drop}
use Rattle.spv_fact_search.proofs.Making.{Making}
use Rattle.spv_fact_search.proofs.enlarging.facts_of.Given as goal

abbrev pub invariant-loop-instance : goal.invariant-loop-instance
invariant-loop-instance l = Making l.fn.terms l.terms l.found l.made.items (drop l.instance-index l.found)
