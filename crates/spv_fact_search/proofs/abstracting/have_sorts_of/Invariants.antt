use Rattle.std.proofs.Common.{drop}
use Rattle.spv_fact_search.specs.Asking.{HaveSortsOf}
use Rattle.spv_fact_search.proofs.abstracting.have_sorts_of.Given as goal

abbrev pub invariant-loop-place : goal.invariant-loop-place
invariant-loop-place l = HaveSortsOf l.terms (drop l.place l.list) (drop l.place l.own) → HaveSortsOf l.terms l.list l.own
