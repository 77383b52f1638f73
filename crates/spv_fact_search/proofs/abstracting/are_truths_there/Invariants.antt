use Rattle.std.proofs.Common.{drop}
use Rattle.spv_fact_search.specs.Asking.{AreTruthsThere}
use Rattle.spv_fact_search.proofs.abstracting.are_truths_there.Given as goal

abbrev pub invariant-loop-t : goal.invariant-loop-t
invariant-loop-t l = AreTruthsThere l.terms (drop l.t-index l.ts) → AreTruthsThere l.terms l.ts
