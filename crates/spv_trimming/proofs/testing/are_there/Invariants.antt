use Rattle.std.proofs.Common.{drop, length}
use Rattle.spv_term.specs.Arena.{AllBelow}
use Rattle.spv_trimming.proofs.testing.are_there.Given as goal

abbrev pub invariant-loop-t : goal.invariant-loop-t
invariant-loop-t l = AllBelow (length l.terms.nodes) (drop l.t-index l.ts) → AllBelow (length l.terms.nodes) l.ts
