use Rattle.std.proofs.Common.{length}
use Rattle.spv_term.specs.Arena.{AllBelow}
use Rattle.spv_decisions.proofs.heuristic.parts.with_marked.Given as goal

abbrev pub invariant-loop-place : goal.invariant-loop-place
invariant-loop-place l = AllBelow (length l.terms.nodes) l.formulas.items
