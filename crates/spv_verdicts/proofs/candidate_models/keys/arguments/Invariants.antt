use Rattle.std.proofs.Common.{length}
use Rattle.spv_term.specs.Arena.{AllBelow}
use Rattle.spv_verdicts.proofs.candidate_models.keys.arguments.Given as goal

abbrev pub invariant-loop-place : goal.invariant-loop-place
invariant-loop-place l = AllBelow (length l.terms.nodes) l.ids.items
