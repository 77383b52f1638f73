use Rattle.spv_declaration_typing.proofs.pointer_types.Counts.{CountedSoFar}
use Rattle.spv_declaration_typing.proofs.pointer_types.counting.counted.Given as goal

abbrev pub invariant-loop-place : goal.invariant-loop-place
invariant-loop-place l = CountedSoFar l.base l.firsts l.place l.before.items l.count
