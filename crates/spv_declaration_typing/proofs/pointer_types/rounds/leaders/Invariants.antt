use Rattle.spv_declaration_typing.proofs.pointer_types.Leading.{LedFrom}
use Rattle.spv_declaration_typing.proofs.pointer_types.rounds.leaders.Given as goal

abbrev pub invariant-loop-place : goal.invariant-loop-place
invariant-loop-place l = LedFrom l.seen l.place l.leaders.items
