use Rattle.std.proofs.Common.{drop}
use Rattle.spv_rules.proofs.making.Turns.{Building}
use Rattle.spv_rules.proofs.making.building.build.Given as goal

abbrev pub invariant-loop-piece : goal.invariant-loop-piece
invariant-loop-piece l = Building l.fn.terms l.pieces l.terms l.stack.items (drop l.piece-index l.pieces)
