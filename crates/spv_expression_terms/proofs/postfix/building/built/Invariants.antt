use Rattle.std.proofs.Common.{drop}
use Rattle.spv_expression_terms.proofs.postfix.Turns.{Building}
use Rattle.spv_expression_terms.proofs.postfix.building.built.Given as goal

abbrev pub invariant-loop-piece : goal.invariant-loop-piece
invariant-loop-piece l = Building l.fn.terms l.terms l.pieces l.stack.items (drop l.piece-index l.pieces)
