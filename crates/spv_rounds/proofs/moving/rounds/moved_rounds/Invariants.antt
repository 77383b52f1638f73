use Rattle.std.proofs.Common.{take}
use Rattle.spv_rounds.proofs.moving.Besides.{SoFar}
use Rattle.spv_rounds.proofs.moving.Moved.{RoundMoves}
use Rattle.spv_rounds.proofs.moving.rounds.moved_rounds.Given as goal

abbrev pub invariant-loop-round : goal.invariant-loop-round
invariant-loop-round l = SoFar (RoundMoves l.places) (take l.round-index l.rounds) l.list.items
