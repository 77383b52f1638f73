use Rattle.std.proofs.Common.{take}
use Rattle.spv_rounds.proofs.moving.Besides.{SoFar}
use Rattle.spv_rounds.proofs.moving.Moved.{PairMoves}
use Rattle.spv_rounds.proofs.moving.rounds.moved_table.Given as goal

abbrev pub invariant-loop-pair : goal.invariant-loop-pair
invariant-loop-pair l = SoFar (PairMoves l.places) (take l.pair-index l.table.values) l.values.items
