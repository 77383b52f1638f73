use Rattle.std.proofs.Common.{take}
use Rattle.spv_rounds.proofs.moving.Besides.{SoFar}
use Rattle.spv_rounds.proofs.moving.Moved.{IdMoves}
use Rattle.spv_rounds.proofs.moving.terms.moved_all.Given as goal

abbrev pub invariant-loop-t : goal.invariant-loop-t
invariant-loop-t l = SoFar (IdMoves l.places) (take l.t-index l.ts) l.us.items
