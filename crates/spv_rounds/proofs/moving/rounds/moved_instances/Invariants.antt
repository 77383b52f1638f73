use Rattle.std.proofs.Common.{take}
use Rattle.spv_rounds.proofs.moving.Besides.{SoFar}
use Rattle.spv_rounds.proofs.moving.Moved.{InstanceMoves}
use Rattle.spv_rounds.proofs.moving.rounds.moved_instances.Given as goal

abbrev pub invariant-loop-i : goal.invariant-loop-i
invariant-loop-i l = SoFar (InstanceMoves l.places) (take l.i-index l.instances) l.list.items
