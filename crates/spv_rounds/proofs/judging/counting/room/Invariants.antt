use Rattle.std.proofs.Common.{◌≡◌, ◌+◌, length, take}
use Rattle.spv_rounds.specs.telling.Told.{all_members}
use Rattle.spv_rounds.proofs.judging.counting.room.Given as goal

abbrev pub invariant-loop-round : goal.invariant-loop-round
invariant-loop-round l = l.left + length (all_members (take l.round-index l.rounds)) ≡ l.most
