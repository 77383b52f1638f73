use Rattle.std.proofs.Common.{◌≡◌, take}
use Rattle.spv_rounds.specs.telling.Told.{all_members}
use Rattle.spv_rounds.proofs.judging.counting.members.Given as goal

abbrev pub invariant-loop-round : goal.invariant-loop-round
invariant-loop-round l = l.list.items ≡ all_members (take l.round-index l.rounds)
