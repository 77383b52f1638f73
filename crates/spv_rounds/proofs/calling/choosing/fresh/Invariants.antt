use Rattle.std.proofs.Common.{◌≡◌, take}
use Rattle.spv_rounds.specs.calling.Calling.{fresh}
use Rattle.spv_rounds.proofs.calling.choosing.fresh.Given as goal

abbrev pub invariant-loop-one : goal.invariant-loop-one
invariant-loop-one l = l.list.items ≡ fresh l.rounds (take l.one-index l.found)
