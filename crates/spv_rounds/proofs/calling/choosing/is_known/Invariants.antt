use Rattle.std.proofs.Common.{◌≡◌, drop}
use Rattle.std.specs.List.{list_any}
use Rattle.spv_rounds.specs.telling.Told.{all_members}
use Rattle.spv_rounds.specs.calling.Calling.{is_same}
use Rattle.spv_rounds.proofs.calling.choosing.is_known.Given as goal

abbrev pub invariant-loop-round : goal.invariant-loop-round
invariant-loop-round l = list_any (is_same l.found) (all_members (drop l.round-index l.rounds)) ≡ list_any (is_same l.found) (all_members l.rounds)
