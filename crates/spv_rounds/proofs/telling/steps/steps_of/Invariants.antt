use Rattle.std.proofs.Common.{◌≡◌, map, take}
use Rattle.spv_rounds.specs.telling.Told.{rule_step, all_members}
use Rattle.spv_rounds.proofs.telling.steps.steps_of.Given as goal

abbrev pub invariant-loop-round : goal.invariant-loop-round
invariant-loop-round l = l.steps.items ≡ map rule_step (all_members (take l.round-index l.rounds))
