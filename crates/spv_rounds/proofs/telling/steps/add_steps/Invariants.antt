use Rattle.std.proofs.Common.{◌≡◌, ◌++◌, map, take}
use Rattle.spv_rounds.specs.telling.Told.{rule_step}
use Rattle.spv_rounds.proofs.telling.steps.add_steps.Given as goal

abbrev pub invariant-loop-instance : goal.invariant-loop-instance
invariant-loop-instance l = l.steps.items ≡ l.fn.steps.items ++ map rule_step (take l.instance-index l.instances)
