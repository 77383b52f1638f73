use Rattle.std.proofs.Common.{◌≡◌, take}
use Rattle.spv_verdicts.specs.translation.Exchanged.{exchanged_steps}
use Rattle.spv_verdicts.proofs.translation.exchanging.exchanged_steps.Given as goal

abbrev pub invariant-loop-step : goal.invariant-loop-step
invariant-loop-step l = l.list ≡ exchanged_steps l.replacements (take l.step-index l.steps)
