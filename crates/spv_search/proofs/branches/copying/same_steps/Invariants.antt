use Rattle.std.proofs.Common.{◌≡◌, take}
use Rattle.spv_search.proofs.branches.copying.same_steps.Given as goal

abbrev pub invariant-loop-step : goal.invariant-loop-step
invariant-loop-step l = l.list ≡ take l.step-index l.steps
