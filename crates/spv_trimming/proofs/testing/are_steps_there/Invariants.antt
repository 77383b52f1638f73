use Rattle.std.proofs.Common.{drop}
use Rattle.spv_proof_rules.specs.Stand.{StepsIn}
use Rattle.spv_trimming.proofs.testing.are_steps_there.Given as goal

abbrev pub invariant-loop-step : goal.invariant-loop-step
invariant-loop-step l = StepsIn l.terms (drop l.step-index l.steps) → StepsIn l.terms l.steps
