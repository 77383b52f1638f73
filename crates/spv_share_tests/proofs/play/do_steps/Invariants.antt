use Rattle.spv_share_tests.specs.Plays.{IsReady}
use Rattle.spv_share_tests.proofs.play.do_steps.Given as goal

abbrev pub invariant-loop-step : goal.invariant-loop-step
invariant-loop-step l = IsReady l.terms l.play l.atoms
