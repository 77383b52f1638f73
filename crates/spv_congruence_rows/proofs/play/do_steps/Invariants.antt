use Rattle.spv_congruence_rows.specs.Plays.{IsReady}
use Rattle.spv_congruence_rows.proofs.play.do_steps.Given as goal

abbrev pub invariant-loop-step : goal.invariant-loop-step
invariant-loop-step l = IsReady l.terms l.play
