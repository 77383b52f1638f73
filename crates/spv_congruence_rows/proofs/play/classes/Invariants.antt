use Rattle.spv_congruence_rows.specs.Plays.{Continues}
use Rattle.spv_congruence_rows.proofs.play.classes.Given as goal

abbrev pub invariant-loop-t : goal.invariant-loop-t
invariant-loop-t l = Continues l.terms l.fn.graph l.graph
