use Rattle.spv_rechecking.proofs.ConvertLemmas.{AreSteps}
use Rattle.spv_rechecking.proofs.converting.steps_of.Given as goal

abbrev pub invariant-loop-place : goal.invariant-loop-place
invariant-loop-place l = AreSteps l.names l.terms l.images l.steps l.list.items l.place
