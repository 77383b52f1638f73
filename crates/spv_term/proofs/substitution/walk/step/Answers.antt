use Rattle.std.proofs.Common.{refl}
use Rattle.spv_term.specs.substitution.Walk.{visited, finished}
use Rattle.spv_term.proofs.substitution.Exits.{on_ok}
use Rattle.spv_term.proofs.substitution.walk.step.Goals as goal

pub returns-in_ok-visit-in-Visit-clause-step : goal.returns-in_ok-visit-in-Visit-clause-step
returns-in_ok-visit-in-Visit-clause-step c = visited c.in-Visit.t c.in-Visit.is c.in_ok-visit-in-Visit.ensures refl refl

pub returns-in-Finish-clause-step : goal.returns-in-Finish-clause-step
returns-in-Finish-clause-step c = on_ok c.finish.result _ _ c.finish.ensures.made (λ f. finished c.in-Finish.t c.in-Finish.is f refl)
