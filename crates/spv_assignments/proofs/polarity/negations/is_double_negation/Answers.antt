use Rattle.std.proofs.Common.{ap, ◌∙◌}
use Rattle.spv_assignments.specs.polarity.Standings.{are_negations}
use Rattle.spv_assignments.proofs.polarity.negations.is_double_negation.Goals as goal

pub returns-in-Some : goal.returns-in-Some
returns-in-Some c = c.is_negation.ensures ∙ ap are_negations c.in-Some.ensures.value

pub returns-in-None : goal.returns-in-None
returns-in-None c = ap are_negations c.in-None.ensures.value
