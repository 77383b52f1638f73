use Rattle.spv_environments.proofs.NotedParameters.{NotedSoFar}
use Rattle.spv_environments.proofs.formals.places_of.Given as goal

abbrev pub invariant-loop-formal : goal.invariant-loop-formal
invariant-loop-formal l = NotedSoFar l.formals l.formal-index l.places
