use Rattle.std.proofs.Common.{◌≡◌, map, take}
use Rattle.spv_fact_search.specs.Telling.{schema_step}
use Rattle.spv_fact_search.proofs.telling.steps_of.Given as goal

abbrev pub invariant-loop-instance : goal.invariant-loop-instance
invariant-loop-instance l = l.steps.items ≡ map schema_step (take l.instance-index l.found)
