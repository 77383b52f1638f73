use Rattle.spv_effects.proofs.mod_sets.Events.{SoFar}
use Rattle.spv_effects.proofs.mod_sets.changing.changed_roots.Given as goal

abbrev pub invariant-loop-event : goal.invariant-loop-event
invariant-loop-event l = SoFar l.program l.events l.event-index l.roots l.callees
