use Rattle.std.proofs.Common.{List, subst, arith}
use Rattle.spv_logic.specs.declared.conditions.RoutineId.{RoutineId}
use Rattle.spv_effects.specs.mod_sets.Sets.{Adds}
use Rattle.spv_effects.specs.mod_sets.Changing.{of_callees}
use Rattle.spv_effects.proofs.mod_sets.Events.{begins, goes_on, ends}
use Rattle.spv_effects.proofs.mod_sets.changing.changed_roots.Goals as goal

pub loop-event-init : goal.loop-event-init
loop-event-init c = begins c.args.program.now c.args.events.now _ _ c.new-roots.ensures c.new-callees.ensures

pub loop-event-preserved : goal.loop-event-preserved
loop-event-preserved c =
    goes_on c.args.program.now c.args.events.now c.loop-event.event-index c.event-item.result _ _ _ _ c.loop-event-test.true c.event-item.is c.in_ok-follow.ensures c.loop-event.invariant

pub returns : goal.returns
returns c =
    ends c.args.program.now c.args.events.now c.loop-event.event-index c.loop-event.roots _ c.loop-event.callees (omega (arith, c.loop-event-test.false)) c.loop-event.invariant
    (subst (λ (rs : List RoutineId). Adds c.loop-event.roots c.add_callees.new.roots (of_callees c.args.program.now rs)) c.as_slice.ensures c.in_ok-add_callees.ensures)
