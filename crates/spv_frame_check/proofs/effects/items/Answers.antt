use Rattle.std.proofs.Common.{◌∙◌, arith}
use Rattle.spv_effects.specs.frame_events.EventViews.{events_of}
use Rattle.spv_frame_check.specs.Effects.{kept}
use Rattle.spv_frame_check.proofs.Collected.{from_none, turn, end}
use Rattle.spv_frame_check.proofs.effects.items.Goals as goal

pub loop-event-preserved : goal.loop-event-preserved
loop-event-preserved c =
    turn c.args.writes c.args.events.now c.loop-event.event-index _ c.event-item.result c.loop-event.once c.follow.new.once c.loop-event-test.true c.event-item.is c.in_ok-follow.ensures
    c.loop-event.invariant

pub returns : goal.returns
returns c =
    end c.args.writes c.args.events.now c.loop-event.event-index _ c.loop-event.once (omega (arith, c.loop-event-test.false)) c.loop-event.invariant
    ∙ from_none (kept c.args.writes (events_of c.args.events.now))
