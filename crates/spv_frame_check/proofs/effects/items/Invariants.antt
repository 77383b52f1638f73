use Rattle.std.proofs.Common.{◌≡◌, drop}
use Rattle.spv_effects.specs.frame_events.EventViews.{events_of}
use Rattle.spv_frame_check.specs.Effects.{kept, items_by, with_roots}
use Rattle.spv_frame_check.specs.Sets.{holds, no_items}
use Rattle.spv_frame_check.proofs.effects.items.Given as goal

abbrev pub invariant-loop-event : goal.invariant-loop-event
invariant-loop-event l =
    with_roots l.once (kept l.writes (events_of (drop l.event-index l.events))) ≡ items_by (holds no_items) (kept l.writes (events_of l.events))
