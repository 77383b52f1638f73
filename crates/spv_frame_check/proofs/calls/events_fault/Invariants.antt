use Rattle.std.proofs.Common.{◌≡◌, drop}
use Rattle.spv_effects.specs.frame_walk.FrameWalk.{events_fault}
use Rattle.spv_effects.specs.frame_events.EventViews.{events_of}
use Rattle.spv_effects.specs.frame_events.Names.{named}
use Rattle.spv_frame_check.specs.Allowed.{allows}
use Rattle.spv_frame_check.specs.Tables.{IsCovered}
use Rattle.spv_frame_check.proofs.calls.events_fault.Given as goal

abbrev pub invariant-loop-event : goal.invariant-loop-event
invariant-loop-event l =
    (events_fault l.program (named l.own) (allows l.allowed) (events_of (drop l.event-index l.events)) ≡ events_fault l.program (named l.own) (allows l.allowed) (events_of l.events))
    × IsCovered l.program (allows l.allowed) l.covered
