use Rattle.std.proofs.Common.{◌≡◌, ◌++◌}
use Rattle.spv_effects.specs.frame_events.EventViews.{events_of}
use Rattle.spv_effects.specs.frame_events.Names.{named}
use Rattle.spv_effects.specs.frame_events.Works.{work_events, stack_events, stack_weight}
use Rattle.spv_effects.proofs.frame_events.gathering.gather.Given as goal

abbrev pub invariant-loop-work : goal.invariant-loop-work
invariant-loop-work l =
    events_of l.out.items ++ stack_events (named l.own) l.works.items ≡ events_of l.initial.out.items ++ work_events (named l.own) l.first

abbrev pub decreases-loop-work : goal.decreases-loop-work
decreases-loop-work l = stack_weight l.works.items
