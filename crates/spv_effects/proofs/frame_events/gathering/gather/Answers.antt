use Rattle.std.proofs.Common.{◌∙◌}
use Rattle.spv_effects.specs.frame_events.Names.{named}
use Rattle.spv_effects.proofs.frame_events.Stacks.{turn_falls, turn_same}
use Rattle.spv_effects.proofs.frame_events.gathering.gather.Goals as goal

pub loop-work-smaller : goal.loop-work-smaller
loop-work-smaller c =
    turn_falls (named c.args.own.now) c.in-Some.work _ _ _ _ _ c.in-Some.ensures.items c.in_ok-step.ensures

pub loop-work-preserved : goal.loop-work-preserved
loop-work-preserved c =
    turn_same (named c.args.own.now) c.in-Some.work _ _ _ _ _ c.in-Some.ensures.items c.in_ok-step.ensures ∙ c.loop-work.invariant
