use Rattle.std.proofs.Common.{List, ◌++◌, ap, ◌∙◌}
use Rattle.spv_program.specs.typed.ProgramViews.{routine_of}
use Rattle.spv_effects.specs.frame_walk.Events as plain
use Rattle.spv_effects.specs.frame_walk.Events.{body_events}
use Rattle.spv_effects.specs.frame_events.EventViews.{events_of}
use Rattle.spv_frame_check.proofs.Effecting.{made_are}
use Rattle.spv_frame_check.proofs.routines.routine_effects.Goals as goal

pub returns : goal.returns
returns c =
    made_are (routine_of c.args.routine.now) (events_of c.as_slice.result.now) c.effects_in.result
    (ap events_of c.as_slice.ensures.value ∙ c.in_ok-gather_body.ensures
    ∙ ap (λ (es : List plain.Event). es ++ body_events (routine_of c.args.routine.now)) c.in_ok-events.ensures)
    c.effects_in.ensures.reads c.effects_in.ensures.writes
