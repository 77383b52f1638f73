use Rattle.std.proofs.Common.{◌≡◌, List, ◌++◌, Option, IfOk, ap, subst, ◌∙◌}
use Rattle.spv_program.specs.Programs.{Program}
use Rattle.spv_effects.specs.declared.frame_walk.faults.FrameFault.{FrameFault}
use Rattle.spv_effects.specs.frame_walk.Events.{statement_events}
use Rattle.spv_effects.specs.declared.frame_events.events.Event.{Event}
use Rattle.spv_effects.specs.frame_events.EventViews.{events_of}
use Rattle.spv_effects.specs.frame_events.Names.{named}
use Rattle.spv_frame_check.proofs.Callee.{main_is}
use Rattle.spv_frame_check.proofs.programs.main_fault.Goals as goal

pub returns : goal.returns
returns c =
    subst (λ (x : Option FrameFault). IfOk c.events_fault.result (λ o. o ≡ x))
    (main_is c.args.program.now c.new-own.result c.program.inside.main.body (events_of c.as_slice.result.now) c.new-own.ensures
    (ap (λ (p : Program). p.main.body) c.program.view_is)
    (ap events_of c.as_slice.ensures.value ∙ c.in_ok-gather_statement.ensures
    ∙ ap (λ (es : List Event). events_of es ++ statement_events (named c.new-own.result) c.program.inside.main.body) c.new-events.ensures.items))
    c.events_fault.ensures
