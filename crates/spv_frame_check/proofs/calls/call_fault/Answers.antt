use Rattle.std.proofs.Common.{◌≡◌, Option, IfOk, map, sym, subst, ◌∙◌}
use Rattle.spv_program.specs.typed.ExpressionViews.{arguments_of}
use Rattle.spv_effects.specs.declared.frame_walk.faults.FrameFault.{FrameFault}
use Rattle.spv_effects.specs.frame_events.Names.{named}
use Rattle.spv_frame_check.specs.Allowed.{allows}
use Rattle.spv_frame_check.proofs.Callee.{call_is}
use Rattle.spv_frame_check.proofs.calls.call_fault.Goals as goal

pub returns-clause-fault : goal.returns-clause-fault
returns-clause-fault c =
    subst (λ (x : Option FrameFault). IfOk c.meeting_fault.result (λ o. o ≡ x))
    (call_is c.args.program.now (map allows c.args.tables.now) (named c.args.own.now) (allows c.args.allowed.now) c.args.call.now
    c.call.inside.routine c.call.inside.line (arguments_of c.call.inside.arguments.items) c.call.view_is c.requires.tables (sym c.in_ok-item.ensures.item ∙ c.in_default.is))
    c.meeting_fault.ensures
