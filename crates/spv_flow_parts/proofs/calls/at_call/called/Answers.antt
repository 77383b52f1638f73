use Rattle.std.proofs.Common.{Ok, refl, sym, ap, subst, ◌∙◌}
use Rattle.spv_logic.specs.declared.conditions.TermId.{TermId}
use Rattle.spv_term.proofs.ArenaLemmas.{Extends-trans}
use Rattle.spv_program.specs.Programs.{Program, Routine}
use Rattle.spv_program.specs.typed.ProgramViews.{routine_of}
use Rattle.std.proofs.Common.{List, ◌∙◌}
use Rattle.spv_flow_parts.specs.calls.Arguments.{ArePresent, MakesCall, called_with}
use Rattle.spv_flow_parts.specs.calls.Events.{at_call_events}
use Rattle.spv_flow_parts.proofs.calls.Called.{arguments_stop, call_made, entry_stops, exit_stops, routine_same, routine_there}
use Rattle.spv_flow_parts.proofs.calls.Passing.{AreAfter-Extends, AreArguments-Extends, ArePresent-Extends}
use Rattle.spv_flow_parts.proofs.calls.Presenting.{have_sorts}
use Rattle.spv_flow_parts.proofs.calls.Zipping.{IsAtCall-Extends, at_as}
use Rattle.spv_flow_parts.proofs.calls.at_call.called.Goals as goal

pub get-routine-requires : goal.get-routine-requires
get-routine-requires g c = routine_there c.behind-program.inside.routines c.args.program.now.routines c.args.number.0 g.at.routine (ap (λ (p : Program). p.routines) (c.behind-program.view_is ∙ c.program.ensures)) c.requires.0.routine

pub present_arguments-requires : goal.present_arguments-requires
present_arguments-requires g c = (have_sorts c.args.program.now c.args.terms.now c.args.number g.at.routine g.at.arguments c.requires.0, c.requires.1.0)

pub needs_of-requires : goal.needs_of-requires
needs_of-requires g c = (
  record {
    number = c.args.number;
    at = IsAtCall-Extends c.args.program.now c.args.terms.now c.args.number (routine_of c.get-routine.result.now) g.at.arguments
        (at_as c.args.program.now c.args.program.now c.args.terms.now c.args.number g.at.routine (routine_of c.get-routine.result.now) g.at.arguments refl (routine_same c.behind-program.inside.routines c.args.program.now.routines c.args.number.0 g.at.routine c.get-routine.result.now (ap (λ (p : Program). p.routines) (c.behind-program.view_is ∙ c.program.ensures)) c.requires.0.routine c.get-routine.ensures) c.requires.0) c.present_arguments.new.terms c.in_ok-args.ensures.grows;
  },
  subst (λ (ts : List TermId). ArePresent c.present_arguments.new.terms ts g.at.arguments) (sym c.as_slice-now.ensures) c.in_ok-args.ensures.present,
)

pub gives_of-requires : goal.gives_of-requires
gives_of-requires g c =
    let more = Extends-trans c.in_ok-args.ensures.grows c.in_ok-needs.ensures.grows in (
      refl,
      (
        IsAtCall-Extends c.args.program.now c.args.terms.now c.args.number (routine_of c.get-routine.result.now) g.at.arguments
            (at_as c.args.program.now c.args.program.now c.args.terms.now c.args.number g.at.routine (routine_of c.get-routine.result.now) g.at.arguments refl (routine_same c.behind-program.inside.routines c.args.program.now.routines c.args.number.0 g.at.routine c.get-routine.result.now (ap (λ (p : Program). p.routines) (c.behind-program.view_is ∙ c.program.ensures)) c.requires.0.routine c.get-routine.ensures) c.requires.0) c.needs_of.new.terms more,
        (
          AreArguments-Extends more c.args.given.now g.at.arguments c.requires.1.0,
          (
            ArePresent-Extends c.in_ok-needs.ensures.grows c.as_slice-now.result.now g.at.arguments
                (subst (λ (ts : List TermId). ArePresent c.present_arguments.new.terms ts g.at.arguments) (sym c.as_slice-now.ensures) c.in_ok-args.ensures.present),
            (AreAfter-Extends more c.args.after.now g.at.after c.requires.1.1.0, c.requires.1.1.1),
          ),
        ),
      ),
    )

pub returns-in_err-args : goal.returns-in_err-args
returns-in_err-args g c =
    arguments_stop c.args.program.now g.at.routine c.args.line g.at.arguments g.at.after c.from_residual.result c.in_err-args.field-0.0 c.args.terms.now c.present_arguments.new.terms c.from_residual.ensures.1 c.in_err-args.ensures.grows
    c.in_err-args.ensures.walk

pub returns-in_err-needs : goal.returns-in_err-needs
returns-in_err-needs g c =
    subst (λ (r : Routine). MakesCall c.from_residual-in_err-needs.result (called_with c.args.program.now r c.args.line g.at.arguments g.at.after) (at_call_events c.args.program.now r g.at.arguments g.at.after) c.args.terms.now c.needs_of.new.terms)
    (routine_same c.behind-program.inside.routines c.args.program.now.routines c.args.number.0 g.at.routine c.get-routine.result.now (ap (λ (p : Program). p.routines) (c.behind-program.view_is ∙ c.program.ensures)) c.requires.0.routine c.get-routine.ensures)
    (entry_stops c.args.program.now (routine_of c.get-routine.result.now) c.args.line g.at.arguments g.at.after c.args.terms.now c.present_arguments.new.terms c.in_ok-args.ensures.walk c.from_residual-in_err-needs.result c.in_err-needs.field-0.0 c.needs_of.new.terms c.from_residual-in_err-needs.ensures.1 c.in_err-needs.ensures.grows c.in_err-needs.ensures.walk)

pub returns-in_err-gives : goal.returns-in_err-gives
returns-in_err-gives g c =
    subst (λ (r : Routine). MakesCall c.from_residual-in_err-gives.result (called_with c.args.program.now r c.args.line g.at.arguments g.at.after) (at_call_events c.args.program.now r g.at.arguments g.at.after) c.args.terms.now c.gives_of.new.terms)
    (routine_same c.behind-program.inside.routines c.args.program.now.routines c.args.number.0 g.at.routine c.get-routine.result.now (ap (λ (p : Program). p.routines) (c.behind-program.view_is ∙ c.program.ensures)) c.requires.0.routine c.get-routine.ensures)
    (exit_stops c.args.program.now (routine_of c.get-routine.result.now) c.args.line g.at.arguments g.at.after c.args.terms.now c.present_arguments.new.terms c.in_ok-args.ensures.walk c.needs_of.new.terms c.in_ok-needs.ensures.walk c.from_residual-in_err-gives.result c.in_err-gives.field-0.0 c.gives_of.new.terms c.from_residual-in_err-gives.ensures.1 c.in_err-gives.ensures.grows c.in_err-gives.ensures.walk)

pub returns : goal.returns
returns g c =
    subst (λ (r : Routine). MakesCall (Ok (record { args = c.in_ok-args.args; needs = c.in_ok-needs.needs; gives = c.in_ok-gives.gives; line = c.args.line })) (called_with c.args.program.now r c.args.line g.at.arguments g.at.after) (at_call_events c.args.program.now r g.at.arguments g.at.after) c.args.terms.now c.gives_of.new.terms)
    (routine_same c.behind-program.inside.routines c.args.program.now.routines c.args.number.0 g.at.routine c.get-routine.result.now (ap (λ (p : Program). p.routines) (c.behind-program.view_is ∙ c.program.ensures)) c.requires.0.routine c.get-routine.ensures)
    (call_made c.args.program.now (routine_of c.get-routine.result.now) c.args.line g.at.arguments g.at.after c.args.terms.now c.present_arguments.new.terms c.in_ok-args.ensures.walk c.needs_of.new.terms c.in_ok-needs.ensures.walk c.gives_of.new.terms c.in_ok-args.args c.in_ok-needs.needs c.in_ok-gives.gives c.in_ok-gives.ensures.walk c.in_ok-args.ensures.present c.in_ok-needs.ensures.term c.in_ok-gives.ensures.term)
