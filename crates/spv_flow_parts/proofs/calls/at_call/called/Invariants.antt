use Rattle.spv_program.specs.typed.ProgramViews.{routine_of}
use Rattle.spv_flow_parts.proofs.calls.at_call.called.Given as goal

abbrev pub ghost-present_arguments : goal.ghost-present_arguments
ghost-present_arguments g a = g.at

abbrev pub ghost-needs_of : goal.ghost-needs_of
ghost-needs_of g a = g.at

abbrev pub ghost-gives_of : goal.ghost-gives_of
ghost-gives_of g a = record { program = a.program.now; number = a.number; routine = routine_of a.routine.now; arguments = g.at.arguments; given = g.at.given; after = g.at.after }
