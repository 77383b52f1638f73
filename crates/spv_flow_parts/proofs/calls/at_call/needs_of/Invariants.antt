use Rattle.spv_program.specs.typed.ProgramViews.{routine_of}
use Rattle.spv_flow_parts.proofs.calls.at_call.needs_of.Given as goal

abbrev pub ghost-entry_at_call : goal.ghost-entry_at_call
ghost-entry_at_call g a = record { program = a.program.now; number = g.at.number; routine = routine_of a.routine.now; arguments = g.at.arguments; given = g.at.given; after = g.at.after }
