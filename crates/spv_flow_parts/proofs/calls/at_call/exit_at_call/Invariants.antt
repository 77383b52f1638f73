use Rattle.spv_program.specs.typed.ProgramViews.{routine_of}
use Rattle.spv_flow_parts.proofs.calls.at_call.exit_at_call.Given as goal

abbrev pub ghost-exit_pairs : goal.ghost-exit_pairs
ghost-exit_pairs g a = record { program = a.program.now; number = g.at.number; routine = routine_of a.routine.now; arguments = g.at.arguments; given = g.at.given; after = g.at.after }
