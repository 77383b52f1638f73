use Rattle.spv_program.specs.typed.ProgramViews.{routine_of}
use Rattle.spv_conditions.proofs.routines.pairs_at_beginning.Given as goal

abbrev pub ghost-add_beginning : goal.ghost-add_beginning
ghost-add_beginning a = record { program = a.program.now; routine = routine_of a.routine.now }
