use Rattle.spv_program.specs.typed.ProgramViews.{routine_of}
use Rattle.spv_conditions.proofs.Entering.{right_routine}
use Rattle.spv_conditions.proofs.routines.entry_if_there.Goals as goal

pub entry_formula-requires-clause-right : goal.entry_formula-requires-clause-right
entry_formula-requires-clause-right c = right_routine c.args.program.now c.requires.over.typed c.args.number (routine_of c.args.routine.now) c.requires.routine.there
