use Rattle.spv_type_soundness.proofs.faithfulness.RoutineExamples.{counters_are_kept, calls_are_kept, parameters_are_kept, routines_are_kept, ranges_are_kept, notes_are_kept, implications_are_kept, functions_are_kept}
use Rattle.spv_type_soundness.proofs.faithfulness.law_small_routines.Goals as goal

pub returns-clause-counters : goal.returns-clause-counters
returns-clause-counters c = counters_are_kept

pub returns-clause-calls : goal.returns-clause-calls
returns-clause-calls c = calls_are_kept

pub returns-clause-parameters : goal.returns-clause-parameters
returns-clause-parameters c = parameters_are_kept

pub returns-clause-routines : goal.returns-clause-routines
returns-clause-routines c = routines_are_kept

pub returns-clause-ranges : goal.returns-clause-ranges
returns-clause-ranges c = ranges_are_kept

pub returns-clause-notes : goal.returns-clause-notes
returns-clause-notes c = notes_are_kept

pub returns-clause-implications : goal.returns-clause-implications
returns-clause-implications c = implications_are_kept

pub returns-clause-functions : goal.returns-clause-functions
returns-clause-functions c = functions_are_kept
