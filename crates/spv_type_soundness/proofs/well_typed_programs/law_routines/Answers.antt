use Rattle.spv_type_soundness.proofs.well_typed_programs.Whole.{routines_are_well_typed}
use Rattle.spv_type_soundness.proofs.well_typed_programs.law_routines.Goals as goal

pub returns : goal.returns
returns c = routines_are_well_typed
