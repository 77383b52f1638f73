use Rattle.spv_type_soundness.proofs.well_typed_programs.Statements.{statements_are_well_typed}
use Rattle.spv_type_soundness.proofs.well_typed_programs.law_statements.Goals as goal

pub returns : goal.returns
returns c = statements_are_well_typed
