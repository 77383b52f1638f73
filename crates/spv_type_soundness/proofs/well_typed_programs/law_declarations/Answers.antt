use Rattle.spv_type_soundness.proofs.well_typed_programs.Declared.{declarations_are_right}
use Rattle.spv_type_soundness.proofs.well_typed_programs.law_declarations.Goals as goal

pub returns : goal.returns
returns c = declarations_are_right
