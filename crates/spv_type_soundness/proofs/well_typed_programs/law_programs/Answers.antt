use Rattle.spv_type_soundness.proofs.well_typed_programs.Whole.{programs_are_well_typed, formula_texts_are_well_typed}
use Rattle.spv_type_soundness.proofs.well_typed_programs.law_programs.Goals as goal

pub returns-clause-programs : goal.returns-clause-programs
returns-clause-programs c = programs_are_well_typed

pub returns-clause-formula_texts : goal.returns-clause-formula_texts
returns-clause-formula_texts c = formula_texts_are_well_typed
