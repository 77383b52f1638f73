use Rattle.spv_type_soundness.proofs.faithfulness.Programs.{programs_come, formula_texts_come}
use Rattle.spv_type_soundness.proofs.faithfulness.law_programs.Goals as goal

pub returns-clause-programs : goal.returns-clause-programs
returns-clause-programs c = programs_come

pub returns-clause-formula_texts : goal.returns-clause-formula_texts
returns-clause-formula_texts c = formula_texts_come
