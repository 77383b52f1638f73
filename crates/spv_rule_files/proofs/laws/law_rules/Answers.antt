use Rattle.spv_type_soundness.proofs.well_typed_programs.Whole.{programs_are_well_typed, formula_texts_are_well_typed}
use Rattle.spv_rule_files.proofs.Programs.{right_program, right_formula_program, symbols_declared}
use Rattle.spv_rule_files.proofs.Soundness.{file_right}
use Rattle.spv_rule_files.proofs.laws.law_rules.Goals as goal

pub returns-clause-programs : goal.returns-clause-programs
returns-clause-programs c = λ first start text p t rules ok read e.
    file_right p (right_program first text p ok read) (symbols_declared p (programs_are_well_typed first text p ok read)) start t rules e

pub returns-clause-formula_texts : goal.returns-clause-formula_texts
returns-clause-formula_texts c = λ first start text p t rules read e.
    file_right p (right_formula_program first text p read) (symbols_declared p (formula_texts_are_well_typed first text p read)) start t rules e
