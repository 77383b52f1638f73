use Rattle.std.proofs.Common.{refl, arith}
use Rattle.spv_grammar.specs.reading.FormulaReaders.{read_formula}
use Rattle.spv_grammar.specs.reading.Depths.{formula_depth}
use Rattle.spv_grammar.specs.reading.Kinds.{formulas}
use Rattle.spv_grammar.proofs.reading.FormulaSound.{formula_sound}
use Rattle.spv_grammar.proofs.reading.FormulaWhole.{formula_complete}
use Rattle.spv_grammar.proofs.reading.Lengths.{formula_length}
use Rattle.spv_grammar.proofs.reading.Promised.{IsWhole, read_by, enough_by, one_by}
use Rattle.spv_grammar.proofs.reading.laws.law_formulas.Goals as goal

whole : IsWhole formulas read_formula formula_depth
whole f n ok d = formula_complete f n d

pub returns-clause-read_is_spelled : goal.returns-clause-read_is_spelled
returns-clause-read_is_spelled c n tokens rest f e = record { here = (formula_sound n tokens).at f rest e; formed = refl }

pub returns-clause-spelled_is_read : goal.returns-clause-spelled_is_read
returns-clause-spelled_is_read c = read_by formulas read_formula formula_depth whole

pub returns-clause-enough_levels : goal.returns-clause-enough_levels
returns-clause-enough_levels c = enough_by formulas read_formula formula_depth whole (λ f rest. omega (arith, formula_length f rest))

pub returns-clause-spelled_is_one : goal.returns-clause-spelled_is_one
returns-clause-spelled_is_one c = one_by formulas read_formula formula_depth whole
