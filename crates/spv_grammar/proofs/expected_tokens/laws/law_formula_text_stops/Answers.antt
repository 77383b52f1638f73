use Rattle.spv_grammar.proofs.expected_tokens.FormulaTexts.{formula_texts_stop, formula_texts_same, formula_texts_take}
use Rattle.spv_grammar.proofs.expected_tokens.laws.law_formula_text_stops.Goals as goal

pub returns : goal.returns
returns c = record { stops = formula_texts_stop; same = formula_texts_same; levels = formula_texts_take }
