use Rattle.spv_tree.specs.syntax.Members.{in_kinds}
use Rattle.spv_tree.specs.syntax.RuleSpelling.{formula_text_spelling}
use Rattle.spv_tree.specs.syntax.Reads.{ReadsFormulaText}
use Rattle.spv_grammar.specs.reading.RuleReaders.{read_formula_text}
use Rattle.spv_grammar.specs.reading.Depths.{formula_text_depth}
use Rattle.spv_grammar.proofs.reading.Rules.{formula_text_is_read}
use Rattle.spv_grammar.proofs.nesting.RuleOver.{formula_text_over}
use Rattle.spv_grammar.proofs.nesting.Texts.{is_shallow, low_is_read}
use Rattle.spv_grammar.proofs.nesting.laws.law_enough_formula_text.Goals as goal

pub returns : goal.returns
returns c = record { formula_texts = low_is_read read_formula_text formula_text_depth (formula_text_spelling in_kinds) ReadsFormulaText formula_text_is_read (λ tokens x r. r.spelled) (is_shallow formula_text_depth (formula_text_spelling in_kinds) formula_text_over) }
