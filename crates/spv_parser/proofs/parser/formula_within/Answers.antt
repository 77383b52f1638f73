use Rattle.std.proofs.Common.{arith}
use Rattle.spv_tree.specs.syntax.Reads.{ReadsFormulaText}
use Rattle.spv_grammar.specs.reading.Readers.{wrong}
use Rattle.spv_grammar.specs.reading.RuleReaders.{read_formula_text}
use Rattle.spv_grammar.specs.expected_tokens.FormulaTexts.{whole_formula_text}
use Rattle.spv_parser.proofs.Wholes.{whole_tree, none_where_halted, same_tree, same_low, refused_by}
use Rattle.spv_parser.proofs.parser.formula_within.Goals as goal

pub returns-in-Ok-clause-tree : goal.returns-in-Ok-clause-tree
returns-in-Ok-clause-tree c = whole_tree whole_formula_text ReadsFormulaText c.args.levels (same_tree whole_formula_text read_formula_text ReadsFormulaText c.law_formula_text_stops.ensures.same c.law_formula_texts.ensures.read_is_tree) c.in-Ok.ensures.read (omega arith)

pub returns-in-Err-clause-cause : goal.returns-in-Err-clause-cause
returns-in-Err-clause-cause c =
    refused_by ReadsFormulaText c.in-Err.fault c.refusal.result c.in_ok-allowed.ensures.allowed
    (λ left is.
    let e = c.in-Err.ensures.absent (wrong left) is in
    (none_where_halted whole_formula_text ReadsFormulaText c.args.levels c.requires.enough (same_low whole_formula_text read_formula_text ReadsFormulaText c.law_formula_text_stops.ensures.same c.law_enough_formula_text.ensures.formula_texts) c.in_ok-allowed.ensures.allowed e, c.law_formula_text_stops.ensures.stops c.args.levels c.args.tokens.now left e)) c.refusal.ensures
