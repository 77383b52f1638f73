-- Rule files and formula texts are read exactly where a tree reads the tokens.
use Rattle.std.proofs.Common.{refl, [], ◌∙◌}
use Rattle.spv_tree.specs.syntax.Members.{in_kinds}
use Rattle.spv_tree.specs.syntax.RuleSpelling.{formula_text_spelling, rule_tree_spelling}
use Rattle.spv_tree.specs.syntax.Reads.{ReadsRules, ReadsFormulaText}
use Rattle.spv_grammar.specs.reading.RuleReaders.{read_rules, read_formula_text}
use Rattle.spv_grammar.specs.reading.Depths.{rule_tree_depth, formula_text_depth}
use Rattle.spv_grammar.specs.reading.Laws.{ReadIsTree, TreeIsRead, EnoughLevelsForTrees, OneTree}
use Rattle.spv_grammar.proofs.reading.Programs.{whole_is, no_steps, whole_answer, enough_by, one_by}
use Rattle.spv_grammar.proofs.reading.RuleSound.{rule_tree_sound}
use Rattle.spv_grammar.proofs.reading.RuleWhole.{rule_tree_answers, rule_tree_length, formula_text_length}
use Rattle.spv_grammar.proofs.reading.FormulaTexts.{formula_text_sound, formula_text_answers}

pub rules_are_tree : ReadIsTree read_rules ReadsRules
rules_are_tree n tokens t e =
    let a = (rule_tree_sound n tokens).at t [] (whole_is _ t e) in
    record { spelled = a.spelled; lined = a.lined [] ∙ no_steps [] }

pub rules_are_read : TreeIsRead read_rules rule_tree_depth ReadsRules
rules_are_read n tokens t d r = whole_answer (rule_tree_answers n t d (record { spelled = r.spelled; lined = r.lined }))

pub rules_enough_levels : EnoughLevelsForTrees read_rules ReadsRules
rules_enough_levels = enough_by read_rules rule_tree_depth (rule_tree_spelling in_kinds) ReadsRules rules_are_read (λ tokens t r. r.spelled) rule_tree_length

pub rules_one_tree : OneTree ReadsRules
rules_one_tree = one_by read_rules rule_tree_depth (rule_tree_spelling in_kinds) ReadsRules rules_are_read (λ tokens t r. r.spelled) rule_tree_length

pub formula_text_is_tree : ReadIsTree read_formula_text ReadsFormulaText
formula_text_is_tree n tokens t e =
    let a = (formula_text_sound n tokens).at t [] (whole_is _ t e) refl in
    record { spelled = a.spelled; lined = a.lined [] ∙ no_steps [] }

pub formula_text_is_read : TreeIsRead read_formula_text formula_text_depth ReadsFormulaText
formula_text_is_read n tokens t d r = whole_answer (formula_text_answers n t d (record { spelled = r.spelled; lined = r.lined }))

pub formula_text_enough_levels : EnoughLevelsForTrees read_formula_text ReadsFormulaText
formula_text_enough_levels = enough_by read_formula_text formula_text_depth (formula_text_spelling in_kinds) ReadsFormulaText formula_text_is_read (λ tokens t r. r.spelled) formula_text_length

pub formula_text_one_tree : OneTree ReadsFormulaText
formula_text_one_tree = one_by read_formula_text formula_text_depth (formula_text_spelling in_kinds) ReadsFormulaText formula_text_is_read (λ tokens t r. r.spelled) formula_text_length
