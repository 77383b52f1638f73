use Rattle.spv_grammar.proofs.reading.Rules.{formula_text_is_tree, formula_text_is_read, formula_text_enough_levels, formula_text_one_tree}
use Rattle.spv_grammar.proofs.reading.laws.law_formula_texts.Goals as goal

pub returns-clause-read_is_tree : goal.returns-clause-read_is_tree
returns-clause-read_is_tree c = formula_text_is_tree

pub returns-clause-tree_is_read : goal.returns-clause-tree_is_read
returns-clause-tree_is_read c = formula_text_is_read

pub returns-clause-enough_levels : goal.returns-clause-enough_levels
returns-clause-enough_levels c = formula_text_enough_levels

pub returns-clause-one_tree : goal.returns-clause-one_tree
returns-clause-one_tree c = formula_text_one_tree
