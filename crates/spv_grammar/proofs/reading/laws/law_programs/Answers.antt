use Rattle.spv_grammar.proofs.reading.Programs.{reading_is_tree, tree_is_read, enough_levels, one_tree}
use Rattle.spv_grammar.proofs.reading.laws.law_programs.Goals as goal

pub returns-clause-read_is_tree : goal.returns-clause-read_is_tree
returns-clause-read_is_tree c = reading_is_tree

pub returns-clause-tree_is_read : goal.returns-clause-tree_is_read
returns-clause-tree_is_read c = tree_is_read

pub returns-clause-enough_levels : goal.returns-clause-enough_levels
returns-clause-enough_levels c = enough_levels

pub returns-clause-one_tree : goal.returns-clause-one_tree
returns-clause-one_tree c = one_tree
