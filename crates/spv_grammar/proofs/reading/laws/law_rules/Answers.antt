use Rattle.spv_grammar.proofs.reading.Rules.{rules_are_tree, rules_are_read, rules_enough_levels, rules_one_tree}
use Rattle.spv_grammar.proofs.reading.laws.law_rules.Goals as goal

pub returns-clause-read_is_tree : goal.returns-clause-read_is_tree
returns-clause-read_is_tree c = rules_are_tree

pub returns-clause-tree_is_read : goal.returns-clause-tree_is_read
returns-clause-tree_is_read c = rules_are_read

pub returns-clause-enough_levels : goal.returns-clause-enough_levels
returns-clause-enough_levels c = rules_enough_levels

pub returns-clause-one_tree : goal.returns-clause-one_tree
returns-clause-one_tree c = rules_one_tree
