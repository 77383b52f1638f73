use Rattle.spv_tree.specs.syntax.Members.{in_kinds}
use Rattle.spv_tree.specs.syntax.RuleSpelling.{rule_tree_spelling}
use Rattle.spv_tree.specs.syntax.Reads.{ReadsRules}
use Rattle.spv_grammar.specs.reading.RuleReaders.{read_rules}
use Rattle.spv_grammar.specs.reading.Depths.{rule_tree_depth}
use Rattle.spv_grammar.proofs.reading.Rules.{rules_are_read}
use Rattle.spv_grammar.proofs.nesting.RuleOver.{rule_tree_over}
use Rattle.spv_grammar.proofs.nesting.Texts.{is_shallow, low_is_read}
use Rattle.spv_grammar.proofs.nesting.laws.law_enough_rules.Goals as goal

pub returns : goal.returns
returns c = record { rules = low_is_read read_rules rule_tree_depth (rule_tree_spelling in_kinds) ReadsRules rules_are_read (λ tokens x r. r.spelled) (is_shallow rule_tree_depth (rule_tree_spelling in_kinds) rule_tree_over) }
