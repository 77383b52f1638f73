use Rattle.spv_tree.specs.syntax.Reads.{Reads, ReadsRules, ReadsFormulaText}
use Rattle.spv_grammar.proofs.first_sets.Wrong.{one_line}
use Rattle.spv_grammar.proofs.first_sets.laws.law_one_line.Goals as goal

pub returns-clause-programs : goal.returns-clause-programs
returns-clause-programs c = one_line Reads

pub returns-clause-rules : goal.returns-clause-rules
returns-clause-rules c = one_line ReadsRules

pub returns-clause-formula_texts : goal.returns-clause-formula_texts
returns-clause-formula_texts c = one_line ReadsFormulaText
