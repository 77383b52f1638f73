use Rattle.spv_tree.specs.syntax.Reads.{Reads, ReadsRules, ReadsFormulaText}
use Rattle.spv_grammar.proofs.first_sets.Among.{among}
use Rattle.spv_grammar.proofs.first_sets.laws.law_among.Goals as goal

pub returns-clause-programs : goal.returns-clause-programs
returns-clause-programs c = among Reads

pub returns-clause-rules : goal.returns-clause-rules
returns-clause-rules c = among ReadsRules

pub returns-clause-formula_texts : goal.returns-clause-formula_texts
returns-clause-formula_texts c = among ReadsFormulaText
