use Rattle.spv_tree.specs.syntax.Reads.{Reads, ReadsRules, ReadsFormulaText}
use Rattle.spv_grammar.proofs.first_sets.Wrong.{prefixes_begin}
use Rattle.spv_grammar.proofs.first_sets.laws.law_prefixes.Goals as goal

pub returns-clause-programs : goal.returns-clause-programs
returns-clause-programs c = prefixes_begin Reads

pub returns-clause-rules : goal.returns-clause-rules
returns-clause-rules c = prefixes_begin ReadsRules

pub returns-clause-formula_texts : goal.returns-clause-formula_texts
returns-clause-formula_texts c = prefixes_begin ReadsFormulaText
