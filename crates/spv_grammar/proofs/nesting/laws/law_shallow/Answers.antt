use Rattle.spv_tree.specs.syntax.Members.{in_kinds}
use Rattle.spv_tree.specs.syntax.FormulaSpelling.{designator_spelling, formula_spelling}
use Rattle.spv_tree.specs.syntax.ProgramSpelling.{program_spelling}
use Rattle.spv_tree.specs.syntax.RuleSpelling.{formula_text_spelling, rule_tree_spelling}
use Rattle.spv_tree.specs.syntax.StatementSpelling.{block_spelling, statement_spelling}
use Rattle.spv_tree.specs.syntax.TypeSpelling.{type_spelling}
use Rattle.spv_grammar.specs.reading.Depths.{formula_depth, designator_depth, statement_depth, block_depth, type_depth, program_depth, rule_tree_depth, formula_text_depth}
use Rattle.spv_grammar.proofs.nesting.FormulaClimbs.{formula_climbs, designator_climbs}
use Rattle.spv_grammar.proofs.nesting.StatementClimbs.{statement_climbs, block_climbs}
use Rattle.spv_grammar.proofs.nesting.TypeClimbs.{type_climbs}
use Rattle.spv_grammar.proofs.nesting.ProgramOver.{program_over}
use Rattle.spv_grammar.proofs.nesting.RuleOver.{rule_tree_over, formula_text_over}
use Rattle.spv_grammar.proofs.nesting.Texts.{is_shallow, part_is_shallow}
use Rattle.spv_grammar.proofs.nesting.laws.law_shallow.Goals as goal

pub returns-clause-formulas : goal.returns-clause-formulas
returns-clause-formulas c = part_is_shallow formula_depth (formula_spelling in_kinds) formula_climbs

pub returns-clause-designators : goal.returns-clause-designators
returns-clause-designators c = part_is_shallow designator_depth (designator_spelling in_kinds) designator_climbs

pub returns-clause-statements : goal.returns-clause-statements
returns-clause-statements c = part_is_shallow statement_depth (statement_spelling in_kinds) statement_climbs

pub returns-clause-blocks : goal.returns-clause-blocks
returns-clause-blocks c = part_is_shallow block_depth (block_spelling in_kinds) block_climbs

pub returns-clause-types : goal.returns-clause-types
returns-clause-types c = part_is_shallow type_depth (type_spelling in_kinds) type_climbs

pub returns-clause-programs : goal.returns-clause-programs
returns-clause-programs c = is_shallow program_depth (program_spelling in_kinds) program_over

pub returns-clause-rules : goal.returns-clause-rules
returns-clause-rules c = is_shallow rule_tree_depth (rule_tree_spelling in_kinds) rule_tree_over

pub returns-clause-formula_texts : goal.returns-clause-formula_texts
returns-clause-formula_texts c = is_shallow formula_text_depth (formula_text_spelling in_kinds) formula_text_over
