use Rattle.spv_tree.specs.syntax.Members.{in_kinds}
use Rattle.spv_tree.specs.syntax.FormulaSpelling.{designator_spelling, formula_spelling}
use Rattle.spv_tree.specs.syntax.StatementSpelling.{block_spelling, statement_spelling}
use Rattle.spv_tree.specs.syntax.TypeSpelling.{type_spelling}
use Rattle.spv_grammar.specs.reading.Depths.{formula_depth, designator_depth, statement_depth, block_depth, type_depth}
use Rattle.spv_grammar.proofs.nesting.FormulaClimbs.{formula_climbs, designator_climbs}
use Rattle.spv_grammar.proofs.nesting.StatementClimbs.{statement_climbs, block_climbs}
use Rattle.spv_grammar.proofs.nesting.TypeClimbs.{type_climbs}
use Rattle.spv_grammar.proofs.nesting.Texts.{goes_up}
use Rattle.spv_grammar.proofs.nesting.laws.law_depth.Goals as goal

pub returns-clause-formulas : goal.returns-clause-formulas
returns-clause-formulas c = goes_up formula_depth (formula_spelling in_kinds) formula_climbs

pub returns-clause-designators : goal.returns-clause-designators
returns-clause-designators c = goes_up designator_depth (designator_spelling in_kinds) designator_climbs

pub returns-clause-statements : goal.returns-clause-statements
returns-clause-statements c = goes_up statement_depth (statement_spelling in_kinds) statement_climbs

pub returns-clause-blocks : goal.returns-clause-blocks
returns-clause-blocks c = goes_up block_depth (block_spelling in_kinds) block_climbs

pub returns-clause-types : goal.returns-clause-types
returns-clause-types c = goes_up type_depth (type_spelling in_kinds) type_climbs
