-- The parts of which reading is promised.
use Rattle.std.specs.Prelude.{true, false}
use Rattle.spv_tree.specs.syntax.Formulas.{Formula, Designator}
use Rattle.spv_tree.specs.syntax.Types.{TypeDenoter}
use Rattle.spv_tree.specs.syntax.Statements.{Statement, Block}
use Rattle.spv_tree.specs.syntax.Reads.{statement_ok, block_ok}
use Rattle.spv_grammar.specs.reading.Continuing.{continues_selectors, continues_formula, continues_statement, continues_type}
use Rattle.spv_grammar.specs.reading.Parts.{formula_part, designator_part, statement_part, block_part, type_part}
use Rattle.spv_grammar.specs.reading.Laws.{Kind}

abbrev pub formulas : Kind Formula
formulas = record { part = formula_part; formed = λ f. true; continues = λ f. continues_formula }

abbrev pub designators : Kind Designator
designators = record { part = designator_part; formed = λ d. true; continues = λ d. continues_selectors }

abbrev pub statements : Kind Statement
statements = record { part = statement_part; formed = statement_ok; continues = continues_statement }

-- nothing goes on with a block
abbrev pub blocks : Kind Block
blocks = record { part = block_part; formed = block_ok; continues = λ b o. false }

abbrev pub types : Kind TypeDenoter
types = record { part = type_part; formed = λ t. true; continues = λ t. continues_type }
