use Rattle.spv_grammar.specs.reading.StatementReaders.{read_statement}
use Rattle.spv_grammar.specs.reading.Depths.{statement_depth}
use Rattle.spv_grammar.specs.reading.Kinds.{statements}
use Rattle.spv_grammar.proofs.reading.StatementSound.{statement_sound}
use Rattle.spv_grammar.proofs.reading.StatementWhole.{statement_complete}
use Rattle.spv_grammar.proofs.reading.StatementLengths.{statement_length}
use Rattle.spv_grammar.proofs.reading.Promised.{IsWhole, read_by, enough_by, one_by}
use Rattle.spv_grammar.proofs.reading.laws.law_statements.Goals as goal

whole : IsWhole statements read_statement statement_depth
whole x n ok d = statement_complete x n ok d

pub returns-clause-read_is_spelled : goal.returns-clause-read_is_spelled
returns-clause-read_is_spelled c n tokens rest x e = let a = (statement_sound n tokens).at x rest e in record { here = a.here; formed = a.ok }

pub returns-clause-spelled_is_read : goal.returns-clause-spelled_is_read
returns-clause-spelled_is_read c = read_by statements read_statement statement_depth whole

pub returns-clause-enough_levels : goal.returns-clause-enough_levels
returns-clause-enough_levels c = enough_by statements read_statement statement_depth whole statement_length

pub returns-clause-spelled_is_one : goal.returns-clause-spelled_is_one
returns-clause-spelled_is_one c = one_by statements read_statement statement_depth whole
