use Rattle.spv_grammar.specs.reading.StatementReaders.{read_block}
use Rattle.spv_grammar.specs.reading.Depths.{block_depth}
use Rattle.spv_grammar.specs.reading.Kinds.{blocks}
use Rattle.spv_grammar.proofs.reading.StatementSound.{block_is_sound}
use Rattle.spv_grammar.proofs.reading.StatementWhole.{block_complete}
use Rattle.spv_grammar.proofs.reading.StatementLengths.{block_length}
use Rattle.spv_grammar.proofs.reading.Promised.{IsWhole, read_by, enough_by, one_by}
use Rattle.spv_grammar.proofs.reading.laws.law_blocks.Goals as goal

whole : IsWhole blocks read_block block_depth
whole x n ok d = block_complete x n ok d

pub returns-clause-read_is_spelled : goal.returns-clause-read_is_spelled
returns-clause-read_is_spelled c n tokens rest x e = let a = (block_is_sound n tokens).at x rest e in record { here = a.here; formed = a.ok }

pub returns-clause-spelled_is_read : goal.returns-clause-spelled_is_read
returns-clause-spelled_is_read c = read_by blocks read_block block_depth whole

pub returns-clause-enough_levels : goal.returns-clause-enough_levels
returns-clause-enough_levels c = enough_by blocks read_block block_depth whole block_length

pub returns-clause-spelled_is_one : goal.returns-clause-spelled_is_one
returns-clause-spelled_is_one c = one_by blocks read_block block_depth whole
