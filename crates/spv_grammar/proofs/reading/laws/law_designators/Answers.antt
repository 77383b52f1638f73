use Rattle.std.proofs.Common.{refl, arith}
use Rattle.spv_grammar.specs.reading.FormulaReaders.{read_designator, read_inner}
use Rattle.spv_grammar.specs.reading.Depths.{designator_depth}
use Rattle.spv_grammar.specs.reading.Kinds.{designators}
use Rattle.spv_grammar.proofs.reading.FormulaSound.{designator_sound, inner_sound}
use Rattle.spv_grammar.proofs.reading.StatementWhole.{designator_complete}
use Rattle.spv_grammar.proofs.reading.StatementLengths.{designator_length}
use Rattle.spv_grammar.proofs.reading.Promised.{IsWhole, read_by, enough_by, one_by}
use Rattle.spv_grammar.proofs.reading.laws.law_designators.Goals as goal

whole : IsWhole designators (λ n. read_designator (read_inner n)) designator_depth
whole x n ok d = designator_complete x n d

pub returns-clause-read_is_spelled : goal.returns-clause-read_is_spelled
returns-clause-read_is_spelled c n tokens rest x e = record { here = (designator_sound (read_inner n) (inner_sound n) tokens).at x rest e; formed = refl }

pub returns-clause-spelled_is_read : goal.returns-clause-spelled_is_read
returns-clause-spelled_is_read c = read_by designators (λ n. read_designator (read_inner n)) designator_depth whole

pub returns-clause-enough_levels : goal.returns-clause-enough_levels
returns-clause-enough_levels c = enough_by designators (λ n. read_designator (read_inner n)) designator_depth whole (λ d rest. omega (arith, designator_length d rest))

pub returns-clause-spelled_is_one : goal.returns-clause-spelled_is_one
returns-clause-spelled_is_one c = one_by designators (λ n. read_designator (read_inner n)) designator_depth whole
