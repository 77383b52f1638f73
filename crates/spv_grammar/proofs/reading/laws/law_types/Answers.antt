use Rattle.std.proofs.Common.{refl, arith}
use Rattle.spv_grammar.specs.reading.TypeReaders.{read_type}
use Rattle.spv_grammar.specs.reading.Depths.{type_depth}
use Rattle.spv_grammar.specs.reading.Kinds.{types}
use Rattle.spv_grammar.proofs.reading.TypeSound.{type_sound}
use Rattle.spv_grammar.proofs.reading.TypeWhole.{type_complete, type_length}
use Rattle.spv_grammar.proofs.reading.Promised.{IsWhole, read_by, enough_by, one_by}
use Rattle.spv_grammar.proofs.reading.laws.law_types.Goals as goal

whole : IsWhole types read_type type_depth
whole x n ok d = type_complete x n d

pub returns-clause-read_is_spelled : goal.returns-clause-read_is_spelled
returns-clause-read_is_spelled c n tokens rest x e = record { here = (type_sound n tokens).at x rest e; formed = refl }

pub returns-clause-spelled_is_read : goal.returns-clause-spelled_is_read
returns-clause-spelled_is_read c = read_by types read_type type_depth whole

pub returns-clause-enough_levels : goal.returns-clause-enough_levels
returns-clause-enough_levels c = enough_by types read_type type_depth whole (λ d rest. omega (arith, type_length d rest))

pub returns-clause-spelled_is_one : goal.returns-clause-spelled_is_one
returns-clause-spelled_is_one c = one_by types read_type type_depth whole
