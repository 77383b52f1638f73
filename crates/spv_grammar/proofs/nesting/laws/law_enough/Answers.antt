use Rattle.spv_tree.specs.syntax.Members.{in_kinds}
use Rattle.spv_tree.specs.syntax.ProgramSpelling.{program_spelling}
use Rattle.spv_tree.specs.syntax.Reads.{Reads}
use Rattle.spv_grammar.specs.reading.RoutineReaders.{read_program}
use Rattle.spv_grammar.specs.reading.Depths.{program_depth}
use Rattle.spv_grammar.proofs.reading.Programs.{tree_is_read}
use Rattle.spv_grammar.proofs.nesting.ProgramOver.{program_over}
use Rattle.spv_grammar.proofs.nesting.Texts.{is_shallow, low_is_read}
use Rattle.spv_grammar.proofs.nesting.laws.law_enough.Goals as goal

pub returns : goal.returns
returns c = record { programs = low_is_read read_program program_depth (program_spelling in_kinds) Reads tree_is_read (λ tokens x r. r.spelled) (is_shallow program_depth (program_spelling in_kinds) program_over) }
