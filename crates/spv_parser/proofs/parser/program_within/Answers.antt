use Rattle.std.proofs.Common.{ℕ, refl}
use Rattle.spv_tree.specs.syntax.Reads.{Reads}
use Rattle.spv_grammar.specs.first_sets.Lines.{line_where}
use Rattle.spv_grammar.specs.first_sets.Begins.{GoesWrongAt}
use Rattle.spv_grammar.specs.reading.Readers.{wrong}
use Rattle.spv_grammar.specs.reading.RoutineReaders.{read_program}
use Rattle.spv_parser.proofs.Wholes.{whole_tree, none_with_more, none_where_halted, refused, refused_by, front_left}
use Rattle.spv_parser.proofs.parser.program_within.Goals as goal

pub returns-in-Ok-default-empty-clause-tree : goal.returns-in-Ok-default-empty-clause-tree
returns-in-Ok-default-empty-clause-tree c = whole_tree read_program Reads c.args.levels c.law_programs.ensures.read_is_tree c.in-Ok-default-empty.ensures.read c.in-Ok-default-empty.len_below

pub returns-in-Ok-clause-cause : goal.returns-in-Ok-clause-cause
returns-in-Ok-clause-cause c =
    let none = none_with_more read_program Reads c.args.levels c.requires.enough c.law_enough.ensures.programs c.in_ok-allowed.ensures.allowed c.in-Ok.ensures.read c.in-Ok.len_at_least in
    let w = front_left (λ (l : ℕ). GoesWrongAt Reads c.args.tokens.now (line_where c.args.tokens.now l)) c.in-Ok.ensures.read c.in-Ok.len_at_least refl (λ t others e. c.law_program_stops.ensures.surplus c.args.levels c.args.tokens.now _ t others e) in
    refused Reads c.refused_with.result _ c.in_ok-allowed.ensures.allowed none w c.refused_with.ensures

pub returns-in-Err-clause-cause : goal.returns-in-Err-clause-cause
returns-in-Err-clause-cause c =
    refused_by Reads c.in-Err.fault c.refusal.result c.in_ok-allowed.ensures.allowed
    (λ left is. let e = c.in-Err.ensures.absent (wrong left) is in (none_where_halted read_program Reads c.args.levels c.requires.enough c.law_enough.ensures.programs c.in_ok-allowed.ensures.allowed e, c.law_program_stops.ensures.stops c.args.levels c.args.tokens.now left e)) c.refusal.ensures
