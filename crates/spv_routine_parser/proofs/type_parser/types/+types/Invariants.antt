use Rattle.std.proofs.Common.{◌+◌, ◌*◌}
use Rattle.spv_tree.specs.declared.tokens.token.TokenKind.TheVariants as kind
use Rattle.spv_tree.specs.declared.tokens.token.Sign.TheVariants as sign
use Rattle.spv_tree.specs.syntax.Types.{no_more_types, more_types, no_more_fields, more_fields}
use Rattle.spv_grammar.specs.reading.Readers.{behind}
use Rattle.spv_grammar.specs.reading.TypeReaders.{read_lower_type, read_field_part, read_more_types, read_more_fields}
use Rattle.spv_formula_parser.specs.primitives.Lists.{ItemsSoFar}
use Rattle.spv_routine_parser.proofs.type_parser.types.+types.Given as goal

abbrev pub decreases-lower_type : goal.decreases-lower_type
decreases-lower_type l = l.levels * 10

abbrev pub decreases-more_types : goal.decreases-more_types
decreases-more_types l = l.levels * 10 + 1

abbrev pub decreases-array : goal.decreases-array
decreases-array l = l.levels * 10 + 2

abbrev pub decreases-named_field : goal.decreases-named_field
decreases-named_field l = l.levels * 10 + 1

abbrev pub decreases-field : goal.decreases-field
decreases-field l = l.levels * 10 + 2

abbrev pub decreases-more_fields : goal.decreases-more_fields
decreases-more_fields l = l.levels * 10 + 3

abbrev pub decreases-record : goal.decreases-record
decreases-record l = l.levels * 10 + 4

abbrev pub decreases-type_denoter : goal.decreases-type_denoter
decreases-type_denoter l = l.levels * 10 + 5

abbrev pub invariant-more_types-loop : goal.invariant-more_types-loop
invariant-more_types-loop l = ItemsSoFar no_more_types more_types (behind (kind.Sign sign.Comma) (read_lower_type l.levels)) (read_more_types (read_lower_type l.levels) l.tokens) l.end l.counter l.types.items l.rest

abbrev pub invariant-more_fields-loop : goal.invariant-more_fields-loop
invariant-more_fields-loop l = ItemsSoFar no_more_fields more_fields (behind (kind.Sign sign.Semicolon) (read_field_part (read_lower_type l.levels))) (read_more_fields (read_lower_type l.levels) l.tokens) l.end l.counter l.fields.items l.rest
