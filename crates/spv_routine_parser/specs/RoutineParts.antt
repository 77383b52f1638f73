-- Parts of routines that have functions of their own.
use Rattle.std.specs.Prelude.{Option}
use Rattle.spv_tree.specs.declared.tokens.token.TokenKind.TheVariants as kind
use Rattle.spv_tree.specs.declared.tokens.token.Word.TheVariants as word
use Rattle.spv_tree.specs.declared.tokens.token.Sign.TheVariants as sign
use Rattle.spv_tree.specs.declared.syntax.lists.Several.{Several}
use Rattle.spv_tree.specs.declared.syntax.routines.Start.{Start}
use Rattle.spv_grammar.specs.reading.Readers.{Reader, several_of, optional, ended}
use Rattle.spv_grammar.specs.reading.RoutineReaders.{read_start}

-- [INITIAL start {"," start} ";"]
abbrev pub read_initial : Reader (Option (Several Start))
read_initial tokens = optional (kind.Word word.Initial) (ended (kind.Sign sign.Semicolon) (several_of (kind.Sign sign.Comma) read_start)) tokens
