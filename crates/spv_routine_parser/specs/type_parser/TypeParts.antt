-- Parts of types that have functions of their own.
use Rattle.std.specs.Prelude.{ℕ}
use Rattle.spv_tree.specs.declared.tokens.token.TokenKind.TheVariants as kind
use Rattle.spv_tree.specs.declared.tokens.token.Sign.TheVariants as sign
use Rattle.spv_tree.specs.syntax.Types.{TypeDenoter, pointer, Field, field}
use Rattle.spv_tree.specs.declared.syntax.names.Constant.{Constant}
use Rattle.spv_tree.specs.syntax.Steps.{first_line}
use Rattle.spv_grammar.specs.reading.Readers.{Read, Reader, and_then, past, name}
use Rattle.spv_grammar.specs.reading.TypeReaders.{read_names, read_upper}

-- ".." constant, behind the lower bound
abbrev pub read_range_behind : ℕ → Constant → Reader TypeDenoter
read_range_behind line low tokens = past (kind.Sign sign.Range) tokens (λ rest. read_upper line low rest)

-- name, behind "^"
abbrev pub read_pointer : ℕ → Reader TypeDenoter
read_pointer line tokens = and_then (name tokens) (λ x rest. Read (pointer line x, rest))

-- names ":" type, where the type is read by `lower`
abbrev pub read_named_field : Reader TypeDenoter → Reader Field
read_named_field lower tokens =
    and_then (read_names tokens) (λ names mid. past (kind.Sign sign.Colon) mid (λ last. and_then (lower last) (λ t rest. Read (field (first_line tokens) names t, rest))))
