-- How declarations are read.
use Rattle.std.specs.Prelude.{ℕ, if◌then◌else◌}
use Rattle.spv_tree.specs.declared.tokens.token.TokenKind.TheVariants as kind
use Rattle.spv_tree.specs.declared.tokens.token.Word.TheVariants as word
use Rattle.spv_tree.specs.declared.tokens.token.Sign.TheVariants as sign
use Rattle.spv_tree.specs.declared.syntax.lists.Several.{Several}
use Rattle.spv_tree.specs.declared.syntax.declarations.Const.{Const}
use Rattle.spv_tree.specs.declared.syntax.declarations.Typedef.{Typedef}
use Rattle.spv_tree.specs.declared.syntax.declarations.Vars.{Vars}
use Rattle.spv_tree.specs.declared.syntax.declarations.NameOrClass.{NameOrClass}
use Rattle.spv_tree.specs.declared.syntax.declarations.NameOrClass.TheVariants as either
use Rattle.spv_tree.specs.declared.syntax.declarations.SortName.{SortName}
use Rattle.spv_tree.specs.declared.syntax.declarations.SymbolText.{SymbolText}
use Rattle.spv_tree.specs.declared.syntax.declarations.Declarations.{Declarations}
use Rattle.spv_tree.specs.syntax.Steps.{first_line}
use Rattle.spv_grammar.specs.reading.Readers.{front, after, is, Read, Reader, and_then, past, name, several_of, headed_by, optional, ended}
use Rattle.spv_grammar.specs.reading.StatementReaders.{read_constant}
use Rattle.spv_grammar.specs.reading.TypeReaders.{read_names, begins_name, read_type}

-- name "=" constant ";"
abbrev pub read_const : Reader Const
read_const tokens =
    and_then (name tokens) (λ x mid. past (kind.Sign sign.Equal) mid (λ last. and_then (ended (kind.Sign sign.Semicolon) read_constant last) (λ c rest. Read (record { line = first_line tokens; name = x; value = c }, rest))))

-- name | "#" name
abbrev pub read_name_or_class : Reader NameOrClass
read_name_or_class tokens =
    if is (kind.Sign sign.Hash) (front tokens) then and_then (name (after tokens)) (λ x rest. Read (either.Class x, rest)) else and_then (name tokens) (λ x rest. Read (either.Name x, rest))

abbrev pub read_sort : Reader SortName
read_sort tokens = and_then (read_name_or_class tokens) (λ x rest. Read (record { line = first_line tokens; form = x }, rest))

-- sort {"," sort} ")"
abbrev pub read_sorts : Reader (Several SortName)
read_sorts tokens = ended (kind.Sign sign.CloseParenthesis) (several_of (kind.Sign sign.Comma) read_sort) tokens

-- name ["(" sort {"," sort} ")"] ":" sort ";"
abbrev pub read_symbol : Reader SymbolText
read_symbol tokens =
    and_then (name tokens) (λ x mid. and_then (optional (kind.Sign sign.OpenParenthesis) read_sorts mid) (λ arguments last. past (kind.Sign sign.Colon) last (λ next. and_then (ended (kind.Sign sign.Semicolon) read_sort next) (λ s rest. Read (record { line = first_line tokens; name = x; arguments = arguments; result = s }, rest)))))

-- ---- types in them have n levels at most

-- name "=" type ";"
abbrev pub read_typedef : ℕ → Reader Typedef
read_typedef n tokens =
    and_then (name tokens) (λ x mid. past (kind.Sign sign.Equal) mid (λ last. and_then (ended (kind.Sign sign.Semicolon) (read_type n) last) (λ t rest. Read (record { line = first_line tokens; name = x; of = t }, rest))))

-- names ":" type ";"
abbrev pub read_vars : ℕ → Reader Vars
read_vars n tokens =
    and_then (read_names tokens) (λ xs mid. past (kind.Sign sign.Colon) mid (λ last. and_then (ended (kind.Sign sign.Semicolon) (read_type n) last) (λ t rest. Read (record { line = first_line tokens; names = xs; of = t }, rest))))

-- [CONST const {const}] [TYPE typedef {typedef}] [VAR vars {vars}] [DECLARE symbol {symbol}]
abbrev pub read_declarations : ℕ → Reader Declarations
read_declarations n tokens =
    and_then (headed_by (kind.Word word.Const) begins_name read_const tokens) (λ constants mid. and_then (headed_by (kind.Word word.Type) begins_name (read_typedef n) mid) (λ types last. and_then (headed_by (kind.Word word.Var) begins_name (read_vars n) last) (λ variables next. and_then (headed_by (kind.Word word.Declare) begins_name read_symbol next) (λ symbols rest. Read (record { line = first_line tokens; constants = constants; types = types; variables = variables; symbols = symbols }, rest)))))
