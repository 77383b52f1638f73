-- How types are read.
use Rattle.std.specs.Prelude.{ℕ, zero, suc, Bool, true, false, if◌then◌else◌, Option, Some, None}
use Rattle.spv_tree.specs.declared.tokens.token.TokenKind.{TokenKind}
use Rattle.spv_tree.specs.declared.tokens.token.TokenKind.TheVariants as kind
use Rattle.spv_tree.specs.declared.tokens.token.Word.TheVariants as word
use Rattle.spv_tree.specs.declared.tokens.token.Sign.TheVariants as sign
use Rattle.spv_tree.specs.declared.syntax.lists.Several.{Several}
use Rattle.spv_tree.specs.declared.syntax.names.Name.{Name}
use Rattle.spv_tree.specs.declared.syntax.names.Scalar.TheVariants as scalar
use Rattle.spv_tree.specs.declared.syntax.names.Constant.{Constant}
use Rattle.spv_tree.specs.syntax.Types.{TypeDenoter, named, range, pointer, array, fields, MoreTypes, no_more_types, more_types, Field, no_field, field, MoreFields, no_more_fields, more_fields}
use Rattle.spv_tree.specs.syntax.Steps.{first_line}
use Rattle.spv_grammar.specs.reading.Readers.{front, after, is, Read, Reader, misfit, nothing, and_then, past, name, behind, all_items, several_of}
use Rattle.spv_grammar.specs.reading.StatementReaders.{read_constant}

-- name {"," name}
abbrev pub read_names : Reader (Several Name)
read_names tokens = several_of (kind.Sign sign.Comma) name tokens

-- whether a name begins with the token
abbrev pub begins_name : Option TokenKind → Bool
begins_name (Some (kind.Name x)) = true
begins_name _ = false

-- ".." constant, without the sign, behind its lower bound
abbrev pub read_upper : ℕ → Constant → Reader TypeDenoter
read_upper line low tokens = and_then (read_constant tokens) (λ high rest. Read (range line low high, rest))

-- constant ".." constant
abbrev pub read_range : Reader TypeDenoter
read_range tokens = and_then (read_constant tokens) (λ low mid. past (kind.Sign sign.Range) mid (λ last. read_upper (first_line tokens) low last))

-- what begins with a name
abbrev pub read_type_name : Name → Reader TypeDenoter
read_type_name x tokens =
    if is (kind.Sign sign.Range) (front tokens) then read_upper x.line (record { line = x.line; sign = None; value = scalar.Name x }) (after tokens) else Read (named x.line x, tokens)

-- ---- types inside others are read by `lower`

module _ (lower : Reader TypeDenoter) where
  -- {"," type}
  abbrev pub read_more_types : Reader MoreTypes
  read_more_types tokens = all_items no_more_types more_types (behind (kind.Sign sign.Comma) lower) tokens

  -- "[" type {"," type} "]" OF type, behind ARRAY
  abbrev pub read_array : ℕ → Reader TypeDenoter
  read_array line tokens =
      past (kind.Sign sign.OpenBracket) tokens (λ inside. and_then (lower inside) (λ t mid. and_then (read_more_types mid) (λ more last. past (kind.Sign sign.CloseBracket) last (λ shut. past (kind.Word word.Of) shut (λ next. and_then (lower next) (λ elements rest. Read (array line t more elements, rest)))))))

  -- [names ":" type]
  abbrev pub read_field_part : Reader Field
  read_field_part tokens =
      if begins_name (front tokens) then and_then (read_names tokens) (λ names mid. past (kind.Sign sign.Colon) mid (λ last. and_then (lower last) (λ t rest. Read (field (first_line tokens) names t, rest)))) else Read (no_field (first_line tokens), tokens)

  -- {";" field}
  abbrev pub read_more_fields : Reader MoreFields
  read_more_fields tokens = all_items no_more_fields more_fields (behind (kind.Sign sign.Semicolon) read_field_part) tokens

  -- field {";" field} END, behind RECORD
  abbrev pub read_record : ℕ → Reader TypeDenoter
  read_record line tokens = and_then (read_field_part tokens) (λ f mid. and_then (read_more_fields mid) (λ more last. past (kind.Word word.End) last (λ rest. Read (fields line f more, rest))))

  abbrev pub type_on : Option TokenKind → Reader TypeDenoter
  type_on (Some (kind.Name x)) tokens = read_type_name (record { line = first_line tokens; symbol = x }) (after tokens)
  type_on (Some (kind.Number n)) tokens = read_range tokens
  type_on (Some (kind.Sign sign.Plus)) tokens = read_range tokens
  type_on (Some (kind.Sign sign.Minus)) tokens = read_range tokens
  type_on (Some (kind.Sign sign.Caret)) tokens = and_then (name (after tokens)) (λ x rest. Read (pointer (first_line tokens) x, rest))
  type_on (Some (kind.Word word.Array)) tokens = read_array (first_line tokens) (after tokens)
  type_on (Some (kind.Word word.Record)) tokens = read_record (first_line tokens) (after tokens)
  type_on _ tokens = misfit tokens

  abbrev pub type_by : Reader TypeDenoter
  type_by tokens = type_on (front tokens) tokens

-- ---- types inside one another, n levels at most

-- a type one level down
abbrev pub read_lower_type : ℕ → Reader TypeDenoter
read_lower_type zero tokens = nothing tokens
read_lower_type (suc n) tokens = type_by (read_lower_type n) tokens

abbrev pub read_type : ℕ → Reader TypeDenoter
read_type n tokens = type_by (read_lower_type n) tokens
