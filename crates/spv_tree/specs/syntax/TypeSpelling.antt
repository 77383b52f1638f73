-- How types are spelled, in front of what follows.
use Rattle.std.specs.Prelude.{ℕ, List, ◌∷◌, Option, Some, None}
use Rattle.spv_tree.specs.declared.tokens.token.TokenKind.{TokenKind}
use Rattle.spv_tree.specs.declared.tokens.token.TokenKind.TheVariants as kind
use Rattle.spv_tree.specs.declared.tokens.token.Word.TheVariants as word
use Rattle.spv_tree.specs.declared.tokens.token.Sign.TheVariants as sign
use Rattle.spv_tree.specs.declared.syntax.lists.Several.{Several}
use Rattle.spv_tree.specs.declared.syntax.names.Name.{Name}
use Rattle.spv_tree.specs.declared.syntax.names.Constant.{Constant}
use Rattle.spv_tree.specs.declared.syntax.names.Scalar.{Scalar}
use Rattle.spv_tree.specs.declared.syntax.names.Scalar.TheVariants as scalar
use Rattle.spv_tree.specs.syntax.Types.{TypeDenoter, named, range, pointer, array, fields, MoreTypes, no_more_types, more_types, Field, no_field, field, MoreFields, no_more_fields, more_fields}
use Rattle.spv_tree.specs.syntax.Lists.{several}
use Rattle.spv_tree.specs.syntax.Members.{Members}
use Rattle.spv_tree.specs.syntax.FormulaSpelling.{name_spelling, prefix_spelling, name_kind}

abbrev pub scalar_kind : Scalar → TokenKind
scalar_kind (scalar.Number n) = kind.Number n
scalar_kind (scalar.Name x) = name_kind x

-- a name has its own line
abbrev pub scalar_line : Scalar → Option ℕ
scalar_line (scalar.Number n) = None
scalar_line (scalar.Name x) = Some x.line

-- ---- in members of one kind

module _ {R : Type 0} (m : Members R) where
  -- name {"," name}
  abbrev pub names_spelling : Several Name → List R → List R
  names_spelling xs rest = several (m.token (kind.Sign sign.Comma)) (name_spelling m) xs rest

  abbrev pub scalar_spelling : Scalar → List R → List R
  scalar_spelling x rest = m.at_if (scalar_line x) (m.token (scalar_kind x) ∷ rest)

  abbrev pub constant_spelling : Constant → List R → List R
  constant_spelling c rest = m.at c.line (prefix_spelling m c.sign (scalar_spelling c.value rest))

  abbrev mutual
    pub type_spelling : TypeDenoter → List R → List R
    type_spelling (named line x) rest = m.at line (name_spelling m x rest)
    type_spelling (range line low high) rest =
        m.at line (constant_spelling low (m.token (kind.Sign sign.Range) ∷ constant_spelling high rest))
    type_spelling (pointer line x) rest = m.at line (m.token (kind.Sign sign.Caret) ∷ name_spelling m x rest)
    type_spelling (array line first more elements) rest =
        m.at line (m.token (kind.Word word.Array) ∷ m.token (kind.Sign sign.OpenBracket) ∷ type_spelling first (more_types_spelling more
        (m.token (kind.Sign sign.CloseBracket) ∷ m.token (kind.Word word.Of) ∷ type_spelling elements rest)))
    type_spelling (fields line first more) rest =
        m.at line (m.token (kind.Word word.Record) ∷ field_spelling first (more_fields_spelling more (m.token (kind.Word word.End) ∷ rest)))

    pub more_types_spelling : MoreTypes → List R → List R
    more_types_spelling no_more_types rest = rest
    more_types_spelling (more_types t more) rest = m.token (kind.Sign sign.Comma) ∷ type_spelling t (more_types_spelling more rest)

    pub field_spelling : Field → List R → List R
    field_spelling (no_field line) rest = m.at line rest
    field_spelling (field line names t) rest = m.at line (names_spelling names (m.token (kind.Sign sign.Colon) ∷ type_spelling t rest))

    pub more_fields_spelling : MoreFields → List R → List R
    more_fields_spelling no_more_fields rest = rest
    more_fields_spelling (more_fields f more) rest = m.token (kind.Sign sign.Semicolon) ∷ field_spelling f (more_fields_spelling more rest)
