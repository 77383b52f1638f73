-- The way over the tokens of a type goes up by as many levels as the type has.
use Rattle.std.proofs.Common.{ℕ, suc, List, ◌∷◌, refl, arith}
use Rattle.spv_tree.specs.declared.tokens.token.TokenKind.{TokenKind}
use Rattle.spv_tree.specs.declared.tokens.token.TokenKind.TheVariants as kind
use Rattle.spv_tree.specs.declared.tokens.token.Word.TheVariants as word
use Rattle.spv_tree.specs.declared.tokens.token.Sign.TheVariants as sign
use Rattle.spv_tree.specs.declared.syntax.names.Name.{Name}
use Rattle.spv_tree.specs.syntax.Types.{TypeDenoter, named, range, pointer, array, fields, MoreTypes, no_more_types, more_types, Field, no_field, field, MoreFields, no_more_fields, more_fields}
use Rattle.spv_tree.specs.syntax.Members.{in_kinds}
use Rattle.spv_tree.specs.syntax.FormulaSpelling.{name_kind, name_spelling}
use Rattle.spv_tree.specs.syntax.TypeSpelling.{field_spelling, more_fields_spelling, more_types_spelling, type_spelling}
use Rattle.spv_grammar.specs.reading.Depths.{type_depth, more_types_depth, field_depth, more_fields_depth}
use Rattle.spv_grammar.proofs.nesting.Climbing.{Climbs, ClimbsInside, climbs_none, shallower, climbs_both, climbs_past, climbs_counted, inside_none, inside_of, inside_both, inside_first, inside_shallower, inside_past, inside_more, inside_several, climbs_brackets}
use Rattle.spv_grammar.proofs.nesting.StatementClimbs.{constant_climbs}

name_climbs : (x : Name) (n : ℕ) (others : List ℕ) (rest : List TokenKind) → Climbs n others (name_spelling in_kinds x rest) rest 0
name_climbs x n others rest = climbs_past (name_kind x) refl (climbs_none n others rest)

mutual
  pub type_climbs : (t : TypeDenoter) (n : ℕ) (others : List ℕ) (rest : List TokenKind) → Climbs n others (type_spelling in_kinds t rest) rest (type_depth t)
  type_climbs (named line x) n others rest = name_climbs x n others rest
  type_climbs (range line low high) n others rest =
      shallower 0 (climbs_both (constant_climbs low n others _) (λ m. climbs_past (kind.Sign sign.Range) refl (constant_climbs high m others rest))) (omega arith)
  type_climbs (pointer line x) n others rest = shallower 0 (climbs_counted (kind.Sign sign.Caret) refl (name_climbs x (suc n) others rest)) (omega arith)
  type_climbs (array line first more elements) n others rest =
      shallower _ (climbs_counted (kind.Word word.Array) refl (climbs_both (climbs_brackets (kind.Sign sign.OpenBracket) (kind.Sign sign.CloseBracket) refl refl (inside_first (type_climbs first 0 (suc n ∷ others) _) (λ m. more_types_climb more m (suc n) others _))) (λ m. climbs_past (kind.Word word.Of) refl (type_climbs elements m others rest)))) (omega arith)
  type_climbs (fields line first more) n others rest =
      climbs_brackets (kind.Word word.Record) (kind.Word word.End) refl refl (inside_both (field_climbs first 0 n others (more_fields_spelling in_kinds more _)) (λ m. more_fields_climb more m n others _))

  more_types_climb : (ts : MoreTypes) (n outside : ℕ) (others : List ℕ) (rest : List TokenKind) → ClimbsInside n outside others (more_types_spelling in_kinds ts rest) rest (more_types_depth ts)
  more_types_climb no_more_types n outside others rest = inside_none n outside others rest
  more_types_climb (more_types t more) n outside others rest =
      inside_more (kind.Sign sign.Comma) refl (inside_first (type_climbs t 0 (outside ∷ others) (more_types_spelling in_kinds more rest)) (λ m. more_types_climb more m outside others rest))

  field_climbs : (f : Field) (n outside : ℕ) (others : List ℕ) (rest : List TokenKind) → ClimbsInside n outside others (field_spelling in_kinds f rest) rest (field_depth f)
  field_climbs (no_field line) n outside others rest = inside_none n outside others rest
  field_climbs (field line names t) n outside others rest =
      inside_shallower _ (inside_both (inside_several (name_spelling in_kinds) (kind.Sign sign.Comma) refl name_climbs names n outside others _) (λ m. inside_past (kind.Sign sign.Colon) refl (inside_of (type_climbs t m (outside ∷ others) rest)))) (omega arith)

  more_fields_climb : (fs : MoreFields) (n outside : ℕ) (others : List ℕ) (rest : List TokenKind) → ClimbsInside n outside others (more_fields_spelling in_kinds fs rest) rest (more_fields_depth fs)
  more_fields_climb no_more_fields n outside others rest = inside_none n outside others rest
  more_fields_climb (more_fields f more) n outside others rest =
      inside_more (kind.Sign sign.Semicolon) refl (inside_both (field_climbs f 0 outside others (more_fields_spelling in_kinds more rest)) (λ m. more_fields_climb more m outside others rest))
