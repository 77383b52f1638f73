-- Types are read as they are expected.
use Rattle.std.proofs.Common.{◌≡◌, ℕ, zero, suc, Bool, true, false, if◌then◌else◌, List, [], ◌∷◌, Option, Some, refl, ap}
use Rattle.spv_tree.specs.declared.tokens.token.Token.{Token}
use Rattle.spv_tree.specs.declared.tokens.token.TokenKind.{TokenKind}
use Rattle.spv_tree.specs.declared.tokens.token.TokenKind.TheVariants as kind
use Rattle.spv_tree.specs.declared.tokens.token.Word.TheVariants as word
use Rattle.spv_tree.specs.declared.tokens.token.Sign.TheVariants as sign
use Rattle.spv_tree.specs.declared.syntax.names.Name.{Name}
use Rattle.spv_tree.specs.declared.syntax.names.Constant.{Constant}
use Rattle.spv_tree.specs.syntax.Types.{TypeDenoter, range, pointer, array, fields, no_more_types, more_types, no_field, field, no_more_fields, more_fields}
use Rattle.spv_tree.specs.syntax.Steps.{first_line}
use Rattle.spv_grammar.specs.reading.Readers.{Read, front, after, Reader, and_then, past, name}
use Rattle.spv_grammar.specs.reading.TypeReaders.{read_names, begins_name, read_upper, read_range, read_type_name, read_more_types, read_array, read_field_part, read_more_fields, read_record, type_on, type_by, read_lower_type, read_type}
use Rattle.spv_grammar.specs.expected_tokens.Expected.{opened_if, range_parts}
use Rattle.spv_grammar.specs.expected_tokens.Expected as expected
use Rattle.spv_grammar.proofs.expected_tokens.Follows.{Follows, gives, no_level, one_less, misfit_at, open_at, take_at, follows_then, follows_past, follows_name, follows_all, follows_behind, follows_several, follows_if}
use Rattle.spv_grammar.proofs.expected_tokens.StatementFollows.{constant_follows}

pub names_follow : {m : ℕ} (tokens : List Token) → Follows m (expected.name ∷ expected.more_names ∷ []) tokens (read_names tokens)
names_follow tokens = follows_several expected.more_names (expected.name ∷ []) (kind.Sign sign.Comma) name (λ o. refl) follows_name tokens

upper_follows : {m : ℕ} (line : ℕ) (low : Constant) (tokens : List Token) → Follows m (expected.constant ∷ []) tokens (read_upper line low tokens)
upper_follows {m} line low tokens = follows_then (constant_follows tokens) (λ high rest. gives m rest (range line low high))

range_follows : {m : ℕ} (tokens : List Token) → Follows m range_parts tokens (read_range tokens)
range_follows tokens = follows_then (constant_follows tokens) (λ low mid. follows_past _ mid (λ last. upper_follows (first_line tokens) low last))

type_name_follows : {m : ℕ} (x : Name) (tokens : List Token) → Follows m (expected.range_part ∷ []) tokens (read_type_name x tokens)
type_name_follows {m} x tokens = follows_if expected.range_part (expected.constant ∷ []) (kind.Sign sign.Range) tokens (λ o. refl) (upper_follows _ _ (after tokens)) (gives m tokens _)

module _ {m : ℕ} (lower : Reader TypeDenoter) (lower_follows : (tokens : List Token) → Follows m (expected.type ∷ []) tokens (lower tokens)) where
  more_types_follow : (tokens : List Token) → Follows m (expected.more_types ∷ []) tokens (read_more_types lower tokens)
  more_types_follow tokens = follows_all expected.more_types no_more_types more_types _ (follows_behind expected.more_types (expected.type ∷ []) (kind.Sign sign.Comma) lower (λ o. refl) lower_follows) tokens

  array_follows : (line : ℕ) (tokens : List Token) → Follows m (expected.token (kind.Sign sign.OpenBracket) ∷ expected.type ∷ expected.more_types ∷ expected.token (kind.Sign sign.CloseBracket) ∷ expected.token (kind.Word word.Of) ∷ expected.type ∷ []) tokens (read_array lower line tokens)
  array_follows line tokens =
      follows_past _ tokens (λ inside. follows_then (lower_follows inside) (λ t mid. follows_then (more_types_follow mid) (λ more last. follows_past _ last (λ shut. follows_past _ shut (λ next. follows_then (lower_follows next) (λ elements rest. gives m rest (array line t more elements)))))))

  abbrev field_parts : List expected.Expected
  field_parts = expected.name ∷ expected.more_names ∷ expected.token (kind.Sign sign.Colon) ∷ expected.type ∷ []

  field_follows : (tokens : List Token) → Follows m (expected.field ∷ []) tokens (read_field_part lower tokens)
  field_follows tokens = by_test (begins_name (front tokens)) refl
    where
      by_test : (b : Bool) → begins_name (front tokens) ≡ b → Follows m (expected.field ∷ []) tokens (if b then and_then (read_names tokens) (λ names mid. past (kind.Sign sign.Colon) mid (λ last. and_then (lower last) (λ t rest. Read (field (first_line tokens) names t, rest)))) else Read (no_field (first_line tokens), tokens))
      by_test true e =
          open_at m expected.field [] field_parts _ tokens (front tokens) refl (ap (λ b. opened_if b field_parts) e)
          (follows_then (names_follow tokens) (λ names mid. follows_past _ mid (λ last. follows_then (lower_follows last) (λ t rest. gives m rest (field (first_line tokens) names t)))))
      by_test false e = open_at m expected.field [] [] _ tokens (front tokens) refl (ap (λ b. opened_if b field_parts) e) (gives m tokens _)

  more_fields_follow : (tokens : List Token) → Follows m (expected.more_fields ∷ []) tokens (read_more_fields lower tokens)
  more_fields_follow tokens = follows_all expected.more_fields no_more_fields more_fields _ (follows_behind expected.more_fields (expected.field ∷ []) (kind.Sign sign.Semicolon) (read_field_part lower) (λ o. refl) field_follows) tokens

  record_follows : (line : ℕ) (tokens : List Token) → Follows m (expected.field ∷ expected.more_fields ∷ expected.token (kind.Word word.End) ∷ []) tokens (read_record lower line tokens)
  record_follows line tokens = follows_then (field_follows tokens) (λ f mid. follows_then (more_fields_follow mid) (λ more last. follows_past _ last (λ rest. gives m rest (fields line f more))))

  type_on_follows : (tokens : List Token) (o : Option TokenKind) → front tokens ≡ o → Follows (suc m) (expected.type ∷ []) tokens (type_on lower o tokens)
  type_on_follows tokens (Some (kind.Name x)) e = take_at m expected.type [] (expected.range_part ∷ []) _ tokens _ e refl (type_name_follows _ (after tokens))
  type_on_follows tokens (Some (kind.Number n)) e = open_at (suc m) expected.type [] range_parts _ tokens _ e refl (range_follows tokens)
  type_on_follows tokens (Some (kind.Sign sign.Plus)) e = open_at (suc m) expected.type [] range_parts _ tokens _ e refl (range_follows tokens)
  type_on_follows tokens (Some (kind.Sign sign.Minus)) e = open_at (suc m) expected.type [] range_parts _ tokens _ e refl (range_follows tokens)
  type_on_follows tokens (Some (kind.Sign sign.Caret)) e = take_at m expected.type [] (expected.name ∷ []) _ tokens _ e refl (follows_then (follows_name (after tokens)) (λ x rest. gives m rest (pointer (first_line tokens) x)))
  type_on_follows tokens (Some (kind.Word word.Array)) e = take_at m expected.type [] _ _ tokens _ e refl (array_follows _ (after tokens))
  type_on_follows tokens (Some (kind.Word word.Record)) e = take_at m expected.type [] _ _ tokens _ e refl (record_follows _ (after tokens))
  type_on_follows tokens o e = misfit_at (suc m) expected.type [] tokens o e refl

  type_by_follows : (tokens : List Token) → Follows (suc m) (expected.type ∷ []) tokens (type_by lower tokens)
  type_by_follows tokens = type_on_follows tokens (front tokens) refl

lower_type_follows : (n : ℕ) (tokens : List Token) → Follows n (expected.type ∷ []) tokens (read_lower_type n tokens)
lower_type_follows zero tokens = no_level (expected.type ∷ []) tokens
lower_type_follows (suc n) tokens = type_by_follows (read_lower_type n) (lower_type_follows n) tokens

pub type_follows : (n : ℕ) (tokens : List Token) → Follows n (expected.type ∷ []) tokens (read_type n tokens)
type_follows n tokens = one_less (type_by_follows (read_lower_type n) (lower_type_follows n) tokens)
