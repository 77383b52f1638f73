-- What is read as a type is spelled at the front, on its lines.
use Rattle.std.proofs.Common.{◌≡◌, ℕ, zero, suc, List, Option, Some, None, refl}
use Rattle.spv_tree.specs.declared.tokens.token.Token.{Token}
use Rattle.spv_tree.specs.declared.tokens.token.TokenKind.{TokenKind}
use Rattle.spv_tree.specs.declared.tokens.token.TokenKind.TheVariants as kind
use Rattle.spv_tree.specs.declared.tokens.token.Word.TheVariants as word
use Rattle.spv_tree.specs.declared.tokens.token.Sign.TheVariants as sign
use Rattle.spv_tree.specs.declared.syntax.names.Name.{Name}
use Rattle.spv_tree.specs.declared.syntax.names.Scalar.TheVariants as scalar
use Rattle.spv_tree.specs.syntax.Types.{TypeDenoter, named, range, pointer, array, fields, no_more_types, more_types, no_field, field, no_more_fields, more_fields}
use Rattle.spv_tree.specs.syntax.Steps.{first_line}
use Rattle.spv_grammar.specs.reading.Readers.{Read, front, after, is, Reader, and_then, name}
use Rattle.spv_grammar.specs.reading.TypeReaders.{read_names, begins_name, read_upper, read_range, read_type_name, read_more_types, read_array, read_field_part, read_more_fields, read_record, type_on, read_lower_type, read_type}
use Rattle.spv_grammar.specs.reading.Parts.{BeginsWith, name_part, led, names_part, type_part, more_types_part, field_part, more_fields_part}
use Rattle.spv_grammar.proofs.reading.Fronts.{Passed, passed, is-true, begun, join, starting_at, started}
use Rattle.spv_grammar.proofs.reading.Sound.{On, on_none, on_some, on_then, on_if, on_past, on_more, name_begins, name_sound, IsList, items_sound, behind_sound, several_sound}
use Rattle.spv_grammar.proofs.reading.StatementSound.{constant_sound}

pub names_sound : (tokens : List Token) → On (read_names tokens) (BeginsWith names_part tokens)
names_sound tokens = on_more (several_sound (kind.Sign sign.Comma) name_part name name_sound tokens) (λ x rest b. b)

range_sound : (tokens : List Token) → On (read_range tokens) (BeginsWith type_part tokens)
range_sound tokens =
    on_then (constant_sound tokens) (λ low mid a. on_past (kind.Sign sign.Range) mid (λ last q. on_then (constant_sound last) (λ high rest b. on_some _ (range (first_line tokens) low high) rest (started (join a (join q b))))))

named_sound : (x : Name) (tokens mid : List Token) → BeginsWith name_part tokens x mid → x.line ≡ first_line tokens → On (read_type_name x mid) (BeginsWith type_part tokens)
named_sound x tokens mid n l =
    on_if (is (kind.Sign sign.Range) (front mid)) _ _ (λ h. upper (after mid) (passed _ mid (is-true _ (front mid) h))) (λ h. on_some _ (named x.line x) mid (starting_at x.line l n))
  where
    upper : (last : List Token) → Passed (kind.Sign sign.Range) mid last → On (read_upper x.line (record { line = x.line; sign = None; value = scalar.Name x }) last) (BeginsWith type_part tokens)
    upper last q =
        on_then (constant_sound last) (λ high rest b. on_some _ (range x.line (record { line = x.line; sign = None; value = scalar.Name x }) high) rest (starting_at x.line l (starting_at x.line l (join n (join q b)))))

pointer_sound : (tokens mid : List Token) → Passed (kind.Sign sign.Caret) tokens mid → On (and_then (name mid) (λ x rest. Read (pointer (first_line tokens) x, rest))) (BeginsWith type_part tokens)
pointer_sound tokens mid p =
    on_then (name_sound mid) (λ x rest a. on_some _ (pointer (first_line tokens) x) rest (started (join p a)))

module _ (lower : Reader TypeDenoter) (lower_sound : (tokens : List Token) → On (lower tokens) (BeginsWith type_part tokens)) where
  more_types_list : IsList no_more_types more_types (led (kind.Sign sign.Comma) type_part) more_types_part
  more_types_list = record {
    none_spelled = λ rest. refl;
    none_lined = λ steps. refl;
    add_spelled = λ x xs rest. refl;
    add_lined = λ x xs steps. refl;
  }

  more_types_sound : (tokens : List Token) → On (read_more_types lower tokens) (BeginsWith more_types_part tokens)
  more_types_sound tokens = items_sound more_types_list _ (behind_sound type_part _ lower lower_sound) _ tokens

  array_sound : (tokens mid : List Token) → Passed (kind.Word word.Array) tokens mid → On (read_array lower (first_line tokens) mid) (BeginsWith type_part tokens)
  array_sound tokens mid p =
      on_past (kind.Sign sign.OpenBracket) mid (λ opened o. on_then (lower_sound opened) (λ t further a. on_then (more_types_sound further) (λ more last b. on_past (kind.Sign sign.CloseBracket) last (λ shut q. on_past (kind.Word word.Of) shut (λ next r. on_then (lower_sound next) (λ elements rest d. on_some _ (array (first_line tokens) t more elements) rest (started (join p (join o (join a (join b (join q (join r d)))))))))))))

  field_sound : (tokens : List Token) → On (read_field_part lower tokens) (BeginsWith field_part tokens)
  field_sound tokens =
      on_if (begins_name (front tokens)) _ _ (λ h. on_then (names_sound tokens) (λ names mid a. on_past (kind.Sign sign.Colon) mid (λ last q. on_then (lower_sound last) (λ t rest b. on_some _ (field (first_line tokens) names t) rest (started (join a (join q b))))))) (λ h. on_some _ (no_field (first_line tokens)) tokens (record { spelled = refl; lined = λ steps. begun tokens steps }))

  more_fields_list : IsList no_more_fields more_fields (led (kind.Sign sign.Semicolon) field_part) more_fields_part
  more_fields_list = record {
    none_spelled = λ rest. refl;
    none_lined = λ steps. refl;
    add_spelled = λ x xs rest. refl;
    add_lined = λ x xs steps. refl;
  }

  more_fields_sound : (tokens : List Token) → On (read_more_fields lower tokens) (BeginsWith more_fields_part tokens)
  more_fields_sound tokens = items_sound more_fields_list _ (behind_sound field_part _ (read_field_part lower) field_sound) _ tokens

  record_sound : (tokens mid : List Token) → Passed (kind.Word word.Record) tokens mid → On (read_record lower (first_line tokens) mid) (BeginsWith type_part tokens)
  record_sound tokens mid p =
      on_then (field_sound mid) (λ f next a. on_then (more_fields_sound next) (λ more last b. on_past (kind.Word word.End) last (λ rest q. on_some _ (fields (first_line tokens) f more) rest (started (join p (join a (join b q)))))))

  type_on_sound : (tokens : List Token) (o : Option TokenKind) → front tokens ≡ o → On (type_on lower o tokens) (BeginsWith type_part tokens)
  type_on_sound tokens (Some (kind.Name x)) e = named_sound (record { line = first_line tokens; symbol = x }) tokens (after tokens) (name_begins tokens x e) refl
  type_on_sound tokens (Some (kind.Number n)) e = range_sound tokens
  type_on_sound tokens (Some (kind.Sign sign.Plus)) e = range_sound tokens
  type_on_sound tokens (Some (kind.Sign sign.Minus)) e = range_sound tokens
  type_on_sound tokens (Some (kind.Sign sign.Caret)) e = pointer_sound tokens _ (passed _ tokens e)
  type_on_sound tokens (Some (kind.Word word.Array)) e = array_sound tokens _ (passed _ tokens e)
  type_on_sound tokens (Some (kind.Word word.Record)) e = record_sound tokens _ (passed _ tokens e)
  type_on_sound tokens _ e = on_none _

pub lower_type_sound : (n : ℕ) (tokens : List Token) → On (read_lower_type n tokens) (BeginsWith type_part tokens)
lower_type_sound zero tokens = on_none _
lower_type_sound (suc n) tokens = type_on_sound (read_lower_type n) (lower_type_sound n) tokens (front tokens) refl

pub type_sound : (n : ℕ) (tokens : List Token) → On (read_type n tokens) (BeginsWith type_part tokens)
type_sound n tokens = type_on_sound (read_lower_type n) (lower_type_sound n) tokens (front tokens) refl
