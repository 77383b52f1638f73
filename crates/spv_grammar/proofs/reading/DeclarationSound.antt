-- What is read as declarations is spelled at the front, on its lines.
use Rattle.std.proofs.Common.{ℕ, List, Option, refl}
use Rattle.spv_tree.specs.declared.tokens.token.Token.{Token}
use Rattle.spv_tree.specs.declared.tokens.token.TokenKind.TheVariants as kind
use Rattle.spv_tree.specs.declared.tokens.token.Word.TheVariants as word
use Rattle.spv_tree.specs.declared.tokens.token.Sign.TheVariants as sign
use Rattle.spv_tree.specs.declared.syntax.lists.Several.{Several}
use Rattle.spv_tree.specs.declared.syntax.declarations.NameOrClass.{NameOrClass}
use Rattle.spv_tree.specs.declared.syntax.declarations.NameOrClass.TheVariants as either
use Rattle.spv_tree.specs.declared.syntax.declarations.SortName.{SortName}
use Rattle.spv_tree.specs.syntax.Steps.{first_line}
use Rattle.spv_grammar.specs.reading.Readers.{Read, front, after, is, and_then, name, several_of, optional}
use Rattle.spv_grammar.specs.reading.StatementReaders.{read_constant}
use Rattle.spv_grammar.specs.reading.TypeReaders.{begins_name, read_type}
use Rattle.spv_grammar.specs.reading.DeclarationReaders.{read_const, read_name_or_class, read_sort, read_sorts, read_symbol, read_typedef, read_vars, read_declarations}
use Rattle.spv_grammar.specs.reading.Parts.{InFront, Part, BeginsWith, constant_part, type_part, several_part, const_part, typedef_part, vars_part, sort_part, symbol_part, declarations_part}
use Rattle.spv_grammar.proofs.reading.Fronts.{Passed, passed, is-true, join, started}
use Rattle.spv_grammar.proofs.reading.Sound.{On, on_some, on_then, on_if, on_past, on_more, name_sound, several_sound, headed_sound, on_optional, ended_sound}
use Rattle.spv_grammar.proofs.reading.StatementSound.{constant_sound}
use Rattle.spv_grammar.proofs.reading.TypeSound.{names_sound, type_sound}
use Rattle.spv_tree.specs.syntax.Members.{in_kinds, in_lines}
use Rattle.spv_tree.specs.syntax.ProgramSpelling.{name_or_class_spelling, sorts_spelling}

pub const_sound : (tokens : List Token) → On (read_const tokens) (BeginsWith const_part tokens)
const_sound tokens =
    on_then (name_sound tokens) (λ x mid n. on_past (kind.Sign sign.Equal) mid (λ last p. on_then (ended_sound (kind.Sign sign.Semicolon) constant_part read_constant last (constant_sound last)) (λ c rest a. on_some _ (record { line = first_line tokens; name = x; value = c }) rest (started (join n (join p a))))))

pub typedef_sound : (n : ℕ) (tokens : List Token) → On (read_typedef n tokens) (BeginsWith typedef_part tokens)
typedef_sound m tokens =
    on_then (name_sound tokens) (λ x mid n. on_past (kind.Sign sign.Equal) mid (λ last p. on_then (ended_sound (kind.Sign sign.Semicolon) type_part (read_type m) last (type_sound m last)) (λ t rest a. on_some _ (record { line = first_line tokens; name = x; of = t }) rest (started (join n (join p a))))))

pub vars_sound : (n : ℕ) (tokens : List Token) → On (read_vars n tokens) (BeginsWith vars_part tokens)
vars_sound m tokens =
    on_then (names_sound tokens) (λ xs mid n. on_past (kind.Sign sign.Colon) mid (λ last p. on_then (ended_sound (kind.Sign sign.Semicolon) type_part (read_type m) last (type_sound m last)) (λ t rest a. on_some _ (record { line = first_line tokens; names = xs; of = t }) rest (started (join n (join p a))))))

-- a name or a class, at its place among the lines
abbrev pub EitherAt : List Token → NameOrClass → List Token → Type 0
EitherAt tokens x rest = InFront (name_or_class_spelling in_kinds x) (name_or_class_spelling in_lines x) tokens rest

pub either_sound : (tokens : List Token) → On (read_name_or_class tokens) (EitherAt tokens)
either_sound tokens =
    on_if (is (kind.Sign sign.Hash) (front tokens)) _ _ (λ h. class_there (after tokens) (passed _ tokens (is-true _ (front tokens) h))) (λ h. on_then (name_sound tokens) (λ x rest a. on_some _ (either.Name x) rest a))
  where
    class_there : (mid : List Token) → Passed (kind.Sign sign.Hash) tokens mid → On (and_then (name mid) (λ x rest. Read (either.Class x, rest))) (EitherAt tokens)
    class_there mid p =
        on_then (name_sound mid) (λ x rest a. on_some _ (either.Class x) rest (join p a))

pub sort_sound : (tokens : List Token) → On (read_sort tokens) (BeginsWith sort_part tokens)
sort_sound tokens =
    on_then (either_sound tokens) (λ x rest a. on_some _ (record { line = first_line tokens; form = x }) rest (started a))

abbrev sorts_part : Part (Option (Several SortName))
sorts_part = record { spelled = sorts_spelling in_kinds; lined = sorts_spelling in_lines }

sorts_sound : (tokens : List Token) → On (optional (kind.Sign sign.OpenParenthesis) read_sorts tokens) (BeginsWith sorts_part tokens)
sorts_sound tokens =
    on_optional (kind.Sign sign.OpenParenthesis) read_sorts tokens (BeginsWith sorts_part tokens) (record { spelled = refl; lined = λ steps. refl }) (λ mid p. on_more (ended_sound (kind.Sign sign.CloseParenthesis) (several_part (kind.Sign sign.Comma) sort_part) (several_of (kind.Sign sign.Comma) read_sort) mid (several_sound (kind.Sign sign.Comma) sort_part read_sort sort_sound mid)) (λ xs rest a. join p a))

pub symbol_sound : (tokens : List Token) → On (read_symbol tokens) (BeginsWith symbol_part tokens)
symbol_sound tokens =
    on_then (name_sound tokens) (λ x mid n. on_then (sorts_sound mid) (λ arguments last a. on_past (kind.Sign sign.Colon) last (λ next p. on_then (ended_sound (kind.Sign sign.Semicolon) sort_part read_sort next (sort_sound next)) (λ s rest b. on_some _ (record { line = first_line tokens; name = x; arguments = arguments; result = s }) rest (started (join n (join a (join p b))))))))

pub declarations_sound : (n : ℕ) (tokens : List Token) → On (read_declarations n tokens) (BeginsWith declarations_part tokens)
declarations_sound n tokens =
    on_then (headed_sound (kind.Word word.Const) begins_name const_part read_const const_sound tokens) (λ constants mid a. on_then (headed_sound (kind.Word word.Type) begins_name typedef_part (read_typedef n) (typedef_sound n) mid) (λ types last b. on_then (headed_sound (kind.Word word.Var) begins_name vars_part (read_vars n) (vars_sound n) last) (λ variables next c. on_then (headed_sound (kind.Word word.Declare) begins_name symbol_part read_symbol symbol_sound next) (λ symbols rest d. on_some _ (record { line = first_line tokens; constants = constants; types = types; variables = variables; symbols = symbols }) rest (started (join a (join b (join c d))))))))
