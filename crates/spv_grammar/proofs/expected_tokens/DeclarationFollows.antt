-- Declarations are read as they are expected.
use Rattle.std.proofs.Common.{◌≡◌, ℕ, Bool, true, false, if◌then◌else◌, List, [], ◌∷◌, ◌++◌, Option, Some, None, refl, sym, ap, ◌∙◌, subst}
use Rattle.spv_logic.specs.declared.names.names.Symbol.{Symbol}
use Rattle.spv_tree.specs.declared.tokens.token.Token.{Token}
use Rattle.spv_tree.specs.declared.tokens.token.TokenKind.{TokenKind}
use Rattle.spv_tree.specs.declared.tokens.token.TokenKind.TheVariants as kind
use Rattle.spv_tree.specs.declared.tokens.token.Word.TheVariants as word
use Rattle.spv_tree.specs.declared.tokens.token.Sign.TheVariants as sign
use Rattle.spv_tree.specs.declared.syntax.declarations.NameOrClass.TheVariants as either
use Rattle.spv_tree.specs.syntax.Steps.{first_line}
use Rattle.spv_tree.specs.declared.syntax.lists.Several.{Several}
use Rattle.spv_tree.specs.declared.syntax.names.Name.{Name}
use Rattle.spv_grammar.specs.reading.Readers.{Outcome, Read, front, after, is, Reader, name, and_then, behind, all_items, several_of, starting, headed_by, optional}
use Rattle.spv_grammar.specs.reading.StatementReaders.{read_constant}
use Rattle.spv_grammar.specs.reading.TypeReaders.{begins_name, read_type}
use Rattle.spv_grammar.specs.reading.DeclarationReaders.{read_const, read_name_or_class, read_sort, read_sorts, read_symbol, read_typedef, read_vars, read_declarations}
use Rattle.spv_grammar.specs.expected_tokens.Expected.{Expected, taken, opened, word_is, name_begins, taken_if, const_parts, typedef_parts, vars_parts, symbol_parts, predict}
use Rattle.spv_grammar.specs.expected_tokens.Expected as expected
use Rattle.spv_grammar.proofs.expected_tokens.Small.{nothing_behind}
use Rattle.spv_grammar.proofs.expected_tokens.Follows.{Follows, gives, one_less, open_at, take_first, follows_then, follows_past, follows_name, FollowsItem, no_item, an_item, follows_all, follows_behind, follows_several, follows_if, follows_optional, follows_ended}
use Rattle.spv_grammar.proofs.expected_tokens.StatementFollows.{constant_follows}
use Rattle.spv_grammar.proofs.expected_tokens.TypeFollows.{names_follow, type_follows}

abbrev pub at_line : ℕ → TokenKind → Token
at_line l k = record { kind = k; line = l }

pub with_kind : (t : Token) (k : TokenKind) → t.kind ≡ k → at_line t.line k ≡ t
with_kind t k e = ap (at_line t.line) (sym e)

-- ---- parts that begin with a name, behind a word

module _ {A : Type 0} {m : ℕ} (more : Expected) (parts : List Expected) (item : Reader A) (is_more : (o : Option TokenKind) → predict more o ≡ name_begins o (parts ++ more ∷ [])) (behind : (line : ℕ) (x : Symbol) (tokens : List Token) → Follows m parts tokens (item (at_line line (kind.Name x) ∷ tokens))) where
  starting_item : (tokens : List Token) → FollowsItem m more tokens (starting begins_name item tokens)
  starting_item [] = no_item [] (is_more None)
  starting_item (t ∷ tokens) = by_kind t.kind refl
    where
      by_kind : (k : TokenKind) → t.kind ≡ k → FollowsItem m more (t ∷ tokens) (if begins_name (Some k) then Some (item (t ∷ tokens)) else None)
      by_kind (kind.Name x) e =
          an_item t tokens parts (item (t ∷ tokens)) (is_more (Some t.kind) ∙ ap (λ k. name_begins (Some k) (parts ++ more ∷ [])) e) (subst (λ (u : Token). Follows m parts tokens (item (u ∷ tokens))) (with_kind t (kind.Name x) e) (behind t.line x tokens))
      by_kind k e = no_item (t ∷ tokens) (is_more (Some t.kind) ∙ ap (λ l. name_begins (Some l) (parts ++ more ∷ [])) e)

  pub headed_follows : (p : Expected) (k : TokenKind) → ((o : Option TokenKind) → predict p o ≡ word_is k o (expected.name ∷ parts ++ more ∷ [])) → ((tokens : List Token) → Follows m (expected.name ∷ parts) tokens (item tokens)) → (tokens : List Token) → Follows m (p ∷ []) tokens (headed_by k begins_name item tokens)
  headed_follows p k is_word whole tokens =
      follows_if p (expected.name ∷ parts ++ more ∷ []) k tokens is_word (ending (after tokens) (follows_then (whole (after tokens)) (λ x mid. follows_then (follows_all more [] ◌∷◌ (starting begins_name item) starting_item mid) (λ xs rest. gives m rest (x ∷ xs))))) (gives m tokens [])
    where
      all_of : List Token → Outcome (List A)
      all_of rest = and_then (item rest) (λ x mid. and_then (all_items [] ◌∷◌ (starting begins_name item) mid) (λ xs last. Read (x ∷ xs, last)))

      ending : (rest : List Token) → Follows m (expected.name ∷ parts ++ more ∷ []) rest (all_of rest) → Follows m ((expected.name ∷ parts ++ more ∷ []) ++ []) rest (all_of rest)
      ending rest f = subst (λ (qs : List Expected). Follows m qs rest (all_of rest)) (sym (nothing_behind (expected.name ∷ parts ++ more ∷ []))) f

-- ---- constants

const_behind : {m : ℕ} (line : ℕ) (x : Symbol) (tokens : List Token) → Follows m (const_parts []) tokens (read_const (at_line line (kind.Name x) ∷ tokens))
const_behind {m} line x tokens = follows_past _ tokens (λ last. follows_then (follows_ended (kind.Sign sign.Semicolon) read_constant last (constant_follows last)) (λ c rest. gives m rest (record { line = line; name = record { line = line; symbol = x }; value = c })))

const_follows : {m : ℕ} (tokens : List Token) → Follows m (expected.name ∷ const_parts []) tokens (read_const tokens)
const_follows {m} tokens =
    follows_then (follows_name tokens) (λ x mid. follows_past _ mid (λ last. follows_then (follows_ended (kind.Sign sign.Semicolon) read_constant last (constant_follows last)) (λ c rest. gives m rest (record { line = first_line tokens; name = x; value = c }))))

pub consts_follow : {m : ℕ} (tokens : List Token) → Follows m (expected.const_part ∷ []) tokens (headed_by (kind.Word word.Const) begins_name read_const tokens)
consts_follow tokens = headed_follows expected.more_consts (const_parts []) read_const (λ o. refl) const_behind expected.const_part (kind.Word word.Const) (λ o. refl) const_follows tokens

-- ---- sorts

-- a part that may have a word or sign before it
pub follows_maybe : {A : Type 0} {m : ℕ} (p : Expected) (parts : List Expected) (k : TokenKind) (tokens : List Token) {some none : Outcome A} → ((o : Option TokenKind) → predict p o ≡ taken_if (is k o) parts) → Follows m (parts ++ []) (after tokens) some → Follows m (parts ++ []) tokens none → Follows m (p ∷ []) tokens (if is k (front tokens) then some else none)
follows_maybe {A} {m} p parts k [] {some} {none} is_taken f g = open_at m p [] parts none [] None refl (is_taken None) g
follows_maybe {A} {m} p parts k (t ∷ tokens) {some} {none} is_taken f g = by_test (is k (Some t.kind)) refl
  where
    by_test : (b : Bool) → is k (Some t.kind) ≡ b → Follows m (p ∷ []) (t ∷ tokens) (if b then some else none)
    by_test true e = one_less (take_first m p [] parts some t tokens (is_taken (Some t.kind) ∙ ap (λ b. taken_if b parts) e) f)
    by_test false e = open_at m p [] parts none (t ∷ tokens) (Some t.kind) refl (is_taken (Some t.kind) ∙ ap (λ b. taken_if b parts) e) g

pub name_or_class_follows : {m : ℕ} (tokens : List Token) → Follows m (expected.sort ∷ []) tokens (read_name_or_class tokens)
name_or_class_follows {m} tokens =
    follows_maybe expected.sort (expected.name ∷ []) (kind.Sign sign.Hash) tokens (λ o. refl) (follows_then (follows_name (after tokens)) (λ x rest. gives m rest (either.Class x))) (follows_then (follows_name tokens) (λ x rest. gives m rest (either.Name x)))

pub sort_follows : {m : ℕ} (tokens : List Token) → Follows m (expected.sort ∷ []) tokens (read_sort tokens)
sort_follows {m} tokens = follows_then (name_or_class_follows tokens) (λ x rest. gives m rest (record { line = first_line tokens; form = x }))

sorts_follow : {m : ℕ} (tokens : List Token) → Follows m (expected.sort ∷ expected.more_sorts ∷ expected.token (kind.Sign sign.CloseParenthesis) ∷ []) tokens (read_sorts tokens)
sorts_follow tokens = follows_ended (kind.Sign sign.CloseParenthesis) (several_of (kind.Sign sign.Comma) read_sort) tokens (follows_several expected.more_sorts (expected.sort ∷ []) (kind.Sign sign.Comma) read_sort (λ o. refl) sort_follows tokens)

arguments_follow : {m : ℕ} (tokens : List Token) → Follows m (expected.argument_part ∷ []) tokens (optional (kind.Sign sign.OpenParenthesis) read_sorts tokens)
arguments_follow tokens = follows_optional expected.argument_part (expected.sort ∷ expected.more_sorts ∷ expected.token (kind.Sign sign.CloseParenthesis) ∷ []) (kind.Sign sign.OpenParenthesis) read_sorts (λ o. refl) sorts_follow tokens

symbol_behind : {m : ℕ} (line : ℕ) (x : Symbol) (tokens : List Token) → Follows m (symbol_parts []) tokens (read_symbol (at_line line (kind.Name x) ∷ tokens))
symbol_behind {m} line x tokens =
    follows_then (arguments_follow tokens) (λ arguments last. follows_past _ last (λ next. follows_then (follows_ended (kind.Sign sign.Semicolon) read_sort next (sort_follows next)) (λ s rest. gives m rest (record { line = line; name = record { line = line; symbol = x }; arguments = arguments; result = s }))))

symbol_follows : {m : ℕ} (tokens : List Token) → Follows m (expected.name ∷ symbol_parts []) tokens (read_symbol tokens)
symbol_follows {m} tokens =
    follows_then (follows_name tokens) (λ x mid. follows_then (arguments_follow mid) (λ arguments last. follows_past _ last (λ next. follows_then (follows_ended (kind.Sign sign.Semicolon) read_sort next (sort_follows next)) (λ s rest. gives m rest (record { line = first_line tokens; name = x; arguments = arguments; result = s })))))

symbols_follow : {m : ℕ} (tokens : List Token) → Follows m (expected.declare_part ∷ []) tokens (headed_by (kind.Word word.Declare) begins_name read_symbol tokens)
symbols_follow tokens = headed_follows expected.more_symbols (symbol_parts []) read_symbol (λ o. refl) symbol_behind expected.declare_part (kind.Word word.Declare) (λ o. refl) symbol_follows tokens

-- ---- types and variables

module _ (n : ℕ) where
  typedef_behind : (line : ℕ) (x : Symbol) (tokens : List Token) → Follows n (typedef_parts []) tokens (read_typedef n (at_line line (kind.Name x) ∷ tokens))
  typedef_behind line x tokens = follows_past _ tokens (λ last. follows_then (follows_ended (kind.Sign sign.Semicolon) (read_type n) last (type_follows n last)) (λ t rest. gives n rest (record { line = line; name = record { line = line; symbol = x }; of = t })))

  typedef_follows : (tokens : List Token) → Follows n (expected.name ∷ typedef_parts []) tokens (read_typedef n tokens)
  typedef_follows tokens =
      follows_then (follows_name tokens) (λ x mid. follows_past _ mid (λ last. follows_then (follows_ended (kind.Sign sign.Semicolon) (read_type n) last (type_follows n last)) (λ t rest. gives n rest (record { line = first_line tokens; name = x; of = t }))))

  typedefs_follow : (tokens : List Token) → Follows n (expected.type_part ∷ []) tokens (headed_by (kind.Word word.Type) begins_name (read_typedef n) tokens)
  typedefs_follow tokens = headed_follows expected.more_typedefs (typedef_parts []) (read_typedef n) (λ o. refl) typedef_behind expected.type_part (kind.Word word.Type) (λ o. refl) typedef_follows tokens

  pub names_behind : {m : ℕ} (x : Name) (tokens : List Token) → Follows {A = Several Name} m (expected.more_names ∷ []) tokens (and_then (all_items [] ◌∷◌ (behind (kind.Sign sign.Comma) name) tokens) (λ xs rest. Read (record { first = x; more = xs }, rest)))
  names_behind {m} x tokens =
      follows_then (follows_all expected.more_names [] ◌∷◌ (behind (kind.Sign sign.Comma) name) (follows_behind expected.more_names (expected.name ∷ []) (kind.Sign sign.Comma) name (λ o. refl) follows_name) tokens) (λ xs rest. gives m rest (record { first = x; more = xs }))

  vars_behind : (line : ℕ) (x : Symbol) (tokens : List Token) → Follows n (vars_parts []) tokens (read_vars n (at_line line (kind.Name x) ∷ tokens))
  vars_behind line x tokens =
      follows_then (names_behind (record { line = line; symbol = x }) tokens) (λ xs mid. follows_past _ mid (λ last. follows_then (follows_ended (kind.Sign sign.Semicolon) (read_type n) last (type_follows n last)) (λ t rest. gives n rest (record { line = line; names = xs; of = t }))))

  vars_follows : (tokens : List Token) → Follows n (expected.name ∷ vars_parts []) tokens (read_vars n tokens)
  vars_follows tokens =
      follows_then (names_follow tokens) (λ xs mid. follows_past _ mid (λ last. follows_then (follows_ended (kind.Sign sign.Semicolon) (read_type n) last (type_follows n last)) (λ t rest. gives n rest (record { line = first_line tokens; names = xs; of = t }))))

  pub variables_follow : (tokens : List Token) → Follows n (expected.var_part ∷ []) tokens (headed_by (kind.Word word.Var) begins_name (read_vars n) tokens)
  variables_follow tokens = headed_follows expected.more_vars (vars_parts []) (read_vars n) (λ o. refl) vars_behind expected.var_part (kind.Word word.Var) (λ o. refl) vars_follows tokens

  pub declarations_follow : (tokens : List Token) → Follows n (expected.const_part ∷ expected.type_part ∷ expected.var_part ∷ expected.declare_part ∷ []) tokens (read_declarations n tokens)
  declarations_follow tokens =
      follows_then (consts_follow tokens) (λ constants mid. follows_then (typedefs_follow mid) (λ types last. follows_then (variables_follow last) (λ variables next. follows_then (symbols_follow next) (λ symbols rest. gives n rest (record { line = first_line tokens; constants = constants; types = types; variables = variables; symbols = symbols })))))
