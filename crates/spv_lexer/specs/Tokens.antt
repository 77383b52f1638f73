-- The tokens of a text, with the names in a table.
use Rattle.std.specs.Prelude.{◌≡◌, ℕ, ◌<◌, List, [], ◌∷◌, Some, length, fold, ⊤}
use Rattle.spv_logic.specs.names.Names.{place_of, with_text}
use Rattle.spv_tree.specs.declared.tokens.token.Token.{Token}
use Rattle.spv_tree.specs.declared.tokens.token.TokenKind.{TokenKind}
use Rattle.spv_tree.specs.declared.tokens.token.TokenKind.TheVariants.{Word, Name, Number, Sign}
use Rattle.spv_lexer.specs.Spelling.{Spelling, word, name, number, sign}
use Rattle.spv_lexer.specs.Front.{bad_byte, open_comment, numeral_too_large}
use Rattle.spv_lexer.specs.Reading.{Spelled, reading}
use Rattle.spv_lexer.specs.declared.LexFault.{LexFault}
use Rattle.spv_lexer.specs.declared.LexFault.TheVariants.{BadByte, OpenComment, NumeralTooLarge, TextTooLong, Memory}

-- the names after a token: the text of a name is entered
abbrev pub with_name : List (List ℕ) → Spelling → List (List ℕ)
with_name names (word w) = names
with_name names (name text) = with_text names text
with_name names (number n) = names
with_name names (sign s) = names

-- the kind of a token, where a name is given by its number
abbrev pub kind_of : List (List ℕ) → Spelling → TokenKind
kind_of names (word w) = Word w
kind_of names (name text) = Name (record { 0 = place_of names text })
kind_of names (number n) = Number n
kind_of names (sign s) = Sign s

-- the names after these tokens, each entered in its turn
abbrev pub names_after : List (List ℕ) → List Spelled → List (List ℕ)
names_after names tokens = fold (λ table t. with_name table t.kind) names tokens

-- the tokens, where each name is given by its number in the table as it then is
unfoldable pub numbered : List (List ℕ) → List Spelled → List Token
numbered names [] = []
numbered names (t ∷ tokens) = record { kind = kind_of names t.kind; line = t.line } ∷ numbered (with_name names t.kind) tokens

-- a name is one of the table
abbrev pub IsInTable : List (List ℕ) → TokenKind → Type 0
IsInTable names (Word w) = ⊤
IsInTable names (Name s) = s.0 < length names
IsInTable names (Number n) = ⊤
IsInTable names (Sign s) = ⊤

-- when a text is refused so
abbrev pub HasTextCause : List ℕ → LexFault → Type 0
HasTextCause text (BadByte line) = (reading text).stop ≡ Some (bad_byte, line)
HasTextCause text (OpenComment line) = (reading text).stop ≡ Some (open_comment, line)
HasTextCause text (NumeralTooLarge line) = (reading text).stop ≡ Some (numeral_too_large, line)
HasTextCause text TextTooLong = 4194304 < length text
HasTextCause text Memory = ⊤
