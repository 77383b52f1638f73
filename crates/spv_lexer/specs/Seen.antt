-- What the lexer's own answers say, in the words of the definition.
use Rattle.std.specs.Prelude.{◌≡◌, ℕ, ◌==◌, List, [], ◌∷◌, Option, Some, None, codes, count_by, if◌then◌else◌, nat_eq, take, take_while, ⊤}
use Rattle.std.specs.Char.{is_ascii_alphanumeric, is_ascii_digit}
use Rattle.std.specs.List.{starts_with}
use Rattle.spv_tree.specs.declared.tokens.token.Sign.TheVariants.{OpenParenthesis}
use Rattle.spv_tree.specs.declared.tokens.token.Token.{Token}
use Rattle.spv_tree.specs.declared.tokens.token.TokenKind.{TokenKind}
use Rattle.spv_lexer.specs.Spelling.{sign}
use Rattle.spv_lexer.specs.Front.{Front, gap, token, fault, nothing, comment, letters, numeral, bad_byte, open_comment, numeral_too_large}
use Rattle.spv_lexer.specs.Tokens.{kind_of, with_name}
use Rattle.spv_lexer.specs.declared.front.Front.{Front as Seen}
use Rattle.spv_lexer.specs.declared.front.Front.TheVariants.{LineFeed, Blank, Comment, Letters, Digits, ShortSign, LongSign, BadByte, OpenComment}
use Rattle.spv_lexer.specs.declared.lexer.Piece.{Piece}
use Rattle.spv_lexer.specs.declared.LexFault.{LexFault}
use Rattle.spv_lexer.specs.declared.LexFault.TheVariants.{BadByte as BadByteAt, OpenComment as OpenCommentAt, NumeralTooLarge as NumeralTooLargeAt, TextTooLong, Memory}

-- the front of a text at which the lexer saw this
abbrev pub front_seen : List ℕ → Seen → Front
front_seen text LineFeed = gap 1
front_seen text Blank = gap 1
front_seen text (Comment k) = gap k
front_seen text Letters = letters (take_while is_ascii_alphanumeric text)
front_seen text Digits = numeral (take_while is_ascii_digit text)
front_seen text (ShortSign s) = token (sign s) 1
front_seen text (LongSign s) = token (sign s) 2
front_seen text BadByte = fault bad_byte
front_seen text OpenComment = fault open_comment

-- a line ends in a line feed, and in no other blank
abbrev pub EndsLines : List ℕ → Seen → Type 0
EndsLines text LineFeed = count_by (λ b. b == 10) (take 1 text) ≡ 1
EndsLines text Blank = count_by (λ b. b == 10) (take 1 text) ≡ 0
EndsLines text (Comment k) = ⊤
EndsLines text Letters = ⊤
EndsLines text Digits = ⊤
EndsLines text (ShortSign s) = ⊤
EndsLines text (LongSign s) = ⊤
EndsLines text BadByte = ⊤
EndsLines text OpenComment = ⊤

-- what stands at the front of a text that begins with a left parenthesis
abbrev pub parenthesis_or_comment : List ℕ → Front
parenthesis_or_comment text = if starts_with nat_eq text (codes "(*") then comment (codes "(*") (codes "*)") text else token (sign OpenParenthesis) 1

-- the piece is this front, and takes the names from old to new
abbrev pub IsPieceOf : Front → List (List ℕ) → List (List ℕ) → Piece → Type 0
IsPieceOf nothing old new p = ⊥
IsPieceOf (gap k) old new p = (p.kind ≡ None) × (p.len ≡ k) × (new ≡ old)
IsPieceOf (token kind k) old new p = (p.kind ≡ Some (kind_of old kind)) × (p.len ≡ k) × (new ≡ with_name old kind)
IsPieceOf (fault f) old new p = ⊥

-- the token of a piece with this kind, if it has one
abbrev pub tokens_of : Option TokenKind → ℕ → List Token
tokens_of None line = []
tokens_of (Some kind) line = record { kind = kind; line = line } ∷ []

-- the refusal names this front, on this line
abbrev pub IsRefusalOf : Front → ℕ → LexFault → Type 0
IsRefusalOf front line (BadByteAt n) = (front ≡ fault bad_byte) × (n ≡ line)
IsRefusalOf front line (OpenCommentAt n) = (front ≡ fault open_comment) × (n ≡ line)
IsRefusalOf front line (NumeralTooLargeAt n) = (front ≡ fault numeral_too_large) × (n ≡ line)
IsRefusalOf front line TextTooLong = ⊥
IsRefusalOf front line Memory = Unit {0}
