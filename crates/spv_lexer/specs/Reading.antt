-- The reading of a text: its pieces one after the other, each the front of what is left.
use Rattle.std.specs.Prelude.{◌≡◌, ℕ, zero, suc, ◌+◌, ◌==◌, List, [], ◌∷◌, Option, Some, None, length, take, drop, map, count_by}
use Rattle.spv_lexer.specs.Spelling.{Spelling}
use Rattle.spv_lexer.specs.Front.{Fault, Front, nothing, gap, token, fault, front}

-- a token as it is spelled, with the line of its first byte
pub record Spelled : Type 0 where
  pub kind : Spelling
  pub line : ℕ

-- the tokens before the first fault, and that fault with its line, if there is one
pub record Reading : Type 0 where
  pub tokens : List Spelled
  pub stop : Option (Fault × ℕ)

-- the reading of an empty text
abbrev pub empty_reading : Reading
empty_reading = record { tokens = []; stop = None }

-- a reading with a token put in front
abbrev pub with_token : Spelled → Reading → Reading
with_token t r = record { tokens = t ∷ r.tokens; stop = r.stop }

-- the line on which a text goes on, after its first k bytes
abbrev pub line_after : ℕ → ℕ → List ℕ → ℕ
line_after line k text = line + count_by (λ b. b == 10) (take k text)

-- what is read of a text with this front, where `rest` reads what stands behind the front
unfoldable pub by_front : (ℕ → List ℕ → Reading) → ℕ → List ℕ → Front → Reading
by_front rest line text nothing = empty_reading
by_front rest line text (gap k) = rest (line_after line k text) (drop k text)
by_front rest line text (token kind k) =
    with_token (record { kind = kind; line = line }) (rest (line_after line k text) (drop k text))
by_front rest line text (fault f) = record { tokens = []; stop = Some (f, line) }

-- what the first n pieces of a text are read as
unfoldable pub pieces : ℕ → ℕ → List ℕ → Reading
pieces zero line text = empty_reading
pieces (suc n) line text = by_front (pieces n) line text (front text)

-- the reading of a text that begins on the line: it has no more pieces than bytes
unfoldable pub reading_from : ℕ → List ℕ → Reading
reading_from line text = pieces (length text) line text

-- the reading of a whole text
abbrev pub reading : List ℕ → Reading
reading text = reading_from 1 text

-- the kinds of the tokens of a text, without their lines
abbrev pub kinds : List ℕ → List Spelling
kinds text = map (λ t. t.kind) (reading text).tokens

-- the text is one blank or one whole comment
abbrev pub IsGap : List ℕ → Type 0
IsGap text = front text ≡ gap (length text)

-- the whole text is read: nothing in it is refused
abbrev pub HasTokens : List ℕ → Type 0
HasTokens text = (reading text).stop ≡ None
