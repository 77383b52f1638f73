-- Lines of tokens.
use Rattle.std.specs.Prelude.{◌≡◌, ℕ, ◌-◌, List, Option, Some, None, length, drop, slice_get}
use Rattle.spv_tree.specs.declared.tokens.token.Token.{Token}
use Rattle.spv_tree.specs.syntax.Steps.{first_line}

-- the line of the last token, or 1
abbrev pub last_line : List Token → ℕ
last_line tokens = first_line (drop (length tokens - 1) tokens)

-- the line of this token, or another one
abbrev pub line_or : ℕ → Option Token → ℕ
line_or line None = line
line_or line (Some t) = t.line

-- the line of the first of so many last tokens; of none of them, that of the last token, or 1
abbrev pub line_where : List Token → ℕ → ℕ
line_where tokens left = line_or (last_line tokens) (slice_get tokens (length tokens - left))

-- it is the line of one of the tokens, or 1 where there is none
pub record IsLineAmong (tokens : List Token) (line : ℕ) : Type 0 where
  pub left : ℕ
  pub is : line ≡ line_where tokens left
