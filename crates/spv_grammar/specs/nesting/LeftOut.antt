-- Words that are known and belong to nothing that is accepted.
use Rattle.std.specs.Prelude.{ℕ, Bool, true, false, if◌then◌else◌, List, [], ◌∷◌, Option, Some, None}
use Rattle.spv_tree.specs.declared.tokens.token.Token.{Token}
use Rattle.spv_tree.specs.declared.tokens.token.TokenKind.{TokenKind}
use Rattle.spv_tree.specs.declared.tokens.token.TokenKind.TheVariants as kind
use Rattle.spv_tree.specs.declared.tokens.token.Word.{Word}
use Rattle.spv_tree.specs.declared.tokens.token.Word.TheVariants as word

abbrev pub is_left_out : Word → Bool
is_left_out word.Packed = true
is_left_out word.Set = true
is_left_out word.File = true
is_left_out word.With = true
is_left_out word.In = true
is_left_out word.Goto = true
is_left_out word.Label = true
is_left_out _ = false

-- the left-out word that a token is
abbrev pub left_out_word : TokenKind → Option Word
left_out_word (kind.Word w) = if is_left_out w then Some w else None
left_out_word _ = None

-- this word with its line, or what is found behind it
abbrev pub found_at : Option Word → ℕ → Option (ℕ × Word) → Option (ℕ × Word)
found_at (Some w) line others = Some (line, w)
found_at None line others = others

-- the first left-out word, and its line
abbrev pub left_out : List Token → Option (ℕ × Word)
left_out [] = None
left_out (t ∷ tokens) = found_at (left_out_word t.kind) t.line (left_out tokens)
