-- Tokens that begin a program, and tokens that do not.
use Rattle.std.specs.Prelude.{ℕ, List, [], ◌∷◌}
use Rattle.spv_logic.specs.declared.names.names.Symbol.{Symbol}
use Rattle.spv_tree.specs.declared.tokens.token.Token.{Token}
use Rattle.spv_tree.specs.declared.tokens.token.TokenKind.{TokenKind}
use Rattle.spv_tree.specs.declared.tokens.token.TokenKind.TheVariants as kind
use Rattle.spv_tree.specs.declared.tokens.token.Word.TheVariants as word
use Rattle.spv_tree.specs.declared.tokens.token.Sign.TheVariants as sign

abbrev pub on_line : ℕ → TokenKind → Token
on_line n k = record { kind = k; line = n }

-- "BEGIN", and on the next line "END."
abbrev pub small_block : List Token
small_block = on_line 2 (kind.Word word.Begin) ∷ on_line 3 (kind.Word word.End) ∷ on_line 3 (kind.Sign sign.Period) ∷ []

-- "PROGRAM x;", and such a block on the next lines
abbrev pub small_program : Symbol → List Token
small_program x = on_line 1 (kind.Word word.Program) ∷ on_line 1 (kind.Name x) ∷ on_line 1 (kind.Sign sign.Semicolon) ∷ small_block

-- the same without its last two tokens
abbrev pub cut_off : Symbol → List Token
cut_off x = on_line 1 (kind.Word word.Program) ∷ on_line 1 (kind.Name x) ∷ on_line 1 (kind.Sign sign.Semicolon) ∷ on_line 2 (kind.Word word.Begin) ∷ []

-- "PROGRAM", and such a block on the next lines
abbrev pub without_name : List Token
without_name = on_line 1 (kind.Word word.Program) ∷ small_block
