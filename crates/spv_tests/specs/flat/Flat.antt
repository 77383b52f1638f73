-- What a call that adds tokens does, where `spelled` says what they are in front of others.
use Rattle.std.specs.Prelude.{◌≡◌, List, ◌++◌}
use Rattle.spv_tree.specs.declared.tokens.token.TokenKind.{TokenKind}

-- it added these and no others
abbrev pub Adds : (List TokenKind → List TokenKind) → List TokenKind → List TokenKind → Type 0
Adds spelled old new = (rest : List TokenKind) → new ++ rest ≡ old ++ spelled rest
