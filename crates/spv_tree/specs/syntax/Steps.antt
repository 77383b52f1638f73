-- On which lines the parts of a tree begin, beside the tokens.
use Rattle.std.specs.Prelude.{ℕ, Bool, true, false, ◌&&◌, List, [], ◌∷◌, nat_eq}
use Rattle.spv_tree.specs.declared.tokens.token.Token.{Token}

-- what comes next: a part begins, which has this line, or a token passes by
pub data Step : Type 0 where
  begins : ℕ → Step
  passes : Step

-- the line of the first token, or 1
abbrev pub first_line : List Token → ℕ
first_line [] = 1
first_line (t ∷ tokens) = t.line

-- whether each part has the line of the token at which it begins
unfoldable pub lines_agree : List Step → List Token → Bool
lines_agree [] tokens = true
lines_agree (begins line ∷ steps) tokens = nat_eq line (first_line tokens) && lines_agree steps tokens
lines_agree (passes ∷ steps) [] = false
lines_agree (passes ∷ steps) (t ∷ tokens) = lines_agree steps tokens
