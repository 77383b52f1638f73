-- What a tree is spelled in: where each part begins, and its tokens.
use Rattle.std.specs.Prelude.{ℕ, List, ◌∷◌, Option, Some, None}
use Rattle.spv_tree.specs.declared.tokens.token.TokenKind.{TokenKind}
use Rattle.spv_tree.specs.syntax.Steps.{Step, begins, passes}

-- what stands for the beginning of a part on this line, in front of what follows; the same of a part that may be there; and what
-- stands for a token of this kind
pub record Members (R : Type 0) : Type 0 where
  pub at : ℕ → List R → List R
  pub at_if : Option ℕ → List R → List R
  pub token : TokenKind → R

-- the kinds of the tokens alone
abbrev pub in_kinds : Members TokenKind
in_kinds = record { at = λ line rest. rest; at_if = λ line rest. rest; token = λ k. k }

abbrev pub begins_if : Option ℕ → List Step → List Step
begins_if None rest = rest
begins_if (Some line) rest = begins line ∷ rest

-- the lines on which parts begin, beside tokens of any kind
abbrev pub in_lines : Members Step
in_lines = record { at = λ line rest. begins line ∷ rest; at_if = begins_if; token = λ k. passes }
