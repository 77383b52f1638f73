-- When tokens are refused, and why.
use Rattle.std.specs.Prelude.{◌≡◌, List, Some, None}
use Rattle.spv_tree.specs.declared.tokens.token.Token.{Token}
use Rattle.spv_grammar.specs.nesting.LeftOut.{left_out}
use Rattle.spv_grammar.specs.nesting.Level.{too_deep}
use Rattle.spv_grammar.specs.first_sets.Lines.{line_where}
use Rattle.spv_grammar.specs.first_sets.Begins.{GoesWrongAt}
use Rattle.spv_formula_parser.specs.declared.primitives.fault.Fault.{Fault}
use Rattle.spv_formula_parser.specs.declared.primitives.fault.Fault.TheVariants as fault
use Rattle.spv_parser.specs.declared.refused.SyntaxFault.{SyntaxFault}
use Rattle.spv_parser.specs.declared.refused.SyntaxFault.TheVariants.{Profile, TooDeep, Syntax, Memory}

-- no word is left out of the language, and nothing is too deep
pub record IsAllowed (tokens : List Token) : Type 0 where
  pub known : left_out tokens ≡ None
  pub shallow : too_deep tokens ≡ None

-- a left-out word stands there, or the text is too deep; want of memory has no cause in the tokens
abbrev pub IsForbidden : List Token → SyntaxFault → Type 0
IsForbidden tokens (Profile line word) = left_out tokens ≡ Some (line, word)
IsForbidden tokens (TooDeep line) = (left_out tokens ≡ None) × (too_deep tokens ≡ Some line)
IsForbidden tokens (Syntax line) = ⊥
IsForbidden tokens Memory = Unit {0}

-- the refusal that a fault of reading becomes; a want of levels is told as a want of memory
abbrev pub IsRefusalOf : List Token → Fault → SyntaxFault → Type 0
IsRefusalOf tokens (fault.Syntax left) (Syntax line) = line ≡ line_where tokens left
IsRefusalOf tokens (fault.Deep left) Memory = Unit {0}
IsRefusalOf tokens fault.Memory Memory = Unit {0}
IsRefusalOf tokens _ _ = ⊥

-- the fault is that of the tokens, where trees of this kind are read so; where no tree reads them the line is the one at which they go
-- wrong, and want of memory has no cause in them
abbrev pub HasTreeCause : {A : Type 0} → (List Token → A → Type 0) → List Token → SyntaxFault → Type 0
HasTreeCause reads tokens (Profile line word) = left_out tokens ≡ Some (line, word)
HasTreeCause reads tokens (TooDeep line) = (left_out tokens ≡ None) × (too_deep tokens ≡ Some line)
HasTreeCause {A} reads tokens (Syntax line) = IsAllowed tokens × ((x : A) → reads tokens x → ⊥) × GoesWrongAt reads tokens line
HasTreeCause reads tokens Memory = Unit {0}
