-- Selectors and factors, as their readers take them apart.
use Rattle.std.specs.Prelude.{ℕ, zero, suc, Bool, true, false, Option, Some}
use Rattle.spv_tree.specs.declared.tokens.token.TokenKind.{TokenKind}
use Rattle.spv_tree.specs.declared.tokens.token.TokenKind.TheVariants as kind
use Rattle.spv_tree.specs.declared.tokens.token.Sign.TheVariants as sign
use Rattle.spv_tree.specs.syntax.Formulas.{Formula, Factor, class, negation, Selector, content}
use Rattle.spv_tree.specs.syntax.Steps.{first_line}
use Rattle.spv_grammar.specs.reading.Readers.{front, after, Read, Reader, misfit, nothing, and_then, name}
use Rattle.spv_grammar.specs.reading.FormulaReaders.{read_field, read_index, factor_by, read_inner, read_factor}

-- whether a selector begins with the token
abbrev pub begins_selector : Option TokenKind → Bool
begins_selector (Some (kind.Sign sign.OpenBracket)) = true
begins_selector (Some (kind.Sign sign.Period)) = true
begins_selector (Some (kind.Sign sign.Caret)) = true
begins_selector _ = false

abbrev pub selector_on : Reader Formula → Option TokenKind → Reader Selector
selector_on inner (Some (kind.Sign sign.OpenBracket)) tokens = read_index inner (first_line tokens) (after tokens)
selector_on inner (Some (kind.Sign sign.Period)) tokens = read_field (first_line tokens) (after tokens)
selector_on inner (Some (kind.Sign sign.Caret)) tokens = Read (content (first_line tokens), after tokens)
selector_on inner _ tokens = misfit tokens

-- "[" formula {"," formula} "]" | "." name | "^"
abbrev pub read_selector : Reader Formula → Reader Selector
read_selector inner tokens = selector_on inner (front tokens) tokens

-- "#" name, behind the sign on this line
abbrev pub read_class : ℕ → Reader Factor
read_class line tokens = and_then (name tokens) (λ x rest. Read (class line x, rest))

-- a factor one level down
abbrev pub read_below : ℕ → Reader Factor
read_below zero tokens = nothing tokens
read_below (suc n) tokens = read_factor n tokens

-- NOT factor, behind NOT on this line
abbrev pub read_negation : ℕ → ℕ → Reader Factor
read_negation n line tokens = and_then (read_below n tokens) (λ f rest. Read (negation line f, rest))

-- a factor by its first token
abbrev pub factor_at : ℕ → Reader Factor
factor_at n tokens = factor_by (read_inner n) (read_below n) (front tokens) tokens
