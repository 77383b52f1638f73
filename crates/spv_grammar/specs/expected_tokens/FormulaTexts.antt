-- Formula texts, read to the end of their tokens, or to where they go wrong.
use Rattle.std.specs.Prelude.{ℕ, ◌+◌, if◌then◌else◌, List, [], ◌∷◌, Option, Some, None, length}
use Rattle.spv_tree.specs.declared.tokens.token.Token.{Token}
use Rattle.spv_tree.specs.declared.tokens.token.TokenKind.TheVariants as kind
use Rattle.spv_tree.specs.declared.tokens.token.Word.TheVariants as word
use Rattle.spv_tree.specs.declared.tokens.token.Sign.TheVariants as sign
use Rattle.spv_tree.specs.declared.syntax.formula_texts.FormulaText.{FormulaText}
use Rattle.spv_tree.specs.syntax.Formulas.{Formula}
use Rattle.spv_tree.specs.syntax.Steps.{first_line}
use Rattle.spv_grammar.specs.reading.Readers.{front, after, is, Stop, wrong, deep, Outcome, Read, Halted, Reader, and_then, past, name, ended}
use Rattle.spv_grammar.specs.reading.FormulaReaders.{read_formula}
use Rattle.spv_grammar.specs.reading.DeclarationReaders.{read_declarations}
use Rattle.spv_grammar.specs.reading.RuleReaders.{before_period}

-- of the tokens behind a whole formula, those from the first with which the text goes wrong: a period could have ended the text, so it is passed over
abbrev pub surplus : List Token → List Token
surplus rest = if is (kind.Sign sign.Period) (front rest) then after rest else rest

-- a stop in the tokens before the last one, as one in all of them
abbrev pub before_last : Stop → Stop
before_last (wrong left) = wrong (left + 1)
before_last (deep left) = deep (left + 1)

-- what comes of the tokens before the last period
abbrev pub up_to_period : Outcome Formula → Outcome Formula
up_to_period (Read (f, [])) = Read (f, [])
up_to_period (Read (f, t ∷ rest)) = Halted (wrong (length (surplus (t ∷ rest)) + 1))
up_to_period (Halted s) = Halted (before_last s)

-- what comes of tokens that no period ends
abbrev pub without_period : Outcome Formula → Outcome Formula
without_period (Read r) = Halted (wrong (length (surplus r.1)))
without_period (Halted s) = Halted s

-- PROGRAM name ";" decls ASSERT, and what is asserted: formulas have n levels at most
abbrev pub read_asserting : ℕ → Reader Formula → Reader FormulaText
read_asserting n asserted tokens =
    past (kind.Word word.Program) tokens (λ one. and_then (ended (kind.Sign sign.Semicolon) name one) (λ x two. and_then (read_declarations n two) (λ ds three. past (kind.Word word.Assert) three (λ four. and_then (asserted four) (λ f rest. Read (record { line = first_line tokens; name = x; declarations = ds; formula = f }, rest))))))

module _ (n : ℕ) where
  abbrev pub asserted_by : Option (List Token) → Reader Formula
  asserted_by None tokens = without_period (read_formula n tokens)
  asserted_by (Some inside) tokens = up_to_period (read_formula n inside)

  -- formula ".", to the end of the tokens
  abbrev pub whole_asserted : Reader Formula
  whole_asserted tokens = asserted_by (before_period tokens) tokens

  -- PROGRAM name ";" decls ASSERT formula ".", to the end of the tokens
  abbrev pub whole_formula_text : Reader FormulaText
  whole_formula_text tokens = read_asserting n whole_asserted tokens
