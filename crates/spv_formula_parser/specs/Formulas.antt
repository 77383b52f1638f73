-- What is read behind a part of a formula that was read before.
use Rattle.std.specs.Prelude.{ℕ, Bool, true, false, Option, Some, None}
use Rattle.spv_tree.specs.declared.tokens.token.TokenKind.{TokenKind}
use Rattle.spv_tree.specs.declared.tokens.token.TokenKind.TheVariants as kind
use Rattle.spv_tree.specs.declared.tokens.token.Word.TheVariants as word
use Rattle.spv_tree.specs.declared.tokens.token.Sign.TheVariants as sign
use Rattle.spv_tree.specs.declared.syntax.operators.PlusOrMinus.{PlusOrMinus}
use Rattle.spv_tree.specs.syntax.Formulas.{Formula, formula, Relation, relation, Simple, simple, Term, term, Factor}
use Rattle.spv_tree.specs.syntax.Steps.{first_line}
use Rattle.spv_grammar.specs.reading.Readers.{front, Read, Reader, and_then}
use Rattle.spv_grammar.specs.reading.FormulaReaders.{comparison_of, read_more_factors, read_more_terms, right_side_by, read_conclusion}

module _ (factor : Reader Factor) where
  -- {("*" | DIV | MOD | AND) factor}, behind the factor
  abbrev pub term_from : ℕ → Factor → Reader Term
  term_from line f mid = and_then (read_more_factors factor mid) (λ more rest. Read (term line f more, rest))

  -- {("+" | "-" | OR) term}, behind the term
  abbrev pub sum_from : ℕ → Option PlusOrMinus → Term → Reader Simple
  sum_from line prefix t mid = and_then (read_more_terms factor mid) (λ more rest. Read (simple line prefix t more, rest))

  -- [("=" | "<>" | "<" | "<=" | ">" | ">=") simple], behind the left side
  abbrev pub relation_from : ℕ → Simple → Reader Relation
  relation_from line s mid = and_then (right_side_by factor (comparison_of (front mid)) mid) (λ right rest. Read (relation line s right, rest))

-- ["->" formula], behind the relation
abbrev pub formula_from : Reader Formula → ℕ → Relation → Reader Formula
formula_from inner line r mid = and_then (read_conclusion inner mid) (λ c rest. Read (formula line r c, rest))

-- all that may stand behind the first factor
abbrev pub from_factor : Reader Factor → Reader Formula → ℕ → Factor → Reader Formula
from_factor factor inner line f mid =
    and_then (and_then (and_then (term_from factor line f mid) (sum_from factor line None)) (relation_from factor line)) (formula_from inner line)

-- a formula that no sign begins
abbrev pub read_plain : Reader Factor → Reader Formula → Reader Formula
read_plain factor inner tokens = and_then (factor tokens) (from_factor factor inner (first_line tokens))

-- whether an operator or an arrow begins with the token
abbrev pub goes_on : Option TokenKind → Bool
goes_on (Some (kind.Sign sign.Star)) = true
goes_on (Some (kind.Sign sign.Plus)) = true
goes_on (Some (kind.Sign sign.Minus)) = true
goes_on (Some (kind.Sign sign.Equal)) = true
goes_on (Some (kind.Sign sign.NotEqual)) = true
goes_on (Some (kind.Sign sign.Less)) = true
goes_on (Some (kind.Sign sign.AtMost)) = true
goes_on (Some (kind.Sign sign.Greater)) = true
goes_on (Some (kind.Sign sign.AtLeast)) = true
goes_on (Some (kind.Sign sign.Arrow)) = true
goes_on (Some (kind.Word word.Div)) = true
goes_on (Some (kind.Word word.Mod)) = true
goes_on (Some (kind.Word word.And)) = true
goes_on (Some (kind.Word word.Or)) = true
goes_on _ = false
