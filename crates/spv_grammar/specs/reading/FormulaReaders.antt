-- How formulas and designators are read.
use Rattle.std.specs.Prelude.{ℕ, zero, suc, true, false, if◌then◌else◌, Option, Some, None}
use Rattle.spv_tree.specs.declared.tokens.token.TokenKind.{TokenKind}
use Rattle.spv_tree.specs.declared.tokens.token.TokenKind.TheVariants as kind
use Rattle.spv_tree.specs.declared.tokens.token.Word.TheVariants as word
use Rattle.spv_tree.specs.declared.tokens.token.Sign.TheVariants as sign
use Rattle.spv_tree.specs.declared.syntax.names.Name.{Name}
use Rattle.spv_tree.specs.declared.syntax.operators.PlusOrMinus.{PlusOrMinus}
use Rattle.spv_tree.specs.declared.syntax.operators.PlusOrMinus.TheVariants as prefix
use Rattle.spv_tree.specs.declared.syntax.operators.Comparison.{Comparison}
use Rattle.spv_tree.specs.declared.syntax.operators.Comparison.TheVariants as comparison
use Rattle.spv_tree.specs.declared.syntax.operators.Adding.{Adding}
use Rattle.spv_tree.specs.declared.syntax.operators.Adding.TheVariants as adding
use Rattle.spv_tree.specs.declared.syntax.operators.Multiplying.{Multiplying}
use Rattle.spv_tree.specs.declared.syntax.operators.Multiplying.TheVariants as multiplying
use Rattle.spv_tree.specs.syntax.Formulas.{Formula, formula, Conclusion, no_conclusion, implies, Relation, relation, RightSide, no_right_side, compared, Simple, simple, MoreTerms, no_more_terms, more_terms, Term, term, MoreFactors, no_more_factors, more_factors, Factor, number, truth, nil, class, place, application, bracketed, negation, MoreFormulas, no_more_formulas, more_formulas, Designator, designator, Selectors, no_selectors, selectors, Selector, index, field, content}
use Rattle.spv_tree.specs.syntax.Steps.{first_line}
use Rattle.spv_grammar.specs.reading.Readers.{front, after, is, Read, Reader, misfit, nothing, and_then, past, name, Next, behind, operated, all_items}

-- ---- operators

abbrev pub prefix_of : Option TokenKind → Option PlusOrMinus
prefix_of (Some (kind.Sign sign.Plus)) = Some prefix.Plus
prefix_of (Some (kind.Sign sign.Minus)) = Some prefix.Minus
prefix_of _ = None

abbrev pub comparison_of : Option TokenKind → Option Comparison
comparison_of (Some (kind.Sign sign.Equal)) = Some comparison.Equal
comparison_of (Some (kind.Sign sign.NotEqual)) = Some comparison.NotEqual
comparison_of (Some (kind.Sign sign.Less)) = Some comparison.Less
comparison_of (Some (kind.Sign sign.AtMost)) = Some comparison.AtMost
comparison_of (Some (kind.Sign sign.Greater)) = Some comparison.Greater
comparison_of (Some (kind.Sign sign.AtLeast)) = Some comparison.AtLeast
comparison_of _ = None

abbrev pub adding_of : Option TokenKind → Option Adding
adding_of (Some (kind.Sign sign.Plus)) = Some adding.Plus
adding_of (Some (kind.Sign sign.Minus)) = Some adding.Minus
adding_of (Some (kind.Word word.Or)) = Some adding.Or
adding_of _ = None

abbrev pub multiplying_of : Option TokenKind → Option Multiplying
multiplying_of (Some (kind.Sign sign.Star)) = Some multiplying.Times
multiplying_of (Some (kind.Word word.Div)) = Some multiplying.Div
multiplying_of (Some (kind.Word word.Mod)) = Some multiplying.Mod
multiplying_of (Some (kind.Word word.And)) = Some multiplying.And
multiplying_of _ = None

-- ---- what stands inside brackets is read by `inner`

-- "." name, without the period
abbrev pub read_field : ℕ → Reader Selector
read_field line tokens = and_then (name tokens) (λ x rest. Read (field line x, rest))

module _ (inner : Reader Formula) where
  -- {"," formula}
  abbrev pub read_more_formulas : Reader MoreFormulas
  read_more_formulas tokens = all_items no_more_formulas more_formulas (behind (kind.Sign sign.Comma) inner) tokens

  -- "[" formula {"," formula} "]", without the first bracket
  abbrev pub read_index : ℕ → Reader Selector
  read_index line tokens = and_then (inner tokens) (λ f mid. and_then (read_more_formulas mid) (λ more last. past (kind.Sign sign.CloseBracket) last (λ rest. Read (index line f more, rest))))

  abbrev pub selector_by : Option TokenKind → Next Selector
  selector_by (Some (kind.Sign sign.OpenBracket)) tokens = Some (read_index (first_line tokens) (after tokens))
  selector_by (Some (kind.Sign sign.Period)) tokens = Some (read_field (first_line tokens) (after tokens))
  selector_by (Some (kind.Sign sign.Caret)) tokens = Some (Read (content (first_line tokens), after tokens))
  selector_by _ tokens = None

  -- {selector}
  abbrev pub read_selectors : Reader Selectors
  read_selectors tokens = all_items no_selectors selectors (λ rest. selector_by (front rest) rest) tokens

  -- "(" formula {"," formula} ")" {selector}, without the first bracket, behind a name
  abbrev pub read_application : Name → Reader Factor
  read_application f tokens =
      and_then (inner tokens) (λ argument mid. and_then (read_more_formulas mid) (λ more last. past (kind.Sign sign.CloseParenthesis) last (λ next. and_then (read_selectors next) (λ selected rest. Read (application f.line f argument more selected, rest)))))

  -- {selector}, behind a name
  abbrev pub read_place : Name → Reader Factor
  read_place x tokens = and_then (read_selectors tokens) (λ selected rest. Read (place x.line (designator x.line x selected), rest))

  -- what begins with a name
  abbrev pub read_named : Name → Reader Factor
  read_named x tokens = if is (kind.Sign sign.OpenParenthesis) (front tokens) then read_application x (after tokens) else read_place x tokens

  -- "(" formula ")", without the first bracket
  abbrev pub read_bracketed : ℕ → Reader Factor
  read_bracketed line tokens = and_then (inner tokens) (λ f last. past (kind.Sign sign.CloseParenthesis) last (λ rest. Read (bracketed line f, rest)))

  -- name {selector}
  abbrev pub read_designator : Reader Designator
  read_designator tokens = and_then (name tokens) (λ x mid. and_then (read_selectors mid) (λ selected rest. Read (designator x.line x selected, rest)))

  -- a factor, where `below` reads the factor behind NOT
  abbrev pub factor_by : Reader Factor → Option TokenKind → Reader Factor
  factor_by below (Some (kind.Number n)) tokens = Read (number (first_line tokens) n, after tokens)
  factor_by below (Some (kind.Word word.True)) tokens = Read (truth (first_line tokens) true, after tokens)
  factor_by below (Some (kind.Word word.False)) tokens = Read (truth (first_line tokens) false, after tokens)
  factor_by below (Some (kind.Word word.Nil)) tokens = Read (nil (first_line tokens), after tokens)
  factor_by below (Some (kind.Word word.Not)) tokens = and_then (below (after tokens)) (λ f rest. Read (negation (first_line tokens) f, rest))
  factor_by below (Some (kind.Sign sign.Hash)) tokens = and_then (name (after tokens)) (λ x rest. Read (class (first_line tokens) x, rest))
  factor_by below (Some (kind.Sign sign.OpenParenthesis)) tokens = read_bracketed (first_line tokens) (after tokens)
  factor_by below (Some (kind.Name x)) tokens = read_named (record { line = first_line tokens; symbol = x }) (after tokens)
  factor_by below _ tokens = misfit tokens

-- ["->" formula]
abbrev pub read_conclusion : Reader Formula → Reader Conclusion
read_conclusion inner tokens =
    if is (kind.Sign sign.Arrow) (front tokens) then and_then (inner (after tokens)) (λ f rest. Read (implies f, rest)) else Read (no_conclusion, tokens)

-- ---- sums, relations and formulas, where `factor` reads factors

module _ (factor : Reader Factor) where
  -- {("*" | DIV | MOD | AND) factor}
  abbrev pub read_more_factors : Reader MoreFactors
  read_more_factors tokens = all_items no_more_factors (λ p. more_factors p.0 p.1) (λ rest. operated (multiplying_of (front rest)) factor rest) tokens

  abbrev pub read_term : Reader Term
  read_term tokens = and_then (factor tokens) (λ f mid. and_then (read_more_factors mid) (λ more rest. Read (term (first_line tokens) f more, rest)))

  -- {("+" | "-" | OR) term}
  abbrev pub read_more_terms : Reader MoreTerms
  read_more_terms tokens = all_items no_more_terms (λ p. more_terms p.0 p.1) (λ rest. operated (adding_of (front rest)) read_term rest) tokens

  -- term {("+" | "-" | OR) term}, behind the sign
  abbrev pub read_sum : ℕ → Option PlusOrMinus → Reader Simple
  read_sum line prefix tokens = and_then (read_term tokens) (λ t mid. and_then (read_more_terms mid) (λ more rest. Read (simple line prefix t more, rest)))

  abbrev pub simple_by : Option PlusOrMinus → Reader Simple
  simple_by None tokens = read_sum (first_line tokens) None tokens
  simple_by (Some s) tokens = read_sum (first_line tokens) (Some s) (after tokens)

  -- ["+" | "-"] term {("+" | "-" | OR) term}
  abbrev pub read_simple : Reader Simple
  read_simple tokens = simple_by (prefix_of (front tokens)) tokens

  abbrev pub right_side_by : Option Comparison → Reader RightSide
  right_side_by None tokens = Read (no_right_side, tokens)
  right_side_by (Some operator) tokens = and_then (read_simple (after tokens)) (λ s rest. Read (compared operator s, rest))

  -- simple [("=" | "<>" | "<" | "<=" | ">" | ">=") simple]
  abbrev pub read_relation : Reader Relation
  read_relation tokens = and_then (read_simple tokens) (λ s mid. and_then (right_side_by (comparison_of (front mid)) mid) (λ right rest. Read (relation (first_line tokens) s right, rest)))

  -- relation ["->" formula]
  abbrev pub formula_by : Reader Formula → Reader Formula
  formula_by inner tokens = and_then (read_relation tokens) (λ r mid. and_then (read_conclusion inner mid) (λ c rest. Read (formula (first_line tokens) r c, rest)))

-- ---- formulas inside one another, n levels at most

abbrev mutual
  -- a formula one level down
  pub read_inner : ℕ → Reader Formula
  read_inner zero tokens = nothing tokens
  read_inner (suc n) tokens = formula_by (read_factor n) (read_inner n) tokens

  pub read_factor : ℕ → Reader Factor
  read_factor zero tokens = factor_by nothing nothing (front tokens) tokens
  read_factor (suc n) tokens = factor_by (formula_by (read_factor n) (read_inner n)) (read_factor n) (front tokens) tokens

-- relation ["->" formula]
abbrev pub read_formula : ℕ → Reader Formula
read_formula n tokens = formula_by (read_factor n) (read_inner n) tokens
