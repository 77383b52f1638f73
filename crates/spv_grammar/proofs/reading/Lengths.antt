-- A formula has at least as many tokens as levels.
use Rattle.std.proofs.Common.{suc, ◌+◌, ◌≤◌, List, ◌∷◌, Option, Some, None, length, arith}
use Rattle.spv_tree.specs.declared.tokens.token.TokenKind.{TokenKind}
use Rattle.spv_tree.specs.declared.tokens.token.TokenKind.TheVariants as kind
use Rattle.spv_tree.specs.declared.tokens.token.Sign.TheVariants as sign
use Rattle.spv_tree.specs.declared.syntax.operators.PlusOrMinus.{PlusOrMinus}
use Rattle.spv_tree.specs.syntax.Formulas.{Formula, formula, Conclusion, no_conclusion, implies, Relation, relation, RightSide, no_right_side, compared, Simple, simple, MoreTerms, no_more_terms, more_terms, Term, term, MoreFactors, no_more_factors, more_factors, Factor, number, truth, nil, class, place, application, bracketed, negation, MoreFormulas, no_more_formulas, more_formulas, designator, Selectors, no_selectors, selectors, Selector, index, field, content}
use Rattle.spv_tree.specs.syntax.Members.{in_kinds}
use Rattle.spv_tree.specs.syntax.FormulaSpelling.{conclusion_spelling, factor_spelling, formula_spelling, more_factors_spelling, more_formulas_spelling, more_terms_spelling, prefix_spelling, relation_spelling, right_side_spelling, selector_spelling, selectors_spelling, simple_spelling, term_spelling}
use Rattle.spv_grammar.specs.reading.Depths.{formula_depth, conclusion_depth, relation_depth, right_side_depth, simple_depth, more_terms_depth, term_depth, more_factors_depth, factor_depth, more_formulas_depth, selectors_depth, selector_depth}

pub prefix_length : (s : Option PlusOrMinus) (rest : List TokenKind) → length rest ≤ length (prefix_spelling in_kinds s rest)
prefix_length None rest = omega arith
prefix_length (Some s) rest = omega arith

mutual
  pub formula_length : (f : Formula) (rest : List TokenKind) → suc (formula_depth f + length rest) ≤ length (formula_spelling in_kinds f rest)
  formula_length (formula line left right) rest = omega (arith, relation_length left (conclusion_spelling in_kinds right rest), conclusion_length right rest)

  conclusion_length : (c : Conclusion) (rest : List TokenKind) → conclusion_depth c + length rest ≤ length (conclusion_spelling in_kinds c rest)
  conclusion_length no_conclusion rest = omega arith
  conclusion_length (implies f) rest = omega (arith, formula_length f rest)

  pub relation_length : (r : Relation) (rest : List TokenKind) → suc (relation_depth r + length rest) ≤ length (relation_spelling in_kinds r rest)
  relation_length (relation line left right) rest = omega (arith, simple_length left (right_side_spelling in_kinds right rest), right_side_length right rest)

  right_side_length : (r : RightSide) (rest : List TokenKind) → right_side_depth r + length rest ≤ length (right_side_spelling in_kinds r rest)
  right_side_length no_right_side rest = omega arith
  right_side_length (compared operator s) rest = omega (arith, simple_length s rest)

  pub simple_length : (s : Simple) (rest : List TokenKind) → suc (simple_depth s + length rest) ≤ length (simple_spelling in_kinds s rest)
  simple_length (simple line prefix first more) rest =
      omega (arith, term_length first (more_terms_spelling in_kinds more rest), more_terms_length more rest, prefix_length prefix (term_spelling in_kinds first (more_terms_spelling in_kinds more rest)))

  more_terms_length : (ts : MoreTerms) (rest : List TokenKind) → more_terms_depth ts + length rest ≤ length (more_terms_spelling in_kinds ts rest)
  more_terms_length no_more_terms rest = omega arith
  more_terms_length (more_terms operator t more) rest = omega (arith, term_length t (more_terms_spelling in_kinds more rest), more_terms_length more rest)

  pub term_length : (t : Term) (rest : List TokenKind) → suc (term_depth t + length rest) ≤ length (term_spelling in_kinds t rest)
  term_length (term line first more) rest = omega (arith, factor_length first (more_factors_spelling in_kinds more rest), more_factors_length more rest)

  more_factors_length : (fs : MoreFactors) (rest : List TokenKind) → more_factors_depth fs + length rest ≤ length (more_factors_spelling in_kinds fs rest)
  more_factors_length no_more_factors rest = omega arith
  more_factors_length (more_factors operator f more) rest = omega (arith, factor_length f (more_factors_spelling in_kinds more rest), more_factors_length more rest)

  pub factor_length : (f : Factor) (rest : List TokenKind) → suc (factor_depth f + length rest) ≤ length (factor_spelling in_kinds f rest)
  factor_length (number line n) rest = omega arith
  factor_length (truth line b) rest = omega arith
  factor_length (nil line) rest = omega arith
  factor_length (class line x) rest = omega arith
  factor_length (place line (designator at x behind)) rest = omega (arith, selectors_length behind rest)
  factor_length (application line f argument more behind) rest =
      omega (arith, formula_length argument (more_formulas_spelling in_kinds more (kind.Sign sign.CloseParenthesis ∷ selectors_spelling in_kinds behind rest)), more_formulas_length more (kind.Sign sign.CloseParenthesis ∷ selectors_spelling in_kinds behind rest), selectors_length behind rest)
  factor_length (bracketed line f) rest = omega (arith, formula_length f (kind.Sign sign.CloseParenthesis ∷ rest))
  factor_length (negation line f) rest = omega (arith, factor_length f rest)

  more_formulas_length : (fs : MoreFormulas) (rest : List TokenKind) → more_formulas_depth fs + length rest ≤ length (more_formulas_spelling in_kinds fs rest)
  more_formulas_length no_more_formulas rest = omega arith
  more_formulas_length (more_formulas f more) rest = omega (arith, formula_length f (more_formulas_spelling in_kinds more rest), more_formulas_length more rest)

  pub selectors_length : (ss : Selectors) (rest : List TokenKind) → selectors_depth ss + length rest ≤ length (selectors_spelling in_kinds ss rest)
  selectors_length no_selectors rest = omega arith
  selectors_length (selectors s more) rest = omega (arith, selector_length s (selectors_spelling in_kinds more rest), selectors_length more rest)

  pub selector_length : (s : Selector) (rest : List TokenKind) → suc (selector_depth s + length rest) ≤ length (selector_spelling in_kinds s rest)
  selector_length (index line f more) rest =
      omega (arith, formula_length f (more_formulas_spelling in_kinds more (kind.Sign sign.CloseBracket ∷ rest)), more_formulas_length more (kind.Sign sign.CloseBracket ∷ rest))
  selector_length (field line x) rest = omega arith
  selector_length (content line) rest = omega arith
