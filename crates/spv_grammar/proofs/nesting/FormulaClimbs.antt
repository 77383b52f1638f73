-- The way over the tokens of a formula goes up by as many levels as the formula has.
use Rattle.std.proofs.Common.{◌≡◌, ℕ, suc, true, false, List, ◌∷◌, Option, Some, None, Bool, refl, arith}
use Rattle.spv_tree.specs.declared.tokens.token.TokenKind.{TokenKind}
use Rattle.spv_tree.specs.declared.tokens.token.TokenKind.TheVariants as kind
use Rattle.spv_tree.specs.declared.tokens.token.Word.TheVariants as word
use Rattle.spv_tree.specs.declared.tokens.token.Sign.TheVariants as sign
use Rattle.spv_tree.specs.declared.syntax.operators.PlusOrMinus.{PlusOrMinus}
use Rattle.spv_tree.specs.declared.syntax.operators.PlusOrMinus.TheVariants as prefix
use Rattle.spv_tree.specs.declared.syntax.operators.Comparison.{Comparison}
use Rattle.spv_tree.specs.declared.syntax.operators.Comparison.TheVariants as comparison
use Rattle.spv_tree.specs.declared.syntax.operators.Adding.{Adding}
use Rattle.spv_tree.specs.declared.syntax.operators.Adding.TheVariants as adding
use Rattle.spv_tree.specs.declared.syntax.operators.Multiplying.{Multiplying}
use Rattle.spv_tree.specs.declared.syntax.operators.Multiplying.TheVariants as multiplying
use Rattle.spv_tree.specs.syntax.Formulas.{Formula, formula, Conclusion, no_conclusion, implies, Relation, relation, RightSide, no_right_side, compared, Simple, simple, MoreTerms, no_more_terms, more_terms, Term, term, MoreFactors, no_more_factors, more_factors, Factor, number, truth, nil, class, place, application, bracketed, negation, MoreFormulas, no_more_formulas, more_formulas, Designator, designator, Selectors, no_selectors, selectors, Selector, index, field, content}
use Rattle.spv_tree.specs.syntax.Members.{in_kinds}
use Rattle.spv_tree.specs.syntax.FormulaSpelling.{adding_kind, comparison_kind, conclusion_spelling, designator_spelling, factor_spelling, formula_spelling, more_factors_spelling, more_formulas_spelling, more_terms_spelling, multiplying_kind, name_kind, prefix_kind, prefix_spelling, relation_spelling, right_side_spelling, selector_spelling, selectors_spelling, simple_spelling, term_spelling, truth_kind}
use Rattle.spv_grammar.specs.reading.Depths.{formula_depth, conclusion_depth, relation_depth, right_side_depth, simple_depth, more_terms_depth, term_depth, more_factors_depth, factor_depth, more_formulas_depth, designator_depth, selectors_depth, selector_depth}
use Rattle.spv_grammar.specs.declared.nesting.effects.Effect.TheVariants.{Counts, Passes}
use Rattle.spv_grammar.specs.nesting.Effects.{effect_of}
use Rattle.spv_grammar.proofs.nesting.Climbing.{Climbs, ClimbsInside, climbs_none, shallower, climbs_both, climbs_past, climbs_counted, inside_none, inside_first, inside_more, climbs_brackets}

prefix_counts : (s : PlusOrMinus) → effect_of (prefix_kind s) ≡ Counts
prefix_counts prefix.Plus = refl
prefix_counts prefix.Minus = refl

comparison_passes : (o : Comparison) → effect_of (comparison_kind o) ≡ Passes
comparison_passes comparison.Equal = refl
comparison_passes comparison.NotEqual = refl
comparison_passes comparison.Less = refl
comparison_passes comparison.AtMost = refl
comparison_passes comparison.Greater = refl
comparison_passes comparison.AtLeast = refl

adding_counts : (o : Adding) → effect_of (adding_kind o) ≡ Counts
adding_counts adding.Plus = refl
adding_counts adding.Minus = refl
adding_counts adding.Or = refl

multiplying_counts : (o : Multiplying) → effect_of (multiplying_kind o) ≡ Counts
multiplying_counts multiplying.Times = refl
multiplying_counts multiplying.Div = refl
multiplying_counts multiplying.Mod = refl
multiplying_counts multiplying.And = refl

truth_passes : (b : Bool) → effect_of (truth_kind b) ≡ Passes
truth_passes true = refl
truth_passes false = refl

pub prefix_climbs : (s : Option PlusOrMinus) (n : ℕ) (others : List ℕ) (rest : List TokenKind) → Climbs n others (prefix_spelling in_kinds s rest) rest 0
prefix_climbs None n others rest = climbs_none n others rest
prefix_climbs (Some s) n others rest = shallower 0 (climbs_counted (prefix_kind s) (prefix_counts s) (climbs_none (suc n) others rest)) (omega arith)

mutual
  pub formula_climbs : (f : Formula) (n : ℕ) (others : List ℕ) (rest : List TokenKind) → Climbs n others (formula_spelling in_kinds f rest) rest (formula_depth f)
  formula_climbs (formula line left right) n others rest = climbs_both (relation_climbs left n others (conclusion_spelling in_kinds right rest)) (λ m. conclusion_climbs right m others rest)

  conclusion_climbs : (c : Conclusion) (n : ℕ) (others : List ℕ) (rest : List TokenKind) → Climbs n others (conclusion_spelling in_kinds c rest) rest (conclusion_depth c)
  conclusion_climbs no_conclusion n others rest = climbs_none n others rest
  conclusion_climbs (implies f) n others rest = climbs_counted (kind.Sign sign.Arrow) refl (formula_climbs f (suc n) others rest)

  relation_climbs : (r : Relation) (n : ℕ) (others : List ℕ) (rest : List TokenKind) → Climbs n others (relation_spelling in_kinds r rest) rest (relation_depth r)
  relation_climbs (relation line left right) n others rest = climbs_both (simple_climbs left n others (right_side_spelling in_kinds right rest)) (λ m. right_side_climbs right m others rest)

  right_side_climbs : (r : RightSide) (n : ℕ) (others : List ℕ) (rest : List TokenKind) → Climbs n others (right_side_spelling in_kinds r rest) rest (right_side_depth r)
  right_side_climbs no_right_side n others rest = climbs_none n others rest
  right_side_climbs (compared operator s) n others rest = climbs_past (comparison_kind operator) (comparison_passes operator) (simple_climbs s n others rest)

  simple_climbs : (s : Simple) (n : ℕ) (others : List ℕ) (rest : List TokenKind) → Climbs n others (simple_spelling in_kinds s rest) rest (simple_depth s)
  simple_climbs (simple line prefix first more) n others rest =
      shallower _ (climbs_both (prefix_climbs prefix n others (term_spelling in_kinds first (more_terms_spelling in_kinds more rest))) (λ m. climbs_both (term_climbs first m others (more_terms_spelling in_kinds more rest)) (λ l. more_terms_climbs more l others rest))) (omega arith)

  more_terms_climbs : (ts : MoreTerms) (n : ℕ) (others : List ℕ) (rest : List TokenKind) → Climbs n others (more_terms_spelling in_kinds ts rest) rest (more_terms_depth ts)
  more_terms_climbs no_more_terms n others rest = climbs_none n others rest
  more_terms_climbs (more_terms operator t more) n others rest =
      shallower _ (climbs_counted (adding_kind operator) (adding_counts operator) (climbs_both (term_climbs t (suc n) others (more_terms_spelling in_kinds more rest)) (λ m. more_terms_climbs more m others rest))) (omega arith)

  term_climbs : (t : Term) (n : ℕ) (others : List ℕ) (rest : List TokenKind) → Climbs n others (term_spelling in_kinds t rest) rest (term_depth t)
  term_climbs (term line first more) n others rest = climbs_both (factor_climbs first n others (more_factors_spelling in_kinds more rest)) (λ m. more_factors_climbs more m others rest)

  more_factors_climbs : (fs : MoreFactors) (n : ℕ) (others : List ℕ) (rest : List TokenKind) → Climbs n others (more_factors_spelling in_kinds fs rest) rest (more_factors_depth fs)
  more_factors_climbs no_more_factors n others rest = climbs_none n others rest
  more_factors_climbs (more_factors operator f more) n others rest =
      shallower _ (climbs_counted (multiplying_kind operator) (multiplying_counts operator) (climbs_both (factor_climbs f (suc n) others (more_factors_spelling in_kinds more rest)) (λ m. more_factors_climbs more m others rest))) (omega arith)

  factor_climbs : (f : Factor) (n : ℕ) (others : List ℕ) (rest : List TokenKind) → Climbs n others (factor_spelling in_kinds f rest) rest (factor_depth f)
  factor_climbs (number line k) n others rest = climbs_past (kind.Number k) refl (climbs_none n others rest)
  factor_climbs (truth line b) n others rest = climbs_past (truth_kind b) (truth_passes b) (climbs_none n others rest)
  factor_climbs (nil line) n others rest = climbs_past (kind.Word word.Nil) refl (climbs_none n others rest)
  factor_climbs (class line x) n others rest = climbs_past (kind.Sign sign.Hash) refl (climbs_past (name_kind x) refl (climbs_none n others rest))
  factor_climbs (place line d) n others rest = designator_climbs d n others rest
  factor_climbs (application line f first more behind) n others rest =
      shallower _ (climbs_past (name_kind f) refl (climbs_both (climbs_brackets (kind.Sign sign.OpenParenthesis) (kind.Sign sign.CloseParenthesis) refl refl (inside_first (formula_climbs first 0 (n ∷ others) _) (λ m. more_formulas_climb more m n others _))) (λ m. selectors_climb behind m others rest))) (omega arith)
  factor_climbs (bracketed line f) n others rest =
      shallower _ (climbs_brackets (kind.Sign sign.OpenParenthesis) (kind.Sign sign.CloseParenthesis) refl refl (inside_first (formula_climbs f 0 (n ∷ others) _) (λ m. inside_none m n others _))) (omega arith)
  factor_climbs (negation line f) n others rest = climbs_counted (kind.Word word.Not) refl (factor_climbs f (suc n) others rest)

  more_formulas_climb : (fs : MoreFormulas) (n outside : ℕ) (others : List ℕ) (rest : List TokenKind) → ClimbsInside n outside others (more_formulas_spelling in_kinds fs rest) rest (more_formulas_depth fs)
  more_formulas_climb no_more_formulas n outside others rest = inside_none n outside others rest
  more_formulas_climb (more_formulas f more) n outside others rest =
      inside_more (kind.Sign sign.Comma) refl (inside_first (formula_climbs f 0 (outside ∷ others) (more_formulas_spelling in_kinds more rest)) (λ m. more_formulas_climb more m outside others rest))

  pub designator_climbs : (d : Designator) (n : ℕ) (others : List ℕ) (rest : List TokenKind) → Climbs n others (designator_spelling in_kinds d rest) rest (designator_depth d)
  designator_climbs (designator line x behind) n others rest = climbs_past (name_kind x) refl (selectors_climb behind n others rest)

  selectors_climb : (ss : Selectors) (n : ℕ) (others : List ℕ) (rest : List TokenKind) → Climbs n others (selectors_spelling in_kinds ss rest) rest (selectors_depth ss)
  selectors_climb no_selectors n others rest = climbs_none n others rest
  selectors_climb (selectors s more) n others rest = climbs_both (selector_climbs s n others (selectors_spelling in_kinds more rest)) (λ m. selectors_climb more m others rest)

  selector_climbs : (s : Selector) (n : ℕ) (others : List ℕ) (rest : List TokenKind) → Climbs n others (selector_spelling in_kinds s rest) rest (selector_depth s)
  selector_climbs (index line first more) n others rest =
      climbs_brackets (kind.Sign sign.OpenBracket) (kind.Sign sign.CloseBracket) refl refl (inside_first (formula_climbs first 0 (n ∷ others) _) (λ m. more_formulas_climb more m n others _))
  selector_climbs (field line x) n others rest = climbs_past (kind.Sign sign.Period) refl (climbs_past (name_kind x) refl (climbs_none n others rest))
  selector_climbs (content line) n others rest = shallower 0 (climbs_counted (kind.Sign sign.Caret) refl (climbs_none (suc n) others rest)) (omega arith)
