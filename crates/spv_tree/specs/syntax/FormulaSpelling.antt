-- How formulas and designators are spelled, in front of what follows.
use Rattle.std.specs.Prelude.{Bool, true, false, List, ◌∷◌, Option, Some, None}
use Rattle.spv_tree.specs.declared.tokens.token.TokenKind.{TokenKind}
use Rattle.spv_tree.specs.declared.tokens.token.TokenKind.TheVariants as kind
use Rattle.spv_tree.specs.declared.tokens.token.Word.TheVariants as word
use Rattle.spv_tree.specs.declared.tokens.token.Sign.TheVariants as sign
use Rattle.spv_tree.specs.declared.syntax.names.Name.{Name}
use Rattle.spv_tree.specs.declared.syntax.operators.PlusOrMinus.{PlusOrMinus}
use Rattle.spv_tree.specs.declared.syntax.operators.PlusOrMinus.TheVariants as prefix
use Rattle.spv_tree.specs.declared.syntax.operators.Comparison.{Comparison}
use Rattle.spv_tree.specs.declared.syntax.operators.Comparison.TheVariants as comparison
use Rattle.spv_tree.specs.declared.syntax.operators.Adding.{Adding}
use Rattle.spv_tree.specs.declared.syntax.operators.Adding.TheVariants as adding
use Rattle.spv_tree.specs.declared.syntax.operators.Multiplying.{Multiplying}
use Rattle.spv_tree.specs.declared.syntax.operators.Multiplying.TheVariants as multiplying
use Rattle.spv_tree.specs.syntax.Formulas.{Formula, formula, Conclusion, no_conclusion, implies, Relation, relation, RightSide, no_right_side, compared, Simple, simple, MoreTerms, no_more_terms, more_terms, Term, term, MoreFactors, no_more_factors, more_factors, Factor, number, truth, nil, class, place, application, bracketed, negation, MoreFormulas, no_more_formulas, more_formulas, Designator, designator, Selectors, no_selectors, selectors, Selector, index, field, content}
use Rattle.spv_tree.specs.syntax.Members.{Members}

abbrev pub name_kind : Name → TokenKind
name_kind x = kind.Name x.symbol

abbrev pub prefix_kind : PlusOrMinus → TokenKind
prefix_kind prefix.Plus = kind.Sign sign.Plus
prefix_kind prefix.Minus = kind.Sign sign.Minus

abbrev pub comparison_kind : Comparison → TokenKind
comparison_kind comparison.Equal = kind.Sign sign.Equal
comparison_kind comparison.NotEqual = kind.Sign sign.NotEqual
comparison_kind comparison.Less = kind.Sign sign.Less
comparison_kind comparison.AtMost = kind.Sign sign.AtMost
comparison_kind comparison.Greater = kind.Sign sign.Greater
comparison_kind comparison.AtLeast = kind.Sign sign.AtLeast

abbrev pub adding_kind : Adding → TokenKind
adding_kind adding.Plus = kind.Sign sign.Plus
adding_kind adding.Minus = kind.Sign sign.Minus
adding_kind adding.Or = kind.Word word.Or

abbrev pub multiplying_kind : Multiplying → TokenKind
multiplying_kind multiplying.Times = kind.Sign sign.Star
multiplying_kind multiplying.Div = kind.Word word.Div
multiplying_kind multiplying.Mod = kind.Word word.Mod
multiplying_kind multiplying.And = kind.Word word.And

abbrev pub truth_kind : Bool → TokenKind
truth_kind true = kind.Word word.True
truth_kind false = kind.Word word.False

-- ---- in members of one kind

module _ {R : Type 0} (m : Members R) where
  abbrev pub name_spelling : Name → List R → List R
  name_spelling x rest = m.at x.line (m.token (name_kind x) ∷ rest)

  abbrev pub prefix_spelling : Option PlusOrMinus → List R → List R
  prefix_spelling None rest = rest
  prefix_spelling (Some s) rest = m.token (prefix_kind s) ∷ rest

  abbrev mutual
    pub formula_spelling : Formula → List R → List R
    formula_spelling (formula line left right) rest = m.at line (relation_spelling left (conclusion_spelling right rest))

    pub conclusion_spelling : Conclusion → List R → List R
    conclusion_spelling no_conclusion rest = rest
    conclusion_spelling (implies f) rest = m.token (kind.Sign sign.Arrow) ∷ formula_spelling f rest

    pub relation_spelling : Relation → List R → List R
    relation_spelling (relation line left right) rest = m.at line (simple_spelling left (right_side_spelling right rest))

    pub right_side_spelling : RightSide → List R → List R
    right_side_spelling no_right_side rest = rest
    right_side_spelling (compared operator s) rest = m.token (comparison_kind operator) ∷ simple_spelling s rest

    pub simple_spelling : Simple → List R → List R
    simple_spelling (simple line prefix first more) rest =
        m.at line (prefix_spelling prefix (term_spelling first (more_terms_spelling more rest)))

    pub more_terms_spelling : MoreTerms → List R → List R
    more_terms_spelling no_more_terms rest = rest
    more_terms_spelling (more_terms operator t more) rest = m.token (adding_kind operator) ∷ term_spelling t (more_terms_spelling more rest)

    pub term_spelling : Term → List R → List R
    term_spelling (term line first more) rest = m.at line (factor_spelling first (more_factors_spelling more rest))

    pub more_factors_spelling : MoreFactors → List R → List R
    more_factors_spelling no_more_factors rest = rest
    more_factors_spelling (more_factors operator f more) rest =
        m.token (multiplying_kind operator) ∷ factor_spelling f (more_factors_spelling more rest)

    pub factor_spelling : Factor → List R → List R
    factor_spelling (number line n) rest = m.at line (m.token (kind.Number n) ∷ rest)
    factor_spelling (truth line b) rest = m.at line (m.token (truth_kind b) ∷ rest)
    factor_spelling (nil line) rest = m.at line (m.token (kind.Word word.Nil) ∷ rest)
    factor_spelling (class line x) rest = m.at line (m.token (kind.Sign sign.Hash) ∷ name_spelling x rest)
    factor_spelling (place line d) rest = m.at line (designator_spelling d rest)
    factor_spelling (application line f first more behind) rest =
        m.at line (name_spelling f (m.token (kind.Sign sign.OpenParenthesis) ∷ formula_spelling first (more_formulas_spelling more
        (m.token (kind.Sign sign.CloseParenthesis) ∷ selectors_spelling behind rest))))
    factor_spelling (bracketed line f) rest =
        m.at line (m.token (kind.Sign sign.OpenParenthesis) ∷ formula_spelling f (m.token (kind.Sign sign.CloseParenthesis) ∷ rest))
    factor_spelling (negation line f) rest = m.at line (m.token (kind.Word word.Not) ∷ factor_spelling f rest)

    pub more_formulas_spelling : MoreFormulas → List R → List R
    more_formulas_spelling no_more_formulas rest = rest
    more_formulas_spelling (more_formulas f more) rest =
        m.token (kind.Sign sign.Comma) ∷ formula_spelling f (more_formulas_spelling more rest)

    pub designator_spelling : Designator → List R → List R
    designator_spelling (designator line x behind) rest = m.at line (name_spelling x (selectors_spelling behind rest))

    pub selectors_spelling : Selectors → List R → List R
    selectors_spelling no_selectors rest = rest
    selectors_spelling (selectors s more) rest = selector_spelling s (selectors_spelling more rest)

    pub selector_spelling : Selector → List R → List R
    selector_spelling (index line first more) rest =
        m.at line (m.token (kind.Sign sign.OpenBracket) ∷ formula_spelling first (more_formulas_spelling more
        (m.token (kind.Sign sign.CloseBracket) ∷ rest)))
    selector_spelling (field line x) rest = m.at line (m.token (kind.Sign sign.Period) ∷ name_spelling x rest)
    selector_spelling (content line) rest = m.at line (m.token (kind.Sign sign.Caret) ∷ rest)
