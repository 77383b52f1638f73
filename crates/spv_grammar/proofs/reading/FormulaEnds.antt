-- What stands behind a part of a formula does not go on with it.
use Rattle.std.proofs.Common.{◌≡◌, true, false, List, Option, Some, None, is_some, refl}
use Rattle.spv_tree.specs.declared.tokens.token.TokenKind.{TokenKind}
use Rattle.spv_tree.specs.declared.tokens.token.TokenKind.TheVariants as kind
use Rattle.spv_tree.specs.declared.tokens.token.Sign.TheVariants as sign
use Rattle.spv_tree.specs.declared.syntax.operators.PlusOrMinus.{PlusOrMinus}
use Rattle.spv_tree.specs.declared.syntax.operators.PlusOrMinus.TheVariants as prefix
use Rattle.spv_tree.specs.declared.syntax.operators.Comparison.{Comparison}
use Rattle.spv_tree.specs.declared.syntax.operators.Comparison.TheVariants as comparison
use Rattle.spv_tree.specs.declared.syntax.operators.Adding.{Adding}
use Rattle.spv_tree.specs.declared.syntax.operators.Adding.TheVariants as adding
use Rattle.spv_tree.specs.declared.syntax.operators.Multiplying.{Multiplying}
use Rattle.spv_tree.specs.declared.syntax.operators.Multiplying.TheVariants as multiplying
use Rattle.spv_tree.specs.syntax.Formulas.{Conclusion, no_conclusion, implies, RightSide, no_right_side, compared, MoreTerms, no_more_terms, more_terms, Term, term, MoreFactors, no_more_factors, more_factors, number, truth, nil, class, place, application, bracketed, negation, MoreFormulas, no_more_formulas, more_formulas, designator, Selectors, no_selectors, selectors, index, field, content}
use Rattle.spv_tree.specs.syntax.Members.{in_kinds}
use Rattle.spv_tree.specs.syntax.FormulaSpelling.{adding_kind, comparison_kind, conclusion_spelling, more_factors_spelling, more_formulas_spelling, more_terms_spelling, multiplying_kind, prefix_kind, right_side_spelling, selectors_spelling, term_spelling}
use Rattle.spv_grammar.specs.reading.Readers.{first, is}
use Rattle.spv_grammar.specs.reading.FormulaReaders.{prefix_of, comparison_of, adding_of, multiplying_of}
use Rattle.spv_grammar.specs.reading.Continuing.{continues_factor, continues_term, continues_simple, continues_relation, continues_formula, continues_formulas}
use Rattle.spv_logic.proofs.list.Tests.{right_false}

-- ---- operators are read

pub prefix_back : (s : PlusOrMinus) → prefix_of (Some (prefix_kind s)) ≡ Some s
prefix_back prefix.Plus = refl
prefix_back prefix.Minus = refl

pub comparison_back : (o : Comparison) → comparison_of (Some (comparison_kind o)) ≡ Some o
comparison_back comparison.Equal = refl
comparison_back comparison.NotEqual = refl
comparison_back comparison.Less = refl
comparison_back comparison.AtMost = refl
comparison_back comparison.Greater = refl
comparison_back comparison.AtLeast = refl

pub adding_back : (o : Adding) → adding_of (Some (adding_kind o)) ≡ Some o
adding_back adding.Plus = refl
adding_back adding.Minus = refl
adding_back adding.Or = refl

pub multiplying_back : (o : Multiplying) → multiplying_of (Some (multiplying_kind o)) ≡ Some o
multiplying_back multiplying.Times = refl
multiplying_back multiplying.Div = refl
multiplying_back multiplying.Mod = refl
multiplying_back multiplying.And = refl

-- ---- and end what stands before them

multiplying_ends : (o : Multiplying) → continues_factor (Some (multiplying_kind o)) ≡ false
multiplying_ends multiplying.Times = refl
multiplying_ends multiplying.Div = refl
multiplying_ends multiplying.Mod = refl
multiplying_ends multiplying.And = refl

adding_ends : (o : Adding) → continues_term (Some (adding_kind o)) ≡ false
adding_ends adding.Plus = refl
adding_ends adding.Minus = refl
adding_ends adding.Or = refl

comparison_ends : (o : Comparison) → continues_simple (Some (comparison_kind o)) ≡ false
comparison_ends comparison.Equal = refl
comparison_ends comparison.NotEqual = refl
comparison_ends comparison.Less = refl
comparison_ends comparison.AtMost = refl
comparison_ends comparison.Greater = refl
comparison_ends comparison.AtLeast = refl

pub more_factors_ends : (more : MoreFactors) (spelled : List TokenKind) → continues_term (first spelled) ≡ false → continues_factor (first (more_factors_spelling in_kinds more spelled)) ≡ false
more_factors_ends no_more_factors spelled e = right_false (is_some (multiplying_of (first spelled))) _ e
more_factors_ends (more_factors operator f more) spelled e = multiplying_ends operator

pub more_terms_ends : (more : MoreTerms) (spelled : List TokenKind) → continues_simple (first spelled) ≡ false → continues_term (first (more_terms_spelling in_kinds more spelled)) ≡ false
more_terms_ends no_more_terms spelled e = right_false (is_some (adding_of (first spelled))) _ e
more_terms_ends (more_terms operator t more) spelled e = adding_ends operator

pub right_side_ends : (right : RightSide) (spelled : List TokenKind) → continues_relation (first spelled) ≡ false → continues_simple (first (right_side_spelling in_kinds right spelled)) ≡ false
right_side_ends no_right_side spelled e = right_false (is_some (comparison_of (first spelled))) _ e
right_side_ends (compared operator s) spelled e = comparison_ends operator

pub conclusion_ends : (right : Conclusion) (spelled : List TokenKind) → continues_formula (first spelled) ≡ false → continues_relation (first (conclusion_spelling in_kinds right spelled)) ≡ false
conclusion_ends no_conclusion spelled e = right_false (is (kind.Sign sign.Arrow) (first spelled)) _ e
conclusion_ends (implies f) spelled e = refl

-- behind a formula in a list stands a comma or what ends the list
pub more_formulas_ends : (more : MoreFormulas) (spelled : List TokenKind) → continues_formulas (first spelled) ≡ false → continues_formula (first (more_formulas_spelling in_kinds more spelled)) ≡ false
more_formulas_ends no_more_formulas spelled e = right_false (is (kind.Sign sign.Comma) (first spelled)) _ e
more_formulas_ends (more_formulas f more) spelled e = refl

-- a selector is no bracket of arguments
pub selectors_end : (behind : Selectors) (spelled : List TokenKind) → is (kind.Sign sign.OpenParenthesis) (first spelled) ≡ false → is (kind.Sign sign.OpenParenthesis) (first (selectors_spelling in_kinds behind spelled)) ≡ false
selectors_end no_selectors spelled e = e
selectors_end (selectors (index line f more) behind) spelled e = refl
selectors_end (selectors (field line x) behind) spelled e = refl
selectors_end (selectors (content line) behind) spelled e = refl

-- a term has no sign in front
pub no_prefix : (t : Term) (spelled : List TokenKind) → prefix_of (first (term_spelling in_kinds t spelled)) ≡ None
no_prefix (term line (number l n) more) spelled = refl
no_prefix (term line (truth l true) more) spelled = refl
no_prefix (term line (truth l false) more) spelled = refl
no_prefix (term line (nil l) more) spelled = refl
no_prefix (term line (class l x) more) spelled = refl
no_prefix (term line (place l (designator m x behind)) more) spelled = refl
no_prefix (term line (application l f argument others behind) more) spelled = refl
no_prefix (term line (bracketed l f) more) spelled = refl
no_prefix (term line (negation l f) more) spelled = refl

-- what does not go on with a formula does not go on with a factor
pub formula_factor : (o : Option TokenKind) → continues_formula o ≡ false → continues_factor o ≡ false
formula_factor o e =
    let relation = right_false (is (kind.Sign sign.Arrow) o) _ e in
    let simple = right_false (is_some (comparison_of o)) _ relation in
    let term = right_false (is_some (adding_of o)) _ simple in
    right_false (is_some (multiplying_of o)) _ term
