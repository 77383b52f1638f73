-- What a formula puts in front of what follows does not depend on it, and no part of it begins behind its tokens.
use Rattle.std.proofs.Common.{◌≡◌, ℕ, ◌≤◌, Bool, true, false, ◌&&◌, List, [], ◌∷◌, ◌++◌, Option, Some, None, length, nat_eq, refl, sym, ap, ◌∙◌, arith}
use Rattle.std.proofs.lemmas.Bool.{false≢true}
use Rattle.std.proofs.lemmas.List.{append_assoc, append-nil}
use Rattle.spv_tree.specs.declared.tokens.token.Token.{Token}
use Rattle.spv_tree.specs.declared.tokens.token.TokenKind.{TokenKind}
use Rattle.spv_tree.specs.declared.tokens.token.TokenKind.TheVariants as kind
use Rattle.spv_tree.specs.declared.tokens.token.Word.TheVariants as word
use Rattle.spv_tree.specs.declared.tokens.token.Sign.TheVariants as sign
use Rattle.spv_tree.specs.declared.syntax.operators.PlusOrMinus.{PlusOrMinus}
use Rattle.spv_tree.specs.syntax.Formulas.{Formula, formula, Conclusion, no_conclusion, implies, Relation, relation, RightSide, no_right_side, compared, Simple, simple, MoreTerms, no_more_terms, more_terms, Term, term, MoreFactors, no_more_factors, more_factors, Factor, number, truth, nil, class, place, application, bracketed, negation, MoreFormulas, no_more_formulas, more_formulas, designator, Selectors, no_selectors, selectors, Selector, index, field, content}
use Rattle.spv_tree.specs.syntax.Steps.{Step, begins, passes, lines_agree}
use Rattle.spv_tree.specs.syntax.Reads.{kinds}
use Rattle.spv_grammar.proofs.reading.Lengths.{prefix_length, relation_length, simple_length, term_length, factor_length}
use Rattle.spv_tree.specs.syntax.Members.{in_kinds, in_lines}
use Rattle.spv_tree.specs.syntax.FormulaSpelling.{conclusion_spelling, factor_spelling, formula_spelling, more_factors_spelling, more_formulas_spelling, more_terms_spelling, prefix_spelling, relation_spelling, right_side_spelling, selector_spelling, selectors_spelling, simple_spelling, term_spelling, adding_kind, comparison_kind, multiplying_kind, name_kind, prefix_kind, truth_kind}

-- whether steps pass by exactly these tokens, and no part begins behind them
abbrev pub fits : List Step → List TokenKind → Bool
fits [] [] = true
fits (begins line ∷ steps) (k ∷ ks) = fits steps (k ∷ ks)
fits (passes ∷ steps) (k ∷ ks) = fits steps ks
fits _ _ = false

fits_both : (s t : List Step) (a b : List TokenKind) → fits s a ≡ true → fits t b ≡ true → fits (s ++ t) (a ++ b) ≡ true
fits_both [] t [] b e f = f
fits_both [] t (k ∷ a) b e f = absurd (false≢true e)
fits_both (begins line ∷ s) t [] b e f = absurd (false≢true e)
fits_both (begins line ∷ s) t (k ∷ a) b e f = fits_both s t (k ∷ a) b e f
fits_both (passes ∷ s) t [] b e f = absurd (false≢true e)
fits_both (passes ∷ s) t (k ∷ a) b e f = fits_both s t a b e f

fits_begun : (line : ℕ) (s : List Step) (a : List TokenKind) → 1 ≤ length a → fits s a ≡ true → fits (begins line ∷ s) a ≡ true
fits_begun line s [] l e = absurd (omega (arith, l))
fits_begun line s (k ∷ a) l e = e

-- these tokens and steps are put in front of what follows
pub record Puts (spelled : List TokenKind → List TokenKind) (lined : List Step → List Step) : Type 0 where
  pub tokens : List TokenKind
  pub steps : List Step
  pub spelled_is : (rest : List TokenKind) → spelled rest ≡ tokens ++ rest
  pub lined_is : (others : List Step) → lined others ≡ steps ++ others
  pub fit : fits steps tokens ≡ true

puts_none : Puts (λ rest. rest) (λ others. others)
puts_none = record { tokens = []; steps = []; spelled_is = λ rest. refl; lined_is = λ others. refl; fit = refl }

puts_token : {spelled : List TokenKind → List TokenKind} {lined : List Step → List Step} (k : TokenKind) → Puts spelled lined → Puts (λ rest. k ∷ spelled rest) (λ others. passes ∷ lined others)
puts_token k p = record {
  tokens = k ∷ p.tokens;
  steps = passes ∷ p.steps;
  spelled_is = λ rest. ap (λ ks. k ∷ ks) (p.spelled_is rest);
  lined_is = λ others. ap (λ s. passes ∷ s) (p.lined_is others);
  fit = p.fit;
}

puts_both : {spelled after : List TokenKind → List TokenKind} {lined behind : List Step → List Step} → Puts spelled lined → Puts after behind → Puts (λ rest. spelled (after rest)) (λ others. lined (behind others))
puts_both {after} {behind} p q = record {
  tokens = p.tokens ++ q.tokens;
  steps = p.steps ++ q.steps;
  spelled_is = λ rest. p.spelled_is (after rest) ∙ ap (λ ks. p.tokens ++ ks) (q.spelled_is rest) ∙ sym (append_assoc p.tokens q.tokens rest);
  lined_is = λ others. p.lined_is (behind others) ∙ ap (λ s. p.steps ++ s) (q.lined_is others) ∙ sym (append_assoc p.steps q.steps others);
  fit = fits_both p.steps q.steps p.tokens q.tokens p.fit q.fit;
}

-- a part that has a token begins
puts_begun : {spelled : List TokenKind → List TokenKind} {lined : List Step → List Step} (line : ℕ) → 1 ≤ length (spelled []) → Puts spelled lined → Puts spelled (λ others. begins line ∷ lined others)
puts_begun line l p = record {
  tokens = p.tokens;
  steps = begins line ∷ p.steps;
  spelled_is = p.spelled_is;
  lined_is = λ others. ap (λ s. begins line ∷ s) (p.lined_is others);
  fit = fits_begun line p.steps p.tokens (omega (arith, l, ap length (p.spelled_is [] ∙ append-nil p.tokens))) p.fit;
}

-- a part that is one token
puts_one : (line : ℕ) (k : TokenKind) → Puts (λ rest. k ∷ rest) (λ others. begins line ∷ passes ∷ others)
puts_one line k = puts_begun line (omega arith) (puts_token k puts_none)

puts_led : {spelled : List TokenKind → List TokenKind} {lined : List Step → List Step} (line : ℕ) (k : TokenKind) → Puts spelled lined → Puts (λ rest. k ∷ spelled rest) (λ others. begins line ∷ passes ∷ lined others)
puts_led line k p = puts_begun line (omega arith) (puts_token k p)

puts_prefix : (s : Option PlusOrMinus) → Puts (prefix_spelling in_kinds s) (prefix_spelling in_lines s)
puts_prefix None = puts_none
puts_prefix (Some s) = puts_token (prefix_kind s) puts_none

mutual
  pub puts_formula : (f : Formula) → Puts (formula_spelling in_kinds f) (formula_spelling in_lines f)
  puts_formula (formula line left right) = puts_begun line (omega (arith, relation_length left (conclusion_spelling in_kinds right []))) (puts_both (puts_relation left) (puts_conclusion right))

  puts_conclusion : (c : Conclusion) → Puts (conclusion_spelling in_kinds c) (conclusion_spelling in_lines c)
  puts_conclusion no_conclusion = puts_none
  puts_conclusion (implies f) = puts_token (kind.Sign sign.Arrow) (puts_formula f)

  puts_relation : (r : Relation) → Puts (relation_spelling in_kinds r) (relation_spelling in_lines r)
  puts_relation (relation line left right) = puts_begun line (omega (arith, simple_length left (right_side_spelling in_kinds right []))) (puts_both (puts_simple left) (puts_right_side right))

  puts_right_side : (r : RightSide) → Puts (right_side_spelling in_kinds r) (right_side_spelling in_lines r)
  puts_right_side no_right_side = puts_none
  puts_right_side (compared operator s) = puts_token (comparison_kind operator) (puts_simple s)

  puts_simple : (s : Simple) → Puts (simple_spelling in_kinds s) (simple_spelling in_lines s)
  puts_simple (simple line prefix first more) =
      puts_begun line (omega (arith, prefix_length prefix (term_spelling in_kinds first (more_terms_spelling in_kinds more [])), term_length first (more_terms_spelling in_kinds more []))) (puts_both (puts_prefix prefix) (puts_both (puts_term first) (puts_more_terms more)))

  puts_more_terms : (ts : MoreTerms) → Puts (more_terms_spelling in_kinds ts) (more_terms_spelling in_lines ts)
  puts_more_terms no_more_terms = puts_none
  puts_more_terms (more_terms operator t more) = puts_token (adding_kind operator) (puts_both (puts_term t) (puts_more_terms more))

  puts_term : (t : Term) → Puts (term_spelling in_kinds t) (term_spelling in_lines t)
  puts_term (term line first more) = puts_begun line (omega (arith, factor_length first (more_factors_spelling in_kinds more []))) (puts_both (puts_factor first) (puts_more_factors more))

  puts_more_factors : (fs : MoreFactors) → Puts (more_factors_spelling in_kinds fs) (more_factors_spelling in_lines fs)
  puts_more_factors no_more_factors = puts_none
  puts_more_factors (more_factors operator f more) = puts_token (multiplying_kind operator) (puts_both (puts_factor f) (puts_more_factors more))

  puts_factor : (f : Factor) → Puts (factor_spelling in_kinds f) (factor_spelling in_lines f)
  puts_factor (number line n) = puts_one line (kind.Number n)
  puts_factor (truth line b) = puts_one line (truth_kind b)
  puts_factor (nil line) = puts_one line (kind.Word word.Nil)
  puts_factor (class line x) = puts_led line (kind.Sign sign.Hash) (puts_one x.line (name_kind x))
  puts_factor (place line (designator at x behind)) = puts_begun line (omega arith) (puts_begun at (omega arith) (puts_led x.line (name_kind x) (puts_selectors behind)))
  puts_factor (application line f argument more behind) =
      puts_begun line (omega arith) (puts_led f.line (name_kind f) (puts_token (kind.Sign sign.OpenParenthesis) (puts_both (puts_formula argument) (puts_both (puts_more_formulas more) (puts_token (kind.Sign sign.CloseParenthesis) (puts_selectors behind))))))
  puts_factor (bracketed line f) = puts_led line (kind.Sign sign.OpenParenthesis) (puts_both (puts_formula f) (puts_token (kind.Sign sign.CloseParenthesis) puts_none))
  puts_factor (negation line f) = puts_led line (kind.Word word.Not) (puts_factor f)

  puts_more_formulas : (fs : MoreFormulas) → Puts (more_formulas_spelling in_kinds fs) (more_formulas_spelling in_lines fs)
  puts_more_formulas no_more_formulas = puts_none
  puts_more_formulas (more_formulas f more) = puts_token (kind.Sign sign.Comma) (puts_both (puts_formula f) (puts_more_formulas more))

  puts_selectors : (ss : Selectors) → Puts (selectors_spelling in_kinds ss) (selectors_spelling in_lines ss)
  puts_selectors no_selectors = puts_none
  puts_selectors (selectors s more) = puts_both (puts_selector s) (puts_selectors more)

  puts_selector : (s : Selector) → Puts (selector_spelling in_kinds s) (selector_spelling in_lines s)
  puts_selector (index line f more) =
      puts_led line (kind.Sign sign.OpenBracket) (puts_both (puts_formula f) (puts_both (puts_more_formulas more) (puts_token (kind.Sign sign.CloseBracket) puts_none)))
  puts_selector (field line x) = puts_led line (kind.Sign sign.Period) (puts_one x.line (name_kind x))
  puts_selector (content line) = puts_one line (kind.Sign sign.Caret)

-- ---- lines of tokens and of those behind them

and_assoc : (a b c : Bool) → (a && (b && c)) ≡ ((a && b) && c)
and_assoc true b c = refl
and_assoc false b c = refl

pub split_lines : (s : List Step) (a b : List Token) (others : List Step) → fits s (kinds a) ≡ true → lines_agree (s ++ others) (a ++ b) ≡ (lines_agree s a && lines_agree others b)
unfolding lines_agree
split_lines [] [] b others f = refl
split_lines [] (t ∷ a) b others f = absurd (false≢true f)
split_lines (begins line ∷ s) [] b others f = absurd (false≢true f)
split_lines (begins line ∷ s) (t ∷ a) b others f =
    ap (λ c. nat_eq line t.line && c) (split_lines s (t ∷ a) b others f) ∙ and_assoc (nat_eq line t.line) (lines_agree s (t ∷ a)) (lines_agree others b)
split_lines (passes ∷ s) [] b others f = absurd (false≢true f)
split_lines (passes ∷ s) (t ∷ a) b others f = split_lines s a b others f
