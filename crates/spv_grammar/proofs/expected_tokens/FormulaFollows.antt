-- Formulas are read as they are expected.
use Rattle.std.proofs.Common.{◌≡◌, ℕ, zero, suc, Bool, true, false, if◌then◌else◌, List, [], ◌∷◌, Option, Some, None, refl, ap, arith}
use Rattle.spv_tree.specs.declared.tokens.token.Token.{Token}
use Rattle.spv_tree.specs.declared.tokens.token.TokenKind.{TokenKind}
use Rattle.spv_tree.specs.declared.tokens.token.TokenKind.TheVariants as kind
use Rattle.spv_tree.specs.declared.tokens.token.Word.TheVariants as word
use Rattle.spv_tree.specs.declared.tokens.token.Sign.TheVariants as sign
use Rattle.spv_tree.specs.declared.syntax.names.Name.{Name}
use Rattle.spv_tree.specs.declared.syntax.operators.PlusOrMinus.{PlusOrMinus}
use Rattle.spv_tree.specs.declared.syntax.operators.Comparison.{Comparison}
use Rattle.spv_tree.specs.declared.syntax.operators.Adding.{Adding}
use Rattle.spv_tree.specs.declared.syntax.operators.Multiplying.{Multiplying}
use Rattle.spv_tree.specs.syntax.Formulas.{Formula, no_more_formulas, more_formulas, no_selectors, selectors, Factor, no_more_factors, more_factors, no_more_terms, more_terms, bracketed, application, index, field, place, designator}
use Rattle.spv_grammar.specs.reading.Readers.{front, after, is, Reader, nothing, behind, operated}
use Rattle.spv_grammar.specs.reading.FormulaReaders.{prefix_of, comparison_of, adding_of, multiplying_of, read_field, read_more_formulas, read_index, selector_by, read_selectors, read_application, read_place, read_named, read_bracketed, read_designator, factor_by, read_conclusion, read_more_factors, read_term, read_more_terms, read_sum, simple_by, read_simple, right_side_by, read_relation, formula_by, read_inner, read_factor, read_formula}
use Rattle.spv_grammar.specs.expected_tokens.Expected.{signed, compared, added, multiplied, named_by, predict}
use Rattle.spv_grammar.specs.expected_tokens.Expected as expected
use Rattle.spv_grammar.proofs.expected_tokens.Follows.{Follows, gives, no_level, one_less, misfit_at, open_at, take_first, take_at, follows_then, follows_past, follows_name, FollowsItem, no_item, an_item, follows_all, follows_behind, follows_where}

-- ---- what stands inside brackets

module _ {m : ℕ} (inner : Reader Formula) (inner_follows : (tokens : List Token) → Follows m (expected.formula ∷ []) tokens (inner tokens)) where
  more_formulas_item : (tokens : List Token) → FollowsItem m expected.more_formulas tokens (behind (kind.Sign sign.Comma) inner tokens)
  more_formulas_item = follows_behind expected.more_formulas (expected.formula ∷ []) (kind.Sign sign.Comma) inner (λ o. refl) inner_follows

  pub more_formulas_follow : (tokens : List Token) → Follows m (expected.more_formulas ∷ []) tokens (read_more_formulas inner tokens)
  more_formulas_follow tokens = follows_all expected.more_formulas no_more_formulas more_formulas _ more_formulas_item tokens

  pub index_follows : (line : ℕ) (tokens : List Token) → Follows m (expected.formula ∷ expected.more_formulas ∷ expected.token (kind.Sign sign.CloseBracket) ∷ []) tokens (read_index inner line tokens)
  index_follows line tokens = follows_then (inner_follows tokens) (λ f mid. follows_then (more_formulas_follow mid) (λ more last. follows_past _ last (λ rest. gives m rest (index line f more))))

  pub field_follows : (line : ℕ) (tokens : List Token) → Follows m (expected.name ∷ []) tokens (read_field line tokens)
  field_follows line tokens = follows_then (follows_name tokens) (λ x rest. gives m rest (field line x))

  pub selector_item : (tokens : List Token) → FollowsItem m expected.selectors tokens (selector_by inner (front tokens) tokens)
  selector_item [] = no_item [] refl
  selector_item (t ∷ tokens) = by_kind t.kind refl
    where
      by_kind : (k : TokenKind) → t.kind ≡ k → FollowsItem m expected.selectors (t ∷ tokens) (selector_by inner (Some k) (t ∷ tokens))
      by_kind (kind.Sign sign.OpenBracket) e = an_item t tokens (expected.formula ∷ expected.more_formulas ∷ expected.token (kind.Sign sign.CloseBracket) ∷ []) _ (ap (λ k. predict expected.selectors (Some k)) e) (index_follows _ tokens)
      by_kind (kind.Sign sign.Period) e = an_item t tokens (expected.name ∷ []) _ (ap (λ k. predict expected.selectors (Some k)) e) (field_follows _ tokens)
      by_kind (kind.Sign sign.Caret) e = an_item t tokens [] _ (ap (λ k. predict expected.selectors (Some k)) e) (gives m tokens _)
      by_kind k e = no_item (t ∷ tokens) (ap (λ k. predict expected.selectors (Some k)) e)

  pub selectors_follow : (tokens : List Token) → Follows m (expected.selectors ∷ []) tokens (read_selectors inner tokens)
  selectors_follow tokens = follows_all expected.selectors no_selectors selectors _ selector_item tokens

  application_follows : (x : Name) (tokens : List Token) → Follows m (expected.formula ∷ expected.more_formulas ∷ expected.token (kind.Sign sign.CloseParenthesis) ∷ expected.selectors ∷ []) tokens (read_application inner x tokens)
  application_follows x tokens =
      follows_then (inner_follows tokens) (λ f mid. follows_then (more_formulas_follow mid) (λ more last. follows_past _ last (λ next. follows_then (selectors_follow next) (λ selected rest. gives m rest (application x.line x f more selected)))))

  place_follows : (x : Name) (tokens : List Token) → Follows m (expected.selectors ∷ []) tokens (read_place inner x tokens)
  place_follows x tokens = follows_then (selectors_follow tokens) (λ selected rest. gives m rest (place x.line (designator x.line x selected)))

  named_follows : (x : Name) (tokens : List Token) → Follows m (expected.named ∷ []) tokens (read_named inner x tokens)
  named_follows x [] = open_at m expected.named [] (expected.selectors ∷ []) _ [] None refl refl (place_follows x [])
  named_follows x (t ∷ tokens) = by_test (is (kind.Sign sign.OpenParenthesis) (Some t.kind)) refl
    where
      by_test : (b : Bool) → is (kind.Sign sign.OpenParenthesis) (Some t.kind) ≡ b → Follows m (expected.named ∷ []) (t ∷ tokens) (if b then read_application inner x tokens else read_place inner x (t ∷ tokens))
      by_test true e = one_less (take_first m expected.named [] _ _ t tokens (ap named_by e) (application_follows x tokens))
      by_test false e = open_at m expected.named [] (expected.selectors ∷ []) _ (t ∷ tokens) (Some t.kind) refl (ap named_by e) (place_follows x (t ∷ tokens))

  bracketed_follows : (line : ℕ) (tokens : List Token) → Follows m (expected.formula ∷ expected.token (kind.Sign sign.CloseParenthesis) ∷ []) tokens (read_bracketed inner line tokens)
  bracketed_follows line tokens = follows_then (inner_follows tokens) (λ f last. follows_past _ last (λ rest. gives m rest (bracketed line f)))

  pub designator_follows : (tokens : List Token) → Follows m (expected.name ∷ expected.selectors ∷ []) tokens (read_designator inner tokens)
  designator_follows tokens = follows_then (follows_name tokens) (λ x mid. follows_then (selectors_follow mid) (λ selected rest. gives m rest (designator x.line x selected)))

  module _ (below : Reader Factor) (below_follows : (tokens : List Token) → Follows m (expected.factor ∷ []) tokens (below tokens)) where
    factor_by_follows : (tokens : List Token) (o : Option TokenKind) → front tokens ≡ o → Follows (suc m) (expected.factor ∷ []) tokens (factor_by inner below o tokens)
    factor_by_follows tokens (Some (kind.Number n)) e = take_at m expected.factor [] [] _ tokens _ e refl (gives m (after tokens) _)
    factor_by_follows tokens (Some (kind.Word word.True)) e = take_at m expected.factor [] [] _ tokens _ e refl (gives m (after tokens) _)
    factor_by_follows tokens (Some (kind.Word word.False)) e = take_at m expected.factor [] [] _ tokens _ e refl (gives m (after tokens) _)
    factor_by_follows tokens (Some (kind.Word word.Nil)) e = take_at m expected.factor [] [] _ tokens _ e refl (gives m (after tokens) _)
    factor_by_follows tokens (Some (kind.Word word.Not)) e = take_at m expected.factor [] (expected.factor ∷ []) _ tokens _ e refl (follows_then (below_follows (after tokens)) (λ f rest. gives m rest _))
    factor_by_follows tokens (Some (kind.Sign sign.Hash)) e = take_at m expected.factor [] (expected.name ∷ []) _ tokens _ e refl (follows_then (follows_name (after tokens)) (λ x rest. gives m rest _))
    factor_by_follows tokens (Some (kind.Sign sign.OpenParenthesis)) e =
        take_at m expected.factor [] (expected.formula ∷ expected.token (kind.Sign sign.CloseParenthesis) ∷ []) _ tokens _ e refl (bracketed_follows _ (after tokens))
    factor_by_follows tokens (Some (kind.Name x)) e = take_at m expected.factor [] (expected.named ∷ []) _ tokens _ e refl (named_follows _ (after tokens))
    factor_by_follows tokens o e = misfit_at (suc m) expected.factor [] tokens o e refl

-- ---- sums, relations and formulas

module _ {m : ℕ} (factor : Reader Factor) (factor_follows : (tokens : List Token) → Follows m (expected.factor ∷ []) tokens (factor tokens)) where
  multiplied_item : (tokens : List Token) → FollowsItem m expected.more_factors tokens (operated (multiplying_of (front tokens)) factor tokens)
  multiplied_item [] = no_item [] refl
  multiplied_item (t ∷ tokens) = by_operator (multiplying_of (Some t.kind)) refl
    where
      by_operator : (o : Option Multiplying) → multiplying_of (Some t.kind) ≡ o → FollowsItem m expected.more_factors (t ∷ tokens) (operated o factor (t ∷ tokens))
      by_operator None e = no_item (t ∷ tokens) (ap multiplied e)
      by_operator (Some operator) e = an_item t tokens (expected.factor ∷ []) _ (ap multiplied e) (follows_then (factor_follows tokens) (λ x rest. gives m rest _))

  more_factors_follow : (tokens : List Token) → Follows m (expected.more_factors ∷ []) tokens (read_more_factors factor tokens)
  more_factors_follow tokens = follows_all expected.more_factors no_more_factors (λ p. more_factors p.0 p.1) _ multiplied_item tokens

  term_follows : (tokens : List Token) → Follows m (expected.term ∷ []) tokens (read_term factor tokens)
  term_follows tokens =
      open_at m expected.term [] (expected.factor ∷ expected.more_factors ∷ []) _ tokens (front tokens) refl refl (follows_then (factor_follows tokens) (λ f mid. follows_then (more_factors_follow mid) (λ more rest. gives m rest _)))

  added_item : (tokens : List Token) → FollowsItem m expected.more_terms tokens (operated (adding_of (front tokens)) (read_term factor) tokens)
  added_item [] = no_item [] refl
  added_item (t ∷ tokens) = by_operator (adding_of (Some t.kind)) refl
    where
      by_operator : (o : Option Adding) → adding_of (Some t.kind) ≡ o → FollowsItem m expected.more_terms (t ∷ tokens) (operated o (read_term factor) (t ∷ tokens))
      by_operator None e = no_item (t ∷ tokens) (ap added e)
      by_operator (Some operator) e = an_item t tokens (expected.term ∷ []) _ (ap added e) (follows_then (term_follows tokens) (λ x rest. gives m rest _))

  more_terms_follow : (tokens : List Token) → Follows m (expected.more_terms ∷ []) tokens (read_more_terms factor tokens)
  more_terms_follow tokens = follows_all expected.more_terms no_more_terms (λ p. more_terms p.0 p.1) _ added_item tokens

  sum_follows : (line : ℕ) (prefix : Option PlusOrMinus) (tokens : List Token) → Follows m (expected.term ∷ expected.more_terms ∷ []) tokens (read_sum factor line prefix tokens)
  sum_follows line prefix tokens = follows_then (term_follows tokens) (λ t mid. follows_then (more_terms_follow mid) (λ more rest. gives m rest _))

  simple_follows : (tokens : List Token) → Follows m (expected.simple ∷ []) tokens (read_simple factor tokens)
  simple_follows [] = open_at m expected.simple [] (expected.term ∷ expected.more_terms ∷ []) _ [] None refl refl (sum_follows _ None [])
  simple_follows (t ∷ tokens) = by_prefix (prefix_of (Some t.kind)) refl
    where
      by_prefix : (o : Option PlusOrMinus) → prefix_of (Some t.kind) ≡ o → Follows m (expected.simple ∷ []) (t ∷ tokens) (simple_by factor o (t ∷ tokens))
      by_prefix None e =
          open_at m expected.simple [] (expected.term ∷ expected.more_terms ∷ []) _ (t ∷ tokens) (Some t.kind) refl (ap (λ o. signed o (expected.term ∷ expected.more_terms ∷ [])) e) (sum_follows _ None (t ∷ tokens))
      by_prefix (Some s) e =
          one_less (take_first m expected.simple [] (expected.term ∷ expected.more_terms ∷ []) _ t tokens (ap (λ o. signed o (expected.term ∷ expected.more_terms ∷ [])) e) (sum_follows _ (Some s) tokens))

  right_side_follows : (tokens : List Token) → Follows m (expected.right_side ∷ []) tokens (right_side_by factor (comparison_of (front tokens)) tokens)
  right_side_follows [] = open_at m expected.right_side [] [] _ [] None refl refl (gives m [] _)
  right_side_follows (t ∷ tokens) = by_comparison (comparison_of (Some t.kind)) refl
    where
      by_comparison : (o : Option Comparison) → comparison_of (Some t.kind) ≡ o → Follows m (expected.right_side ∷ []) (t ∷ tokens) (right_side_by factor o (t ∷ tokens))
      by_comparison None e = open_at m expected.right_side [] [] _ (t ∷ tokens) (Some t.kind) refl (ap compared e) (gives m (t ∷ tokens) _)
      by_comparison (Some operator) e =
          one_less (take_first m expected.right_side [] (expected.simple ∷ []) _ t tokens (ap compared e) (follows_then (simple_follows tokens) (λ s rest. gives m rest _)))

  relation_follows : (tokens : List Token) → Follows m (expected.simple ∷ expected.right_side ∷ []) tokens (read_relation factor tokens)
  relation_follows tokens = follows_then (simple_follows tokens) (λ s mid. follows_then (right_side_follows mid) (λ right rest. gives m rest _))

conclusion_follows : {n : ℕ} (inner : Reader Formula) → ((tokens : List Token) → Follows n (expected.formula ∷ []) tokens (inner tokens)) → (tokens : List Token) → Follows (suc n) (expected.conclusion ∷ []) tokens (read_conclusion inner tokens)
conclusion_follows {n} inner inner_follows tokens =
    follows_where n (suc n) (omega arith) expected.conclusion (expected.formula ∷ []) (kind.Sign sign.Arrow) (λ o. refl) tokens (follows_then (inner_follows (after tokens)) (λ f rest. gives n rest _)) (gives (suc n) tokens _)

formula_by_follows : {n : ℕ} (factor : Reader Factor) → ((tokens : List Token) → Follows (suc n) (expected.factor ∷ []) tokens (factor tokens)) → (inner : Reader Formula) → ((tokens : List Token) → Follows n (expected.formula ∷ []) tokens (inner tokens)) → (tokens : List Token) → Follows (suc n) (expected.formula ∷ []) tokens (formula_by factor inner tokens)
formula_by_follows {n} factor factor_follows inner inner_follows tokens =
    open_at (suc n) expected.formula [] (expected.simple ∷ expected.right_side ∷ expected.conclusion ∷ []) _ tokens (front tokens) refl refl
    (follows_then (relation_follows factor factor_follows tokens) (λ r mid. follows_then (conclusion_follows inner inner_follows mid) (λ c rest. gives (suc n) rest _)))

-- ---- at every level

mutual
  pub inner_follows : (n : ℕ) (tokens : List Token) → Follows n (expected.formula ∷ []) tokens (read_inner n tokens)
  inner_follows zero tokens = no_level (expected.formula ∷ []) tokens
  inner_follows (suc n) tokens = formula_by_follows (read_factor n) (factor_follows n) (read_inner n) (inner_follows n) tokens

  factor_follows : (n : ℕ) (tokens : List Token) → Follows (suc n) (expected.factor ∷ []) tokens (read_factor n tokens)
  factor_follows zero tokens =
      factor_by_follows nothing (λ others. no_level (expected.formula ∷ []) others) nothing (λ others. no_level (expected.factor ∷ []) others) tokens (front tokens) refl
  factor_follows (suc n) tokens =
      factor_by_follows (formula_by (read_factor n) (read_inner n)) (formula_by_follows (read_factor n) (factor_follows n) (read_inner n) (inner_follows n)) (read_factor n) (factor_follows n) tokens (front tokens) refl

pub formula_follows : (n : ℕ) (tokens : List Token) → Follows (suc n) (expected.formula ∷ []) tokens (read_formula n tokens)
formula_follows n tokens = formula_by_follows (read_factor n) (factor_follows n) (read_inner n) (inner_follows n) tokens
