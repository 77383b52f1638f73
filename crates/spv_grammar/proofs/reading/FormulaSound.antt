-- What is read as a formula is spelled at the front, on its lines.
use Rattle.std.proofs.Common.{◌≡◌, ℕ, zero, suc, List, ◌∷◌, Option, Some, None, refl, sym, ap, ◌∙◌}
use Rattle.spv_tree.specs.declared.tokens.token.Token.{Token}
use Rattle.spv_tree.specs.declared.tokens.token.TokenKind.{TokenKind}
use Rattle.spv_tree.specs.declared.tokens.token.TokenKind.TheVariants as kind
use Rattle.spv_tree.specs.declared.tokens.token.Word.TheVariants as word
use Rattle.spv_tree.specs.declared.tokens.token.Sign.TheVariants as sign
use Rattle.spv_tree.specs.declared.syntax.names.Name.{Name}
use Rattle.spv_tree.specs.declared.syntax.operators.PlusOrMinus.{PlusOrMinus}
use Rattle.spv_tree.specs.declared.syntax.operators.Comparison.{Comparison}
use Rattle.spv_tree.specs.declared.syntax.operators.Adding.{Adding}
use Rattle.spv_tree.specs.declared.syntax.operators.Multiplying.{Multiplying}
use Rattle.spv_tree.specs.syntax.Formulas.{Formula, formula, no_conclusion, implies, relation, no_right_side, compared, simple, no_more_terms, more_terms, term, no_more_factors, more_factors, Factor, class, place, application, bracketed, negation, no_more_formulas, more_formulas, designator, no_selectors, selectors, index, field, content}
use Rattle.spv_tree.specs.syntax.Steps.{Step, begins, passes, first_line, lines_agree}
use Rattle.spv_tree.specs.syntax.Reads.{kinds}
use Rattle.spv_grammar.specs.reading.Readers.{Read, front, after, is, Reader, nothing, and_then, name, operated}
use Rattle.spv_grammar.specs.reading.FormulaReaders.{prefix_of, comparison_of, adding_of, multiplying_of, read_more_formulas, read_index, read_field, selector_by, read_selectors, read_application, read_place, read_named, read_bracketed, read_designator, factor_by, read_more_factors, read_term, read_more_terms, simple_by, read_simple, right_side_by, read_relation, read_conclusion, formula_by, read_inner, read_factor, read_formula}
use Rattle.spv_grammar.specs.reading.Parts.{BeginsWith, name_part, led, formula_part, conclusion_part, relation_part, right_side_part, simple_part, added_term_part, more_terms_part, term_part, multiplied_factor_part, more_factors_part, factor_part, more_formulas_part, designator_part, selectors_part, selector_part}
use Rattle.spv_grammar.proofs.reading.Fronts.{Passed, some_is, passed, is-true, begun, join, starting_at, started}
use Rattle.spv_grammar.proofs.reading.Sound.{On, OnItem, on_none, on_some, on_then, on_if, on_past, name_begins, name_sound, name_at_sound, IsList, items_sound, on_item, on_no_item, behind_sound}
use Rattle.spv_tree.specs.syntax.Members.{in_kinds, in_lines}
use Rattle.spv_tree.specs.syntax.FormulaSpelling.{factor_spelling, adding_kind, comparison_kind, multiplying_kind, prefix_kind}

-- ---- operators

pub prefix_is : (o : Option TokenKind) (a : PlusOrMinus) → prefix_of o ≡ Some a → o ≡ Some (prefix_kind a)
prefix_is (Some (kind.Sign sign.Plus)) a e = ap (λ x. Some (prefix_kind x)) (some_is _ _ e)
prefix_is (Some (kind.Sign sign.Minus)) a e = ap (λ x. Some (prefix_kind x)) (some_is _ _ e)
prefix_is _ a e = absurd (cc)

comparison_is : (o : Option TokenKind) (a : Comparison) → comparison_of o ≡ Some a → o ≡ Some (comparison_kind a)
comparison_is (Some (kind.Sign sign.Equal)) a e = ap (λ x. Some (comparison_kind x)) (some_is _ _ e)
comparison_is (Some (kind.Sign sign.NotEqual)) a e = ap (λ x. Some (comparison_kind x)) (some_is _ _ e)
comparison_is (Some (kind.Sign sign.Less)) a e = ap (λ x. Some (comparison_kind x)) (some_is _ _ e)
comparison_is (Some (kind.Sign sign.AtMost)) a e = ap (λ x. Some (comparison_kind x)) (some_is _ _ e)
comparison_is (Some (kind.Sign sign.Greater)) a e = ap (λ x. Some (comparison_kind x)) (some_is _ _ e)
comparison_is (Some (kind.Sign sign.AtLeast)) a e = ap (λ x. Some (comparison_kind x)) (some_is _ _ e)
comparison_is _ a e = absurd (cc)

adding_is : (o : Option TokenKind) (a : Adding) → adding_of o ≡ Some a → o ≡ Some (adding_kind a)
adding_is (Some (kind.Sign sign.Plus)) a e = ap (λ x. Some (adding_kind x)) (some_is _ _ e)
adding_is (Some (kind.Sign sign.Minus)) a e = ap (λ x. Some (adding_kind x)) (some_is _ _ e)
adding_is (Some (kind.Word word.Or)) a e = ap (λ x. Some (adding_kind x)) (some_is _ _ e)
adding_is _ a e = absurd (cc)

multiplying_is : (o : Option TokenKind) (a : Multiplying) → multiplying_of o ≡ Some a → o ≡ Some (multiplying_kind a)
multiplying_is (Some (kind.Sign sign.Star)) a e = ap (λ x. Some (multiplying_kind x)) (some_is _ _ e)
multiplying_is (Some (kind.Word word.Div)) a e = ap (λ x. Some (multiplying_kind x)) (some_is _ _ e)
multiplying_is (Some (kind.Word word.Mod)) a e = ap (λ x. Some (multiplying_kind x)) (some_is _ _ e)
multiplying_is (Some (kind.Word word.And)) a e = ap (λ x. Some (multiplying_kind x)) (some_is _ _ e)
multiplying_is _ a e = absurd (cc)

-- ---- what stands inside brackets

module _ (inner : Reader Formula) (inner_sound : (tokens : List Token) → On (inner tokens) (BeginsWith formula_part tokens)) where
  more_formulas_list : IsList no_more_formulas more_formulas (led (kind.Sign sign.Comma) formula_part) more_formulas_part
  more_formulas_list = record {
    none_spelled = λ rest. refl;
    none_lined = λ steps. refl;
    add_spelled = λ x xs rest. refl;
    add_lined = λ x xs steps. refl;
  }

  more_formulas_sound : (tokens : List Token) → On (read_more_formulas inner tokens) (BeginsWith more_formulas_part tokens)
  more_formulas_sound tokens = items_sound more_formulas_list _ (behind_sound formula_part _ inner inner_sound) _ tokens

  index_sound : (tokens mid : List Token) → Passed (kind.Sign sign.OpenBracket) tokens mid → On (read_index inner (first_line tokens) mid) (BeginsWith selector_part tokens)
  index_sound tokens mid p =
      on_then (inner_sound mid) (λ f behind a. on_then (more_formulas_sound behind) (λ more last b. on_past _ last (λ rest q. on_some _ (index (first_line tokens) f more) rest (started (join p (join a (join b q)))))))

  field_sound : (tokens mid : List Token) → Passed (kind.Sign sign.Period) tokens mid → On (read_field (first_line tokens) mid) (BeginsWith selector_part tokens)
  field_sound tokens mid p =
      on_then (name_sound mid) (λ x rest a. on_some _ (field (first_line tokens) x) rest (started (join p a)))

  selector_sound : (tokens : List Token) (o : Option TokenKind) → front tokens ≡ o → OnItem (selector_by inner o tokens) (BeginsWith selector_part tokens)
  selector_sound tokens (Some (kind.Sign sign.OpenBracket)) e = on_item (index_sound tokens _ (passed _ tokens e))
  selector_sound tokens (Some (kind.Sign sign.Period)) e = on_item (field_sound tokens _ (passed _ tokens e))
  selector_sound tokens (Some (kind.Sign sign.Caret)) e =
      let p = passed _ tokens e in
      on_item (on_some _ (content (first_line tokens)) (after tokens) (started p))
  selector_sound tokens _ e = on_no_item _

  selectors_list : IsList no_selectors selectors selector_part selectors_part
  selectors_list = record {
    none_spelled = λ rest. refl;
    none_lined = λ steps. refl;
    add_spelled = λ x xs rest. refl;
    add_lined = λ x xs steps. refl;
  }

  pub selectors_sound : (tokens : List Token) → On (read_selectors inner tokens) (BeginsWith selectors_part tokens)
  selectors_sound tokens = items_sound selectors_list _ (λ others. selector_sound others (front others) refl) _ tokens

  application_sound : (f : Name) (tokens mid last : List Token) → BeginsWith name_part tokens f mid → Passed (kind.Sign sign.OpenParenthesis) mid last → f.line ≡ first_line tokens → On (read_application inner f last) (BeginsWith factor_part tokens)
  application_sound f tokens mid last n p l =
      on_then (inner_sound last) (λ argument behind a. on_then (more_formulas_sound behind) (λ more closed b. on_past _ closed (λ next q. on_then (selectors_sound next) (λ selected rest s. on_some _ (application f.line f argument more selected) rest (starting_at f.line l (join n (join p (join a (join b (join q s))))))))))

  place_sound : (x : Name) (tokens mid : List Token) → BeginsWith name_part tokens x mid → x.line ≡ first_line tokens → On (read_place inner x mid) (BeginsWith factor_part tokens)
  place_sound x tokens mid n l =
      on_then (selectors_sound mid) (λ selected rest s. on_some _ (place x.line (designator x.line x selected)) rest (starting_at x.line l (starting_at x.line l (join n s))))

  named_sound : (x : Name) (tokens mid : List Token) → BeginsWith name_part tokens x mid → x.line ≡ first_line tokens → On (read_named inner x mid) (BeginsWith factor_part tokens)
  named_sound x tokens mid n l =
      on_if (is (kind.Sign sign.OpenParenthesis) (front mid)) _ _ (λ h. application_sound x tokens mid (after mid) n (passed _ mid (is-true _ (front mid) h)) l) (λ h. place_sound x tokens mid n l)

  bracketed_sound : (tokens mid : List Token) → Passed (kind.Sign sign.OpenParenthesis) tokens mid → On (read_bracketed inner (first_line tokens) mid) (BeginsWith factor_part tokens)
  bracketed_sound tokens mid p =
      on_then (inner_sound mid) (λ f last a. on_past _ last (λ rest q. on_some _ (bracketed (first_line tokens) f) rest (started (join p (join a q)))))

  pub designator_sound : (tokens : List Token) → On (read_designator inner tokens) (BeginsWith designator_part tokens)
  designator_sound tokens =
      on_then (name_at_sound tokens) (λ x mid n. on_then (selectors_sound mid) (λ selected rest s. on_some _ (designator x.line x selected) rest (starting_at x.line n.line (join n.begins s))))

  -- a factor, where the one behind NOT is read by `below`
  module _ (below : Reader Factor) (below_sound : (tokens : List Token) → On (below tokens) (BeginsWith factor_part tokens)) where
    negation_sound : (tokens mid : List Token) → Passed (kind.Word word.Not) tokens mid → On (and_then (below mid) (λ f rest. Read (negation (first_line tokens) f, rest))) (BeginsWith factor_part tokens)
    negation_sound tokens mid p =
        on_then (below_sound mid) (λ f rest a. on_some _ (negation (first_line tokens) f) rest (started (join p a)))

    class_sound : (tokens mid : List Token) → Passed (kind.Sign sign.Hash) tokens mid → On (and_then (name mid) (λ x rest. Read (class (first_line tokens) x, rest))) (BeginsWith factor_part tokens)
    class_sound tokens mid p =
        on_then (name_sound mid) (λ x rest a. on_some _ (class (first_line tokens) x) rest (started (join p a)))

    -- a factor of one token
    one_token : (f : Factor) (k : TokenKind) (tokens : List Token) → ((rest : List TokenKind) → factor_spelling in_kinds f rest ≡ k ∷ rest) → ((steps : List Step) → (factor_spelling in_lines) f steps ≡ begins (first_line tokens) ∷ passes ∷ steps) → front tokens ≡ Some k → On (Read (f, after tokens)) (BeginsWith factor_part tokens)
    one_token f k tokens spelled lined e =
        let p = passed k tokens e in
        on_some _ f (after tokens) (record {
          spelled = p.spelled ∙ sym (spelled (kinds (after tokens)));
          lined = λ steps. ap (λ s. lines_agree s tokens) (lined steps) ∙ begun tokens _ ∙ p.lined steps;
        })

    pub factor_by_sound : (tokens : List Token) (o : Option TokenKind) → front tokens ≡ o → On (factor_by inner below o tokens) (BeginsWith factor_part tokens)
    factor_by_sound tokens (Some (kind.Number n)) e = one_token _ _ tokens (λ rest. refl) (λ steps. refl) e
    factor_by_sound tokens (Some (kind.Word word.True)) e = one_token _ _ tokens (λ rest. refl) (λ steps. refl) e
    factor_by_sound tokens (Some (kind.Word word.False)) e = one_token _ _ tokens (λ rest. refl) (λ steps. refl) e
    factor_by_sound tokens (Some (kind.Word word.Nil)) e = one_token _ _ tokens (λ rest. refl) (λ steps. refl) e
    factor_by_sound tokens (Some (kind.Word word.Not)) e = negation_sound tokens _ (passed _ tokens e)
    factor_by_sound tokens (Some (kind.Sign sign.Hash)) e = class_sound tokens _ (passed _ tokens e)
    factor_by_sound tokens (Some (kind.Sign sign.OpenParenthesis)) e = bracketed_sound tokens _ (passed _ tokens e)
    factor_by_sound tokens (Some (kind.Name x)) e = named_sound (record { line = first_line tokens; symbol = x }) tokens (after tokens) (name_begins tokens x e) refl
    factor_by_sound tokens _ e = on_none _

-- ---- sums, relations and formulas

module _ (factor : Reader Factor) (factor_sound : (tokens : List Token) → On (factor tokens) (BeginsWith factor_part tokens)) where
  more_factors_list : IsList no_more_factors (λ p. more_factors p.0 p.1) multiplied_factor_part more_factors_part
  more_factors_list = record {
    none_spelled = λ rest. refl;
    none_lined = λ steps. refl;
    add_spelled = λ x xs rest. refl;
    add_lined = λ x xs steps. refl;
  }

  multiplied_sound : (tokens : List Token) (o : Option Multiplying) → multiplying_of (front tokens) ≡ o → OnItem (operated o factor tokens) (BeginsWith multiplied_factor_part tokens)
  multiplied_sound tokens None e = on_no_item _
  multiplied_sound tokens (Some operator) e =
      let p = passed _ tokens (multiplying_is (front tokens) operator e) in
      on_item (on_then (factor_sound (after tokens)) (λ f rest a. on_some _ (operator, f) rest (join p a)))

  more_factors_sound : (tokens : List Token) → On (read_more_factors factor tokens) (BeginsWith more_factors_part tokens)
  more_factors_sound tokens = items_sound more_factors_list _ (λ others. multiplied_sound others (multiplying_of (front others)) refl) _ tokens

  term_sound : (tokens : List Token) → On (read_term factor tokens) (BeginsWith term_part tokens)
  term_sound tokens =
      on_then (factor_sound tokens) (λ f mid a. on_then (more_factors_sound mid) (λ more rest b. on_some _ (term (first_line tokens) f more) rest (started (join a b))))

  more_terms_list : IsList no_more_terms (λ p. more_terms p.0 p.1) added_term_part more_terms_part
  more_terms_list = record {
    none_spelled = λ rest. refl;
    none_lined = λ steps. refl;
    add_spelled = λ x xs rest. refl;
    add_lined = λ x xs steps. refl;
  }

  added_sound : (tokens : List Token) (o : Option Adding) → adding_of (front tokens) ≡ o → OnItem (operated o (read_term factor) tokens) (BeginsWith added_term_part tokens)
  added_sound tokens None e = on_no_item _
  added_sound tokens (Some operator) e =
      let p = passed _ tokens (adding_is (front tokens) operator e) in
      on_item (on_then (term_sound (after tokens)) (λ t rest a. on_some _ (operator, t) rest (join p a)))

  more_terms_sound : (tokens : List Token) → On (read_more_terms factor tokens) (BeginsWith more_terms_part tokens)
  more_terms_sound tokens = items_sound more_terms_list _ (λ others. added_sound others (adding_of (front others)) refl) _ tokens

  simple_by_sound : (tokens : List Token) (o : Option PlusOrMinus) → prefix_of (front tokens) ≡ o → On (simple_by factor o tokens) (BeginsWith simple_part tokens)
  simple_by_sound tokens None e =
      on_then (term_sound tokens) (λ t mid a. on_then (more_terms_sound mid) (λ more rest b. on_some _ (simple (first_line tokens) None t more) rest (started (join a b))))
  simple_by_sound tokens (Some s) e =
      let p = passed _ tokens (prefix_is (front tokens) s e) in
      on_then (term_sound (after tokens)) (λ t mid a. on_then (more_terms_sound mid) (λ more rest b. on_some _ (simple (first_line tokens) (Some s) t more) rest (started (join p (join a b)))))

  simple_sound : (tokens : List Token) → On (read_simple factor tokens) (BeginsWith simple_part tokens)
  simple_sound tokens = simple_by_sound tokens (prefix_of (front tokens)) refl

  right_side_sound : (tokens : List Token) (o : Option Comparison) → comparison_of (front tokens) ≡ o → On (right_side_by factor o tokens) (BeginsWith right_side_part tokens)
  right_side_sound tokens None e = on_some _ no_right_side tokens (record { spelled = refl; lined = λ steps. refl })
  right_side_sound tokens (Some operator) e =
      let p = passed _ tokens (comparison_is (front tokens) operator e) in
      on_then (simple_sound (after tokens)) (λ s rest a. on_some _ (compared operator s) rest (join p a))

  relation_sound : (tokens : List Token) → On (read_relation factor tokens) (BeginsWith relation_part tokens)
  relation_sound tokens =
      on_then (simple_sound tokens) (λ s mid a. on_then (right_side_sound mid (comparison_of (front mid)) refl) (λ right rest b. on_some _ (relation (first_line tokens) s right) rest (started (join a b))))

  module _ (inner : Reader Formula) (inner_sound : (tokens : List Token) → On (inner tokens) (BeginsWith formula_part tokens)) where
    implied_sound : (tokens mid : List Token) → Passed (kind.Sign sign.Arrow) tokens mid → On (and_then (inner mid) (λ f rest. Read (implies f, rest))) (BeginsWith conclusion_part tokens)
    implied_sound tokens mid p =
        on_then (inner_sound mid) (λ f rest a. on_some _ (implies f) rest (join p a))

    conclusion_sound : (tokens : List Token) → On (read_conclusion inner tokens) (BeginsWith conclusion_part tokens)
    conclusion_sound tokens =
        on_if (is (kind.Sign sign.Arrow) (front tokens)) _ _ (λ h. implied_sound tokens _ (passed _ tokens (is-true _ (front tokens) h))) (λ h. on_some _ no_conclusion tokens (record { spelled = refl; lined = λ steps. refl }))

    formula_by_sound : (tokens : List Token) → On (formula_by factor inner tokens) (BeginsWith formula_part tokens)
    formula_by_sound tokens =
        on_then (relation_sound tokens) (λ r mid a. on_then (conclusion_sound mid) (λ c rest b. on_some _ (formula (first_line tokens) r c) rest (started (join a b))))

-- ---- at every level

mutual
  pub inner_sound : (n : ℕ) (tokens : List Token) → On (read_inner n tokens) (BeginsWith formula_part tokens)
  inner_sound zero tokens = on_none _
  inner_sound (suc n) tokens = formula_by_sound (read_factor n) (factor_sound n) (read_inner n) (inner_sound n) tokens

  pub factor_sound : (n : ℕ) (tokens : List Token) → On (read_factor n tokens) (BeginsWith factor_part tokens)
  factor_sound zero tokens = factor_by_sound nothing (λ others. on_none _) nothing (λ others. on_none _) tokens (front tokens) refl
  factor_sound (suc n) tokens =
      factor_by_sound (formula_by (read_factor n) (read_inner n)) (formula_by_sound (read_factor n) (factor_sound n) (read_inner n) (inner_sound n)) (read_factor n) (factor_sound n) tokens (front tokens) refl

pub formula_sound : (n : ℕ) (tokens : List Token) → On (read_formula n tokens) (BeginsWith formula_part tokens)
formula_sound n tokens = formula_by_sound (read_factor n) (factor_sound n) (read_inner n) (inner_sound n) tokens
