-- A formula that is spelled is read.
use Rattle.std.proofs.Common.{◌≡◌, ℕ, zero, suc, ◌≤◌, true, false, List, ◌∷◌, Option, Some, None, is_some, length, refl, sym, ap, ◌∙◌, arith}
use Rattle.std.proofs.lemmas.Bool.{false≢true}
use Rattle.spv_logic.proofs.list.Tests.{left_false, right_false}
use Rattle.spv_tree.specs.declared.tokens.token.Token.{Token}
use Rattle.spv_tree.specs.declared.tokens.token.TokenKind.{TokenKind}
use Rattle.spv_tree.specs.declared.tokens.token.TokenKind.TheVariants as kind
use Rattle.spv_tree.specs.declared.tokens.token.Word.TheVariants as word
use Rattle.spv_tree.specs.declared.tokens.token.Sign.TheVariants as sign
use Rattle.spv_tree.specs.declared.syntax.names.Name.{Name}
use Rattle.spv_tree.specs.syntax.Formulas.{Formula, formula, Conclusion, no_conclusion, implies, Relation, relation, RightSide, no_right_side, compared, Simple, simple, MoreTerms, no_more_terms, more_terms, Term, term, MoreFactors, no_more_factors, more_factors, Factor, number, truth, nil, class, place, application, bracketed, negation, MoreFormulas, no_more_formulas, more_formulas, designator, Selectors, no_selectors, selectors, Selector, index, field, content}
use Rattle.spv_tree.specs.syntax.Members.{in_kinds}
use Rattle.spv_tree.specs.syntax.FormulaSpelling.{more_terms_spelling, right_side_spelling, selector_spelling, term_spelling}
use Rattle.spv_tree.specs.syntax.Steps.{Step, begins, passes, first_line}
use Rattle.spv_grammar.specs.reading.Readers.{Read, first, front, after, is, Reader, nothing, behind, operated, items}
use Rattle.spv_grammar.specs.reading.FormulaReaders.{prefix_of, comparison_of, adding_of, multiplying_of, selector_by, read_application, read_named, factor_by, read_term, read_sum, simple_by, read_simple, right_side_by, read_relation, read_conclusion, formula_by, read_inner, read_factor, read_formula}
use Rattle.spv_grammar.specs.reading.Continuing.{continues_selectors, continues_factor, continues_term, continues_simple, continues_relation, continues_formula, continues_formulas}
use Rattle.spv_grammar.specs.reading.Depths.{formula_depth, conclusion_depth, relation_depth, right_side_depth, simple_depth, more_terms_depth, term_depth, more_factors_depth, factor_depth, more_formulas_depth, selectors_depth, selector_depth}
use Rattle.spv_grammar.specs.reading.Parts.{Stands, formula_part, conclusion_part, relation_part, right_side_part, simple_part, added_term_part, more_terms_part, term_part, multiplied_factor_part, more_factors_part, factor_part, more_formulas_part, selectors_part, selector_part}
use Rattle.spv_grammar.proofs.reading.Whole.{Answers, AnswersItem, Complete, CompleteItem, CompleteList, front_of, begun_of, taken_of, and_then_is, if_true, if_false, operated_is, operated_none, none_complete, more_complete, none_of, name_complete, behind_complete, behind_none, done, then_answers, past_answers, answers_after, item_after}
use Rattle.spv_grammar.proofs.reading.FormulaEnds.{prefix_back, comparison_back, adding_back, multiplying_back, more_factors_ends, more_terms_ends, right_side_ends, conclusion_ends, more_formulas_ends, selectors_end, no_prefix}

-- ---- one level down

-- what reads the factor behind NOT
abbrev below : ℕ → Reader Factor
below zero = nothing
below (suc n) = read_factor n

read_factor_is : (n : ℕ) (tokens : List Token) → read_factor n tokens ≡ factor_by (read_inner n) (below n) (front tokens) tokens
read_factor_is zero tokens = refl
read_factor_is (suc n) tokens = refl

at_level : (n : ℕ) {f : Factor} → Complete factor_part continues_factor (λ rest. factor_by (read_inner n) (below n) (front rest) rest) f → Complete factor_part continues_factor (read_factor n) f
at_level n h tokens spelled steps s e =
    let a = h tokens spelled steps s e in
    record { rest = a.rest; is = read_factor_is n tokens ∙ a.is; stands = a.stands; shorter = a.shorter }

pub inner_of : (n : ℕ) (f : Formula) → ((m : ℕ) → formula_depth f ≤ m → Complete formula_part continues_formula (read_formula m) f) → suc (formula_depth f) ≤ n → Complete formula_part continues_formula (read_inner n) f
inner_of zero f h d = absurd (omega arith)
inner_of (suc n) f h d = h n (omega arith)

below_of : (n : ℕ) (f : Factor) → ((m : ℕ) → factor_depth f ≤ m → Complete factor_part continues_factor (read_factor m) f) → suc (factor_depth f) ≤ n → Complete factor_part continues_factor (below n) f
below_of zero f h d = absurd (omega arith)
below_of (suc n) f h d = h n (omega arith)

-- ---- operators

module _ (factor : Reader Factor) where
  multiplied_item : (operator : _) (f : Factor) → Complete factor_part continues_factor factor f → CompleteItem multiplied_factor_part continues_factor (λ rest. operated (multiplying_of (front rest)) factor rest) (operator, f)
  multiplied_item operator f h tokens spelled steps s e =
      let p = taken_of s in
      let a = h (after tokens) spelled steps p.stands e in
      record { rest = a.rest; is = operated_is factor tokens (ap multiplying_of p.front ∙ multiplying_back operator) a.is; stands = a.stands; shorter = omega (arith, p.shorter, a.shorter) }

  added_item : (operator : _) (t : Term) → Complete term_part continues_term (read_term factor) t → CompleteItem added_term_part continues_term (λ rest. operated (adding_of (front rest)) (read_term factor) rest) (operator, t)
  added_item operator t h tokens spelled steps s e =
      let p = taken_of s in
      let a = h (after tokens) spelled steps p.stands e in
      record { rest = a.rest; is = operated_is (read_term factor) tokens (ap adding_of p.front ∙ adding_back operator) a.is; stands = a.stands; shorter = omega (arith, p.shorter, a.shorter) }

  -- ---- sums

  term_step : (line : ℕ) (f : Factor) (more : MoreFactors) → Complete factor_part continues_factor factor f → CompleteList more_factors_part continues_term (items no_more_factors (λ p. more_factors p.0 p.1) (λ rest. operated (multiplying_of (front rest)) factor rest)) more → Complete term_part continues_term (read_term factor) (term line f more)
  term_step line f more g h tokens spelled steps s e =
      let b = begun_of s in
      let a = g tokens _ _ b.stands (more_factors_ends more spelled e) in
      let c = h (length a.rest) a.rest spelled steps (omega arith) a.stands e in
      record {
        rest = c.rest;
        is = and_then_is _ a.is (and_then_is _ c.is (ap (λ l. Read (term l f more, c.rest)) b.line));
        stands = c.stands;
        shorter = omega (arith, a.shorter, c.shorter);
      }

  sum_step : (prefix : _) (line : ℕ) (t : Term) (more : MoreTerms) → Complete term_part continues_term (read_term factor) t → CompleteList more_terms_part continues_simple (items no_more_terms (λ p. more_terms p.0 p.1) (λ rest. operated (adding_of (front rest)) (read_term factor) rest)) more → (tokens : List Token) (spelled : List TokenKind) (steps : List Step) → Stands tokens (term_spelling in_kinds t (more_terms_spelling in_kinds more spelled)) (term_part.lined t (more_terms_part.lined more steps)) → continues_simple (first spelled) ≡ false → Answers (read_sum factor line prefix tokens) (simple line prefix t more) tokens spelled steps
  sum_step prefix line t more g h tokens spelled steps s e =
      let a = g tokens _ _ s (more_terms_ends more spelled e) in
      let c = h (length a.rest) a.rest spelled steps (omega arith) a.stands e in
      record {
        rest = c.rest;
        is = and_then_is _ a.is (and_then_is _ c.is refl);
        stands = c.stands;
        shorter = omega (arith, a.shorter, c.shorter);
      }

  simple_step : (prefix : _) (line : ℕ) (t : Term) (more : MoreTerms) → Complete term_part continues_term (read_term factor) t → CompleteList more_terms_part continues_simple (items no_more_terms (λ p. more_terms p.0 p.1) (λ rest. operated (adding_of (front rest)) (read_term factor) rest)) more → Complete simple_part continues_simple (read_simple factor) (simple line prefix t more)
  simple_step None line t more g h tokens spelled steps s e =
      let b = begun_of s in
      let a = sum_step None line t more g h tokens spelled steps b.stands e in
      record {
        rest = a.rest;
        is = ap (λ o. simple_by factor o tokens) (ap prefix_of (front_of s) ∙ no_prefix t _) ∙ ap (λ l. read_sum factor l None tokens) b.line ∙ a.is;
        stands = a.stands;
        shorter = a.shorter;
      }
  simple_step (Some sign) line t more g h tokens spelled steps s e =
      let b = begun_of s in
      let p = taken_of b.stands in
      let a = sum_step (Some sign) line t more g h (after tokens) spelled steps p.stands e in
      record {
        rest = a.rest;
        is = ap (λ o. simple_by factor o tokens) (ap prefix_of p.front ∙ prefix_back sign) ∙ ap (λ l. read_sum factor l (Some sign) (after tokens)) b.line ∙ a.is;
        stands = a.stands;
        shorter = omega (arith, p.shorter, a.shorter);
      }

  -- ---- relations and formulas

  compared_step : (operator : _) (t : Simple) → Complete simple_part continues_simple (read_simple factor) t → (tokens : List Token) (spelled : List TokenKind) (steps : List Step) → Stands tokens (right_side_spelling in_kinds (compared operator t) spelled) (right_side_part.lined (compared operator t) steps) → continues_relation (first spelled) ≡ false → Answers (right_side_by factor (comparison_of (front tokens)) tokens) (compared operator t) tokens spelled steps
  compared_step operator t g tokens spelled steps s e =
      let p = taken_of s in
      let a = g (after tokens) spelled steps p.stands (right_false (is_some (comparison_of (first spelled))) _ e) in
      record {
        rest = a.rest;
        is = ap (λ o. right_side_by factor o tokens) (ap comparison_of p.front ∙ comparison_back operator) ∙ and_then_is _ a.is refl;
        stands = a.stands;
        shorter = omega (arith, p.shorter, a.shorter);
      }

  not_compared : (tokens : List Token) (spelled : List TokenKind) (steps : List Step) → Stands tokens spelled steps → continues_relation (first spelled) ≡ false → Answers (right_side_by factor (comparison_of (front tokens)) tokens) no_right_side tokens spelled steps
  not_compared tokens spelled steps s e =
      record {
        rest = tokens;
        is = ap (λ o. right_side_by factor o tokens) (ap comparison_of (front_of s) ∙ none_of _ (left_false (is_some (comparison_of (first spelled))) _ e));
        stands = s;
        shorter = omega arith;
      }

  relation_step : (line : ℕ) (left : Simple) (right : RightSide) → Complete simple_part continues_simple (read_simple factor) left → Complete right_side_part continues_relation (λ rest. right_side_by factor (comparison_of (front rest)) rest) right → Complete relation_part continues_relation (read_relation factor) (relation line left right)
  relation_step line left right g h tokens spelled steps s e =
      let b = begun_of s in
      let a = g tokens _ _ b.stands (right_side_ends right spelled e) in
      let c = h a.rest spelled steps a.stands e in
      record {
        rest = c.rest;
        is = and_then_is _ a.is (and_then_is _ c.is (ap (λ l. Read (relation l left right, c.rest)) b.line));
        stands = c.stands;
        shorter = omega (arith, a.shorter, c.shorter);
      }

  formula_step : (inner : Reader Formula) (line : ℕ) (left : Relation) (right : Conclusion) → Complete relation_part continues_relation (read_relation factor) left → Complete conclusion_part continues_formula (read_conclusion inner) right → Complete formula_part continues_formula (formula_by factor inner) (formula line left right)
  formula_step inner line left right g h tokens spelled steps s e =
      let b = begun_of s in
      let a = g tokens _ _ b.stands (conclusion_ends right spelled e) in
      let c = h a.rest spelled steps a.stands e in
      record {
        rest = c.rest;
        is = and_then_is _ a.is (and_then_is _ c.is (ap (λ l. Read (formula l left right, c.rest)) b.line));
        stands = c.stands;
        shorter = omega (arith, a.shorter, c.shorter);
      }

implies_step : (inner : Reader Formula) (f : Formula) → Complete formula_part continues_formula inner f → Complete conclusion_part continues_formula (read_conclusion inner) (implies f)
implies_step inner f g tokens spelled steps s e =
    let p = taken_of s in
    let a = g (after tokens) spelled steps p.stands e in
    record {
      rest = a.rest;
      is = if_true _ (ap (is (kind.Sign sign.Arrow)) p.front) (and_then_is _ a.is refl);
      stands = a.stands;
      shorter = omega (arith, p.shorter, a.shorter);
    }

no_conclusion_step : (inner : Reader Formula) → Complete conclusion_part continues_formula (read_conclusion inner) no_conclusion
no_conclusion_step inner tokens spelled steps s e =
    record {
      rest = tokens;
      is = if_false _ (ap (is (kind.Sign sign.Arrow)) (front_of s) ∙ left_false (is (kind.Sign sign.Arrow) (first spelled)) _ e) refl;
      stands = s;
      shorter = omega arith;
    }

-- ---- inside brackets

-- an argument or index, and those behind it, up to the bracket
module _ (inner : Reader Formula) where
  abbrev further_formulas : ℕ → Reader MoreFormulas
  further_formulas = items no_more_formulas more_formulas (behind (kind.Sign sign.Comma) inner)

  abbrev AllComplete : MoreFormulas → Type 0
  AllComplete more = CompleteList more_formulas_part continues_formulas further_formulas more

  index_step : (line : ℕ) (f : Formula) (more : MoreFormulas) → Complete formula_part continues_formula inner f → AllComplete more → (tokens : List Token) (spelled : List TokenKind) (steps : List Step) → Stands tokens (selector_spelling in_kinds (index line f more) spelled) (selector_part.lined (index line f more) steps) → AnswersItem (selector_by inner (front tokens) tokens) (index line f more) tokens spelled steps
  index_step line f more g h tokens spelled steps s =
      let b = begun_of s in
      let p = taken_of b.stands in
      item_after p.shorter (ap (λ o. selector_by inner o tokens) p.front) (then_answers (g (after tokens) _ _ p.stands (more_formulas_ends more _ refl)) (λ x is_f mid m. then_answers (h (length mid) mid _ _ (omega arith) m refl) (λ xs is_more last q. past_answers _ refl q (λ rest r. done {y = index (first_line tokens) x xs} r (cc (b.line, is_f, is_more))))))

  field_step : (line : ℕ) (x : Name) (tokens : List Token) (spelled : List TokenKind) (steps : List Step) → Stands tokens (selector_spelling in_kinds (field line x) spelled) (selector_part.lined (field line x) steps) → AnswersItem (selector_by inner (front tokens) tokens) (field line x) tokens spelled steps
  field_step line x tokens spelled steps s =
      let b = begun_of s in
      let p = taken_of b.stands in
      let a = name_complete x p.stands in
      record {
        rest = a.rest;
        is = ap (λ o. selector_by inner o tokens) p.front ∙ ap Some (and_then_is _ a.is (ap (λ l. Read (field l x, a.rest)) b.line));
        stands = a.stands;
        shorter = omega (arith, p.shorter, a.shorter);
      }

  content_step : (line : ℕ) (tokens : List Token) (spelled : List TokenKind) (steps : List Step) → Stands tokens (selector_spelling in_kinds (content line) spelled) (selector_part.lined (content line) steps) → AnswersItem (selector_by inner (front tokens) tokens) (content line) tokens spelled steps
  content_step line tokens spelled steps s =
      let b = begun_of s in
      let p = taken_of b.stands in
      record {
        rest = after tokens;
        is = ap (λ o. selector_by inner o tokens) p.front ∙ ap (λ l. Some (Read (content l, after tokens))) b.line;
        stands = p.stands;
        shorter = p.shorter;
      }

  no_selector : (o : Option TokenKind) (tokens : List Token) → continues_selectors o ≡ false → selector_by inner o tokens ≡ None
  no_selector (Some (kind.Sign sign.OpenBracket)) tokens e = absurd (false≢true (sym e))
  no_selector (Some (kind.Sign sign.Period)) tokens e = absurd (false≢true (sym e))
  no_selector (Some (kind.Sign sign.Caret)) tokens e = absurd (false≢true (sym e))
  no_selector _ tokens e = refl

  abbrev further_selectors : ℕ → Reader Selectors
  further_selectors = items no_selectors selectors (λ rest. selector_by inner (front rest) rest)

  abbrev SelectorsComplete : Selectors → Type 0
  SelectorsComplete behind = CompleteList selectors_part continues_selectors further_selectors behind

  -- ---- factors

  -- the name that is read is this one
  name_same : (tokens : List Token) (x : Name) → first_line tokens ≡ x.line → record { line = first_line tokens; symbol = x.symbol } ≡ x
  name_same tokens x e = ap (λ l. record { line = l; symbol = x.symbol }) e

  same_application : (tokens : List Token) (line : ℕ) (f : Name) (x argument : Formula) (xs more : MoreFormulas) (ss behind : Selectors) → first_line tokens ≡ line → first_line tokens ≡ f.line → x ≡ argument → xs ≡ more → ss ≡ behind → application (first_line tokens) (record { line = first_line tokens; symbol = f.symbol }) x xs ss ≡ application line f argument more behind
  same_application tokens line f x argument xs more ss behind a b c d e =
      let n : record { line = first_line tokens; symbol = f.symbol } ≡ f = name_same tokens f b in
      cc (a, n, c, d, e)

  module _ (below : Reader Factor) where
    abbrev IsReadAsFactor : Factor → Type 0
    IsReadAsFactor f = Complete factor_part continues_factor (λ rest. factor_by inner below (front rest) rest) f

    application_step : (line : ℕ) (f : Name) (argument : Formula) (more : MoreFormulas) (behind : Selectors) → Complete formula_part continues_formula inner argument → AllComplete more → SelectorsComplete behind → IsReadAsFactor (application line f argument more behind)
    application_step line f argument more behind g h k tokens spelled steps s e =
        let b = begun_of s in
        let n = begun_of b.stands in
        let p = taken_of n.stands in
        let q = taken_of p.stands in
        let same : first_line tokens ≡ line = b.line in
        let open_at : factor_by inner below (front tokens) tokens ≡ read_application inner (record { line = first_line tokens; symbol = f.symbol }) (after (after tokens)) =
        ap (λ o. factor_by inner below o tokens) p.front ∙ if_true _ (ap (is (kind.Sign sign.OpenParenthesis)) q.front) refl in
        answers_after (omega (arith, p.shorter, q.shorter)) open_at (then_answers (g (after (after tokens)) _ _ q.stands (more_formulas_ends more _ refl)) (λ x is_x mid m. then_answers (h (length mid) mid _ _ (omega arith) m refl) (λ xs is_xs last r. past_answers _ refl r (λ next t. then_answers (k (length next) next spelled steps (omega arith) t (right_false (is (kind.Sign sign.OpenParenthesis) (first spelled)) _ e)) (λ ss is_ss rest u. done u (same_application tokens line f x argument xs more ss behind b.line n.line is_x is_xs is_ss))))))

    place_step : (line at : ℕ) (x : Name) (behind : Selectors) → SelectorsComplete behind → IsReadAsFactor (place line (designator at x behind))
    place_step line at x behind k tokens spelled steps s e =
        let b = begun_of s in
        let m = begun_of b.stands in
        let n = begun_of m.stands in
        let p = taken_of n.stands in
        let d = k (length (after tokens)) (after tokens) spelled steps (omega arith) p.stands (right_false (is (kind.Sign sign.OpenParenthesis) (first spelled)) _ e) in
        let no_bracket = ap (is (kind.Sign sign.OpenParenthesis)) (front_of p.stands) ∙ selectors_end behind spelled (left_false _ _ e) in
        record {
          rest = d.rest;
          is = ap (λ o. factor_by inner below o tokens) p.front ∙ ap (λ y. read_named inner y (after tokens)) (name_same tokens x n.line) ∙ if_false _ no_bracket (and_then_is _ d.is refl) ∙ ap (λ l. Read (place l (designator x.line x behind), d.rest)) (sym n.line ∙ b.line) ∙ ap (λ l. Read (place line (designator l x behind), d.rest)) (sym n.line ∙ m.line);
          stands = d.stands;
          shorter = omega (arith, p.shorter, d.shorter);
        }

    bracketed_step : (line : ℕ) (f : Formula) → Complete formula_part continues_formula inner f → IsReadAsFactor (bracketed line f)
    bracketed_step line f g tokens spelled steps s e =
        let b = begun_of s in
        let p = taken_of b.stands in
        answers_after (omega (arith, p.shorter)) (ap (λ o. factor_by inner below o tokens) p.front) (then_answers (g (after tokens) _ _ p.stands refl) (λ x is_f mid m. past_answers _ refl m (λ rest r. done {y = bracketed (first_line tokens) x} r (cc (b.line, is_f)))))

    negation_step : (line : ℕ) (f : Factor) → Complete factor_part continues_factor below f → IsReadAsFactor (negation line f)
    negation_step line f g tokens spelled steps s e =
        let b = begun_of s in
        let p = taken_of b.stands in
        let a = g (after tokens) spelled steps p.stands e in
        record {
          rest = a.rest;
          is = ap (λ o. factor_by inner below o tokens) p.front ∙ and_then_is _ a.is (ap (λ l. Read (negation l f, a.rest)) b.line);
          stands = a.stands;
          shorter = omega (arith, p.shorter, a.shorter);
        }

    class_step : (line : ℕ) (x : Name) → IsReadAsFactor (class line x)
    class_step line x tokens spelled steps s e =
        let b = begun_of s in
        let p = taken_of b.stands in
        let a = name_complete x p.stands in
        record {
          rest = a.rest;
          is = ap (λ o. factor_by inner below o tokens) p.front ∙ and_then_is _ a.is (ap (λ l. Read (class l x, a.rest)) b.line);
          stands = a.stands;
          shorter = omega (arith, p.shorter, a.shorter);
        }

    -- a factor of one token
    one_token : (f : ℕ → Factor) (k : TokenKind) (line : ℕ) → ((tokens : List Token) → factor_by inner below (Some k) tokens ≡ Read (f (first_line tokens), after tokens)) → (tokens : List Token) (spelled : List TokenKind) (steps : List Step) → Stands tokens (k ∷ spelled) (begins line ∷ passes ∷ steps) → Answers (factor_by inner below (front tokens) tokens) (f line) tokens spelled steps
    one_token f k line h tokens spelled steps s =
        let b = begun_of s in
        let p = taken_of b.stands in
        record {
          rest = after tokens;
          is = ap (λ o. factor_by inner below o tokens) p.front ∙ h tokens ∙ ap (λ l. Read (f l, after tokens)) b.line;
          stands = p.stands;
          shorter = omega (arith, p.shorter);
        }

-- ---- at every level

mutual
  pub formula_complete : (f : Formula) (n : ℕ) → formula_depth f ≤ n → Complete formula_part continues_formula (read_formula n) f
  formula_complete (formula line left right) n d =
      formula_step (read_factor n) (read_inner n) line left right (relation_complete left n (omega arith)) (conclusion_complete right n (omega arith))

  conclusion_complete : (c : Conclusion) (n : ℕ) → conclusion_depth c ≤ n → Complete conclusion_part continues_formula (read_conclusion (read_inner n)) c
  conclusion_complete no_conclusion n d = no_conclusion_step (read_inner n)
  conclusion_complete (implies f) n d = implies_step (read_inner n) f (inner_of n f (λ m h. formula_complete f m h) d)

  relation_complete : (r : Relation) (n : ℕ) → relation_depth r ≤ n → Complete relation_part continues_relation (read_relation (read_factor n)) r
  relation_complete (relation line left right) n d =
      relation_step (read_factor n) line left right (simple_complete left n (omega arith)) (right_side_complete right n (omega arith))

  right_side_complete : (r : RightSide) (n : ℕ) → right_side_depth r ≤ n → Complete right_side_part continues_relation (λ rest. right_side_by (read_factor n) (comparison_of (front rest)) rest) r
  right_side_complete no_right_side n d = not_compared (read_factor n)
  right_side_complete (compared operator s) n d = compared_step (read_factor n) operator s (simple_complete s n d)

  simple_complete : (s : Simple) (n : ℕ) → simple_depth s ≤ n → Complete simple_part continues_simple (read_simple (read_factor n)) s
  simple_complete (simple line prefix first more) n d =
      simple_step (read_factor n) prefix line first more (term_complete first n (omega arith)) (more_terms_complete more n (omega arith))

  more_terms_complete : (ts : MoreTerms) (n : ℕ) → more_terms_depth ts ≤ n → CompleteList more_terms_part continues_simple (items no_more_terms (λ p. more_terms p.0 p.1) (λ rest. operated (adding_of (front rest)) (read_term (read_factor n)) rest)) ts
  more_terms_complete no_more_terms n d m tokens spelled steps l s e =
      none_complete _ _ _ m s (operated_none (read_term (read_factor n)) tokens (ap adding_of (front_of s) ∙ none_of _ (left_false (is_some (adding_of (first spelled))) _ e)))
  more_terms_complete (more_terms operator t more) n d m tokens spelled steps l s e =
      let a = added_item (read_factor n) operator t (term_complete t n (omega arith)) tokens _ _ s (more_terms_ends more spelled e) in
      more_complete _ _ _ m l a (λ k h. more_terms_complete more n (omega arith) k a.rest spelled steps h a.stands e)

  term_complete : (t : Term) (n : ℕ) → term_depth t ≤ n → Complete term_part continues_term (read_term (read_factor n)) t
  term_complete (term line first more) n d =
      term_step (read_factor n) line first more (factor_complete first n (omega arith)) (more_factors_complete more n (omega arith))

  more_factors_complete : (fs : MoreFactors) (n : ℕ) → more_factors_depth fs ≤ n → CompleteList more_factors_part continues_term (items no_more_factors (λ p. more_factors p.0 p.1) (λ rest. operated (multiplying_of (front rest)) (read_factor n) rest)) fs
  more_factors_complete no_more_factors n d m tokens spelled steps l s e =
      none_complete _ _ _ m s (operated_none (read_factor n) tokens (ap multiplying_of (front_of s) ∙ none_of _ (left_false (is_some (multiplying_of (first spelled))) _ e)))
  more_factors_complete (more_factors operator f more) n d m tokens spelled steps l s e =
      let a = multiplied_item (read_factor n) operator f (factor_complete f n (omega arith)) tokens _ _ s (more_factors_ends more spelled e) in
      more_complete _ _ _ m l a (λ k h. more_factors_complete more n (omega arith) k a.rest spelled steps h a.stands e)

  factor_complete : (f : Factor) (n : ℕ) → factor_depth f ≤ n → Complete factor_part continues_factor (read_factor n) f
  factor_complete (number line k) n d = at_level n (λ tokens spelled steps s e. one_token (read_inner n) (below n) (λ l. number l k) (kind.Number k) line (λ others. refl) tokens spelled steps s)
  factor_complete (truth line true) n d = at_level n (λ tokens spelled steps s e. one_token (read_inner n) (below n) (λ l. truth l true) (kind.Word word.True) line (λ others. refl) tokens spelled steps s)
  factor_complete (truth line false) n d = at_level n (λ tokens spelled steps s e. one_token (read_inner n) (below n) (λ l. truth l false) (kind.Word word.False) line (λ others. refl) tokens spelled steps s)
  factor_complete (nil line) n d = at_level n (λ tokens spelled steps s e. one_token (read_inner n) (below n) nil (kind.Word word.Nil) line (λ others. refl) tokens spelled steps s)
  factor_complete (class line x) n d = at_level n (class_step (read_inner n) (below n) line x)
  factor_complete (place line (designator at x behind)) n d = at_level n (place_step (read_inner n) (below n) line at x behind (selectors_complete behind n d))
  factor_complete (application line f argument more behind) n d =
      at_level n (application_step (read_inner n) (below n) line f argument more behind (inner_of n argument (λ m h. formula_complete argument m h) (omega arith)) (more_formulas_complete more n (omega arith)) (selectors_complete behind n (omega arith)))
  factor_complete (bracketed line f) n d = at_level n (bracketed_step (read_inner n) (below n) line f (inner_of n f (λ m h. formula_complete f m h) d))
  factor_complete (negation line f) n d = at_level n (negation_step (read_inner n) (below n) line f (below_of n f (λ m h. factor_complete f m h) d))

  more_formulas_complete : (fs : MoreFormulas) (n : ℕ) → more_formulas_depth fs ≤ n → AllComplete (read_inner n) fs
  more_formulas_complete no_more_formulas n d m tokens spelled steps l s e =
      none_complete _ _ _ m s (behind_none (kind.Sign sign.Comma) (read_inner n) tokens (ap (is (kind.Sign sign.Comma)) (front_of s) ∙ left_false _ _ e))
  more_formulas_complete (more_formulas f more) n d m tokens spelled steps l s e =
      let a = behind_complete (kind.Sign sign.Comma) (read_inner n) formula_part continues_formula f refl (inner_of n f (λ k h. formula_complete f k h) (omega arith)) tokens _ _ s (more_formulas_ends more spelled e) in
      more_complete _ _ _ m l a (λ k h. more_formulas_complete more n (omega arith) k a.rest spelled steps h a.stands e)

  pub selectors_complete : (ss : Selectors) (n : ℕ) → selectors_depth ss ≤ n → SelectorsComplete (read_inner n) ss
  selectors_complete no_selectors n d m tokens spelled steps l s e =
      none_complete _ _ _ m s (no_selector (read_inner n) (front tokens) tokens (ap continues_selectors (front_of s) ∙ e))
  selectors_complete (selectors x more) n d m tokens spelled steps l s e =
      let a = selector_complete x n (omega arith) tokens _ _ s in
      more_complete _ _ _ m l a (λ k h. selectors_complete more n (omega arith) k a.rest spelled steps h a.stands e)

  selector_complete : (x : Selector) (n : ℕ) → selector_depth x ≤ n → (tokens : List Token) (spelled : List TokenKind) (steps : List Step) → Stands tokens (selector_spelling in_kinds x spelled) (selector_part.lined x steps) → AnswersItem (selector_by (read_inner n) (front tokens) tokens) x tokens spelled steps
  selector_complete (index line f more) n d = index_step (read_inner n) line f more (inner_of n f (λ m h. formula_complete f m h) (omega arith)) (more_formulas_complete more n (omega arith))
  selector_complete (field line x) n d = field_step (read_inner n) line x
  selector_complete (content line) n d = content_step (read_inner n) line
