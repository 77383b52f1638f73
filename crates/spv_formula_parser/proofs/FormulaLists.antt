-- The lists in formulas, and what may follow in them.
use Rattle.std.proofs.Common.{true, false, ◌≡◌, ℕ, zero, suc, List, [], ◌∷◌, refl, sym, ap, ◌∙◌, ◌-◌, arith}
use Rattle.std.specs.Prelude.{Option, Some, None}
use Rattle.spv_tree.specs.declared.tokens.token.Token.{Token}
use Rattle.spv_tree.specs.declared.tokens.token.TokenKind.{TokenKind}
use Rattle.spv_tree.specs.declared.tokens.token.TokenKind.TheVariants as kind
use Rattle.spv_tree.specs.declared.tokens.token.Sign.TheVariants as sign
use Rattle.spv_tree.specs.declared.syntax.operators.Adding.{Adding}
use Rattle.spv_tree.specs.declared.syntax.operators.Multiplying.{Multiplying}
use Rattle.spv_tree.specs.syntax.Formulas.{Formula, Term, Factor, Selector, no_more_terms, more_terms, no_more_factors, more_factors, no_more_formulas, more_formulas, no_selectors, selectors}
use Rattle.spv_tree.specs.syntax.Model.FormulaSizes.{more_terms_of, more_factors_of, more_formulas_of, selectors_of}
use Rattle.spv_grammar.specs.reading.Readers.{Stop, Outcome, Read, Halted, Reader, after, and_then, operated}
use Rattle.spv_grammar.specs.reading.FormulaReaders.{selector_by, read_inner, read_factor, read_formula}
use Rattle.spv_formula_parser.specs.primitives.Lists.{put}
use Rattle.spv_formula_parser.specs.Factors.{begins_selector, selector_on, factor_at}

-- ---- the lists of the code

pub put-more_terms : (ts : List (Adding × Term)) → put (λ p. more_terms p.0 p.1) ts no_more_terms ≡ more_terms_of ts
put-more_terms [] = refl
put-more_terms (t ∷ ts) = ap (more_terms t.0 t.1) (put-more_terms ts)

pub put-more_factors : (fs : List (Multiplying × Factor)) → put (λ p. more_factors p.0 p.1) fs no_more_factors ≡ more_factors_of fs
put-more_factors [] = refl
put-more_factors (f ∷ fs) = ap (more_factors f.0 f.1) (put-more_factors fs)

pub put-more_formulas : (fs : List Formula) → put more_formulas fs no_more_formulas ≡ more_formulas_of fs
put-more_formulas [] = refl
put-more_formulas (f ∷ fs) = ap (more_formulas f) (put-more_formulas fs)

pub put-selectors : (ss : List Selector) → put selectors ss no_selectors ≡ selectors_of ss
put-selectors [] = refl
put-selectors (s ∷ ss) = ap (selectors s) (put-selectors ss)

-- what was read, with the list as the code has it
pub read_list : {L : Type 0} {total : Outcome L} {xs ys : L} {rest : List Token} → total ≡ Read (xs, rest) → xs ≡ ys → total ≡ Read (ys, rest)
read_list {L} {total} {xs} {ys} {rest} e f = e ∙ ap (λ l. Read (l, rest)) f

-- ---- an item behind an operator

module _ {O A : Type 0} (item : Reader A) where
  pub no_operator : {o : Option O} (tokens : List Token) → o ≡ None → operated o item tokens ≡ None
  no_operator tokens e = ap (λ p. operated p item tokens) e

  pub an_operator : {o : Option O} {p : O} {x : A} {mid rest : List Token} (tokens : List Token) → o ≡ Some p → mid ≡ after tokens → item mid ≡ Read (x, rest) → operated o item tokens ≡ Some (Read ((p, x), rest))
  an_operator {o} {p} {x} {mid} {rest} tokens e m f = ap (λ q. operated q item tokens) e ∙ ap (λ r. Some (and_then r (λ y behind. Read ((p, y), behind)))) (ap item (sym m) ∙ f)

  pub no_operand : {s : Stop} {o : Option O} {p : O} {mid : List Token} (tokens : List Token) → o ≡ Some p → mid ≡ after tokens → item mid ≡ Halted s → operated o item tokens ≡ Some (Halted s)
  no_operand {s} {o} {p} {mid} tokens e m f = ap (λ q. operated q item tokens) e ∙ ap (λ r. Some (and_then r (λ y behind. Read ((p, y), behind)))) (ap item (sym m) ∙ f)

-- ---- selectors

-- by the first token a selector begins, or none does
pub a_selector : (inner : Reader Formula) (k : Option TokenKind) (tokens : List Token) → begins_selector k ≡ true → selector_by inner k tokens ≡ Some (selector_on inner k tokens)
a_selector inner None tokens e = cc
a_selector inner (Some (kind.Word w)) tokens e = cc
a_selector inner (Some (kind.Name x)) tokens e = cc
a_selector inner (Some (kind.Number n)) tokens e = cc
a_selector inner (Some (kind.Sign sign.OpenBracket)) tokens e = refl
a_selector inner (Some (kind.Sign sign.Period)) tokens e = refl
a_selector inner (Some (kind.Sign sign.Caret)) tokens e = refl
a_selector inner (Some (kind.Sign s)) tokens e = cc

pub no_selector : (inner : Reader Formula) (k : Option TokenKind) (tokens : List Token) → begins_selector k ≡ false → selector_by inner k tokens ≡ None
no_selector inner None tokens e = refl
no_selector inner (Some (kind.Word w)) tokens e = refl
no_selector inner (Some (kind.Name x)) tokens e = refl
no_selector inner (Some (kind.Number n)) tokens e = refl
no_selector inner (Some (kind.Sign sign.OpenBracket)) tokens e = cc
no_selector inner (Some (kind.Sign sign.Period)) tokens e = cc
no_selector inner (Some (kind.Sign sign.Caret)) tokens e = cc
no_selector inner (Some (kind.Sign s)) tokens e = refl

-- ---- factors

pub same_factor : (n : ℕ) → read_factor n ≡ factor_at n
same_factor zero = refl
same_factor (suc n) = refl

-- ---- levels

pub one_lower : (n : ℕ) (tokens : List Token) → (n ≡ 0 → ⊥) → read_inner n tokens ≡ read_formula (n - 1) tokens
one_lower zero tokens above = absurd (above refl)
one_lower (suc n) tokens above =
    let is_same : suc n - 1 ≡ n = omega arith in
    ap (λ m. read_formula m tokens) (sym is_same)
