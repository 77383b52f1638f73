-- A formula text is what may stand before its period, and a period.
use Rattle.std.proofs.Common.{◌≡◌, ℕ, suc, ◌-◌, ◌≤◌, Bool, true, false, if◌then◌else◌, List, [], ◌∷◌, ◌++◌, Option, Some, None, length, take, drop, refl, sym, ap, ◌∙◌, subst, append_assoc, arith}
use Rattle.std.proofs.Math.Seq.{take-append_seam, drop-append_seam}
use Rattle.spv_tree.specs.declared.tokens.token.Token.{Token}
use Rattle.spv_tree.specs.declared.tokens.token.TokenKind.TheVariants as kind
use Rattle.spv_tree.specs.declared.tokens.token.Sign.TheVariants as sign
use Rattle.spv_tree.specs.declared.syntax.formula_texts.FormulaText.{FormulaText}
use Rattle.spv_tree.specs.syntax.Formulas.{Formula}
use Rattle.spv_tree.specs.syntax.Steps.{first_line}
use Rattle.spv_tree.specs.syntax.Reads.{ReadsFormulaText}
use Rattle.spv_grammar.specs.reading.Readers.{front, is, same_kind, Outcome, Read, Stop, wrong, deep, Halted, and_then, name}
use Rattle.spv_grammar.specs.reading.FormulaReaders.{read_formula}
use Rattle.spv_grammar.specs.reading.RoutineReaders.{read_whole}
use Rattle.spv_grammar.specs.reading.RuleReaders.{before_period, read_inside, read_asserted, read_formula_text}
use Rattle.spv_grammar.proofs.reading.Fronts.{some_is, read_is, same_kind-true}
use Rattle.spv_grammar.proofs.reading.Programs.{whole_is}
use Rattle.spv_grammar.proofs.reading.Rules.{formula_text_is_tree, formula_text_enough_levels}
use Rattle.spv_grammar.proofs.first_sets.Among.{length_of}
use Rattle.spv_grammar.specs.expected_tokens.Expected.{Expected, taken, opened, predict, formula_text}
use Rattle.spv_grammar.specs.expected_tokens.Expected as expected
use Rattle.spv_grammar.specs.expected_tokens.Machine.{Leads, here, takes, opens, Wrong, surplus}
use Rattle.spv_grammar.specs.expected_tokens.FormulaTexts.{read_asserting}
use Rattle.spv_grammar.proofs.expected_tokens.Follows.{Follows, gives, leads_on, wrong_on, one_less, follows_then, follows_past, follows_name, follows_ended}
use Rattle.spv_grammar.proofs.expected_tokens.FormulaFollows.{formula_follows}
use Rattle.spv_grammar.proofs.expected_tokens.DeclarationFollows.{declarations_follow}
use Rattle.spv_grammar.proofs.expected_tokens.Going.{taken_is, opened_is, not_taken, wrong_behind, not_both}
use Rattle.spv_grammar.proofs.expected_tokens.Periods.{period, not_at_period}
use Rattle.spv_grammar.proofs.expected_tokens.Asserting.{Way, stops, goes, asserting, asserting_way}

-- ---- the last token

record LastOf (tokens : List Token) : Type 0 where
  inside : List Token
  last : Token
  is : tokens ≡ inside ++ last ∷ []

last_of : (t : Token) (tokens : List Token) → LastOf (t ∷ tokens)
last_of t [] = record { inside = []; last = t; is = refl }
last_of t (u ∷ tokens) =
    let a = last_of u tokens in
    record { inside = t ∷ a.inside; last = a.last; is = ap (λ ts. t ∷ ts) a.is }

before_last : (inside : List Token) (t : Token) → before_period (inside ++ t ∷ []) ≡ (if same_kind t.kind period then Some inside else None)
before_last inside t =
    let one_less : length (inside ++ t ∷ []) - 1 ≡ length inside = omega (arith, length_of inside (t ∷ [])) in
    ap (λ n. if is period (front (drop n (inside ++ t ∷ []))) then Some (take n (inside ++ t ∷ [])) else None) one_less
    ∙ ap (λ ts. if is period (front ts) then Some (take (length inside) (inside ++ t ∷ [])) else None) (drop-append_seam inside (t ∷ []))
    ∙ ap (λ ts. if same_kind t.kind period then Some ts else None) (take-append_seam inside (t ∷ []))

pub before_it : (inside : List Token) (t : Token) → t.kind ≡ period → before_period (inside ++ t ∷ []) ≡ Some inside
before_it inside t e = before_last inside t ∙ ap (λ k. if same_kind k period then Some inside else None) e

pub record Ended (tokens inside : List Token) : Type 0 where
  pub last : Token
  pub is : tokens ≡ inside ++ last ∷ []
  pub ends : last.kind ≡ period

pub ended_by : (tokens inside : List Token) → before_period tokens ≡ Some inside → Ended tokens inside
ended_by [] inside e = absurd (cc (e))
ended_by (t ∷ tokens) inside e =
    let a = last_of t tokens in
    by_test a.inside a.last a.is (same_kind a.last.kind period) refl (sym (before_last a.inside a.last) ∙ ap before_period (sym a.is) ∙ e)
  where
    by_test : (others : List Token) (u : Token) → t ∷ tokens ≡ others ++ u ∷ [] → (b : Bool) → same_kind u.kind period ≡ b → (if b then Some others else None) ≡ Some inside → Ended (t ∷ tokens) inside
    by_test others u is true same f = record { last = u; is = is ∙ ap (λ (ts : List Token). ts ++ u ∷ []) (some_is others inside f); ends = same_kind-true u.kind period same }
    by_test others u is false same f = absurd (cc (f))

-- ---- what stands before the period is read as it is expected

body_follows : (n : ℕ) (tokens : List Token) → Follows n formula_text tokens (read_asserting n (read_formula n) tokens)
body_follows n tokens =
    follows_past _ tokens (λ one. follows_then (follows_ended (kind.Sign sign.Semicolon) name one (follows_name one)) (λ x two. follows_then (declarations_follow n two) (λ ds three. follows_past _ three (λ four.
    follows_then (one_less (formula_follows n four)) (λ f rest. gives n rest (record { line = first_line tokens; name = x; declarations = ds; formula = f }))))))

-- it is all there, or it goes wrong
pub data Decided (n : ℕ) (tokens : List Token) : Type 0 where
  there : (x : FormulaText) → read_asserting n (read_formula n) tokens ≡ Read (x, []) → Leads formula_text tokens [] [] → Decided n tokens
  elsewhere : (left : ℕ) → Wrong formula_text tokens left → Decided n tokens

pub decided : (n : ℕ) (tokens : List Token) → suc (length tokens) ≤ n → Decided n tokens
decided n tokens enough = by_outcome (read_asserting n (read_formula n) tokens) refl
  where
    by_outcome : (o : Outcome FormulaText) → read_asserting n (read_formula n) tokens ≡ o → Decided n tokens
    by_outcome (Read (x, [])) e = there x e ((body_follows n tokens).read x [] e [])
    by_outcome (Read (x, t ∷ rest)) e = elsewhere (length (t ∷ rest)) (wrong_on ((body_follows n tokens).read x (t ∷ rest) e []) (surplus t rest))
    by_outcome (Halted (wrong left)) e = elsewhere left ((body_follows n tokens).wrong left e [])
    by_outcome (Halted (deep left)) e = let d = (body_follows n tokens).deep left e in absurd (omega (arith, d, enough))

-- ---- a text has a period behind it

pub record BodyOf (tokens : List Token) : Type 0 where
  pub body : List Token
  pub last : Token
  pub is : tokens ≡ body ++ last ∷ []
  pub ends : last.kind ≡ period
  pub leads : Leads formula_text body [] []

read_rest : {A : Type 0} (x y : A) (rest : List Token) → Read (x, rest) ≡ Read (y, []) → rest ≡ []
read_rest {A} x y rest e = ap (λ (r : A × List Token). r.1) (read_is (x, rest) (y, []) e)

pub body_of : (tokens : List Token) (x : FormulaText) → ReadsFormulaText tokens x → BodyOf tokens
body_of tokens x r = by_way (asserting_way (length tokens) (read_asserted (length tokens)) tokens) (whole_is (read_formula_text (length tokens) tokens) x (formula_text_enough_levels (length tokens) tokens x (omega arith) r))
  where
    by_way : {o : Outcome FormulaText} → Way (length tokens) asserting tokens (read_asserted (length tokens)) o → o ≡ Read (x, []) → BodyOf tokens
    by_way (stops s o f) e = absurd (cc (o, e))
    by_way (goes before a behind make is o l) e = by_inside (before_period behind) refl (sym o ∙ e)
      where
        by_outcome : (inside : List Token) → Ended behind inside → (out : Outcome Formula) → read_formula (length tokens) inside ≡ out → and_then out (λ f rest. Read (make f, rest)) ≡ Read (x, []) → BodyOf tokens
        by_outcome inside last (Halted s) g h = absurd (cc (h))
        by_outcome inside last (Read (f, rest)) g h =
            let none : rest ≡ [] = read_rest (make f) x rest h in
            let whole : Leads (expected.formula ∷ []) inside [] [] = subst (λ (ts : List Token). Leads (expected.formula ∷ []) inside [] ts) none ((formula_follows (length tokens) inside).read f rest g []) in
            record {
              body = before ++ a ∷ inside;
              last = last.last;
              is = is ∙ ap (λ (ts : List Token). before ++ a ∷ ts) last.is ∙ sym (append_assoc before (a ∷ inside) (last.last ∷ []));
              ends = last.ends;
              leads = leads_on (l inside (expected.formula ∷ [])) whole;
            }

        by_inside : (o : Option (List Token)) → before_period behind ≡ o → and_then (read_inside (read_formula (length tokens)) o) (λ f rest. Read (make f, rest)) ≡ Read (x, []) → BodyOf tokens
        by_inside None g h = absurd (cc (h))
        by_inside (Some inside) g h = by_outcome inside (ended_by behind inside g) (read_formula (length tokens) inside) refl h

-- ---- and with a period behind it it is one

led_taken : (p : Expected) (parts ps : List Expected) (t : Token) (tokens rest : List Token) → predict p (Some t.kind) ≡ taken parts → Leads (p ∷ ps) (t ∷ tokens) [] rest → Leads (parts ++ ps) tokens [] rest
led_taken p parts ps t tokens rest e (takes _ others _ _ _ _ _ f a) = subst (λ (qs : List Expected). Leads (qs ++ ps) tokens [] rest) (taken_is others parts (sym f ∙ e)) a
led_taken p parts ps t tokens rest e (opens _ others _ _ _ _ f a) = absurd (not_taken parts others (sym e ∙ f))

led_opened : (p : Expected) (parts ps : List Expected) (tokens rest : List Token) → predict p (front tokens) ≡ opened parts → Leads (p ∷ ps) tokens [] rest → Leads (parts ++ ps) tokens [] rest
led_opened p parts ps _ rest e (takes _ others _ t tokens _ _ f a) = absurd (not_taken others parts (sym f ∙ e))
led_opened p parts ps tokens rest e (opens _ others _ _ _ _ f a) = subst (λ (qs : List Expected). Leads (qs ++ ps) tokens [] rest) (opened_is others parts (sym f ∙ e)) a

one_end : (ps : List Expected) (tokens rest others : List Token) → Leads ps tokens [] rest → Leads ps tokens [] others → rest ≡ others
one_end _ _ _ others (here _ _) (here _ _) = refl
one_end _ _ rest others (takes p parts ps t tokens _ _ e a) b = one_end (parts ++ ps) tokens rest others a (led_taken p parts ps t tokens others e b)
one_end _ _ rest others (opens p parts ps tokens _ _ e a) b = one_end (parts ++ ps) tokens rest others a (led_opened p parts ps tokens others e b)

-- where the formula begins
record Parted (n : ℕ) (body : List Token) : Type 0 where
  before : List Token
  assert : Token
  asserted : List Token
  is : body ≡ before ++ assert ∷ asserted
  led : (others : List Token) (ps : List Expected) → Leads (asserting ++ ps) (before ++ assert ∷ others) ps others
  formula : Formula
  read : read_formula n asserted ≡ Read (formula, [])

parted : (n : ℕ) (body : List Token) (x : FormulaText) → read_asserting n (read_formula n) body ≡ Read (x, []) → Parted n body
parted n body x r = by_way (asserting_way n (read_formula n) body) r
  where
    by_way : {o : Outcome FormulaText} → Way n asserting body (read_formula n) o → o ≡ Read (x, []) → Parted n body
    by_way (stops s o f) e = absurd (cc (o, e))
    by_way (goes before a behind make is o l) e = by_outcome (read_formula n behind) refl (sym o ∙ e)
      where
        by_outcome : (out : Outcome Formula) → read_formula n behind ≡ out → and_then out (λ f rest. Read (make f, rest)) ≡ Read (x, []) → Parted n body
        by_outcome (Halted s) g h = absurd (cc (h))
        by_outcome (Read (f, rest)) g h =
            record { before = before; assert = a; asserted = behind; is = is; led = l; formula = f; read = g ∙ ap (λ (ts : List Token). Read (f, ts)) (read_rest (make f) x rest h) }

some_left : (tokens : List Token) (left : ℕ) → Wrong [] tokens left → 1 ≤ left
some_left _ _ (surplus t tokens) = omega arith

module _ (n : ℕ) (body : List Token) (q : Token) (ends : q.kind ≡ period) (enough : suc (length (body ++ q ∷ [])) ≤ n) (p : Parted n body) where
  led_again : (ps : List Expected) → Leads (asserting ++ ps) (body ++ q ∷ []) ps (p.asserted ++ q ∷ [])
  led_again ps =
      subst (λ (ts : List Token). Leads (asserting ++ ps) ts ps (p.asserted ++ q ∷ [])) (sym (ap (λ (ts : List Token). ts ++ q ∷ []) p.is ∙ append_assoc p.before (p.assert ∷ p.asserted) (q ∷ []))) (p.led (p.asserted ++ q ∷ []) ps)

  not_before : (s : Stop) → Follows {A = FormulaText} n asserting (body ++ q ∷ []) (Halted s) → ⊥
  not_before (wrong left) f =
      let wrong_there : (ps : List Expected) → Wrong ps (p.asserted ++ q ∷ []) left = λ ps. wrong_behind left (led_again ps) (f.wrong left refl ps) in
      not_at_period q ends (expected.formula ∷ []) p.asserted left (some_left (p.asserted ++ q ∷ []) left (wrong_there [])) ((formula_follows n p.asserted).read p.formula [] p.read []) (wrong_there (expected.formula ∷ expected.token period ∷ []))
  not_before (deep left) f = let d = f.deep left refl in absurd (omega (arith, d, enough))

  text_by : Way n asserting (body ++ q ∷ []) (read_asserted n) (read_formula_text n (body ++ q ∷ [])) → (x : FormulaText) × ReadsFormulaText (body ++ q ∷ []) x
  text_by (stops s o f) = absurd (not_before s f)
  text_by (goes before a behind make is o l) =
      let whole : Leads asserting (body ++ q ∷ []) [] behind = subst (λ (ts : List Token). Leads asserting ts [] behind) (sym is) (l behind []) in
      let there : behind ≡ p.asserted ++ q ∷ [] = one_end asserting (body ++ q ∷ []) behind (p.asserted ++ q ∷ []) whole (led_again []) in
      let read : read_asserted n behind ≡ Read (p.formula, []) = ap (read_asserted n) there ∙ ap (read_inside (read_formula n)) (before_it p.asserted q ends) ∙ p.read in
      (make p.formula, formula_text_is_tree n (body ++ q ∷ []) (make p.formula) (ap read_whole (o ∙ ap (λ (out : Outcome Formula). and_then out (λ f rest. Read (make f, rest))) read)))

pub text_of : (body : List Token) (q : Token) → q.kind ≡ period → Leads formula_text body [] [] → (x : FormulaText) × ReadsFormulaText (body ++ q ∷ []) x
text_of body q ends a = by_case (decided n body (omega (arith, length_of body (q ∷ []))))
  where
    n : ℕ
    n = suc (length (body ++ q ∷ []))

    by_case : Decided n body → (x : FormulaText) × ReadsFormulaText (body ++ q ∷ []) x
    by_case (there x e b) = text_by n body q ends (omega arith) (parted n body x e) (asserting_way n (read_asserted n) (body ++ q ∷ []))
    by_case (elsewhere left w) = absurd (not_both formula_text body left a w)
