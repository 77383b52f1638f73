-- A formula that the last period of a text ends: the tokens before it are those of the formula alone.
use Rattle.std.proofs.Common.{◌≡◌, ℕ, ◌-◌, ◌≤◌, Bool, true, false, ◌&&◌, if◌then◌else◌, List, [], ◌∷◌, ◌++◌, Some, None, length, take, drop, refl, sym, ap, ◌∙◌, subst, arith}
use Rattle.std.proofs.Math.Seq.{take-append_seam, drop-append_seam}
use Rattle.std.proofs.lemmas.List.{append-nil}
use Rattle.spv_logic.proofs.list.Tests.{left_true}
use Rattle.spv_tree.specs.declared.tokens.token.Token.{Token}
use Rattle.spv_tree.specs.declared.tokens.token.TokenKind.{TokenKind}
use Rattle.spv_tree.specs.declared.tokens.token.TokenKind.TheVariants as kind
use Rattle.spv_tree.specs.declared.tokens.token.Word.TheVariants as word
use Rattle.spv_tree.specs.declared.tokens.token.Sign.TheVariants as sign
use Rattle.spv_tree.specs.declared.syntax.formula_texts.FormulaText.{FormulaText}
use Rattle.spv_tree.specs.syntax.Formulas.{Formula}
use Rattle.spv_tree.specs.syntax.Steps.{Step, begins, passes, first_line, lines_agree}
use Rattle.spv_tree.specs.syntax.Reads.{kinds}
use Rattle.spv_grammar.specs.reading.Readers.{front, same_kind, is, name}
use Rattle.spv_grammar.specs.reading.FormulaReaders.{read_formula}
use Rattle.spv_grammar.specs.reading.RuleReaders.{before_period, read_inside, read_asserted, read_formula_text}
use Rattle.spv_grammar.specs.reading.Depths.{formula_depth, formula_text_depth}
use Rattle.spv_grammar.specs.reading.Parts.{BeginsWith, Stands, name_part, ended_part, formula_part, formula_text_part}
use Rattle.spv_grammar.proofs.reading.Fronts.{same_kind-true, begun}
use Rattle.spv_grammar.proofs.reading.Sound.{On, on_none, on_some, on_then, on_past, name_sound, ended_sound}
use Rattle.spv_grammar.proofs.reading.FormulaSound.{formula_sound}
use Rattle.spv_grammar.proofs.reading.DeclarationSound.{declarations_sound}
use Rattle.spv_grammar.proofs.reading.Whole.{Answers, begun_of, if_true, name_complete, done, then_answers, past_answers}
use Rattle.spv_grammar.proofs.reading.WholeHeads.{kinds_length}
use Rattle.spv_grammar.proofs.reading.FormulaWhole.{formula_complete}
use Rattle.spv_grammar.proofs.reading.DeclarationWhole.{declarations_complete}
use Rattle.spv_grammar.proofs.reading.FormulaFits.{fits, puts_formula, split_lines}
use Rattle.spv_tree.specs.syntax.Members.{in_kinds, in_lines}
use Rattle.spv_tree.specs.syntax.FormulaSpelling.{formula_spelling, name_kind}
use Rattle.spv_tree.specs.syntax.ProgramSpelling.{declarations_spelling}
use Rattle.spv_tree.specs.syntax.RuleSpelling.{formula_text_spelling}

-- ---- the last token

abbrev period : TokenKind
period = kind.Sign sign.Period

record LastOf (tokens : List Token) : Type 0 where
  inside : List Token
  last : Token
  is : tokens ≡ inside ++ last ∷ []

last_of : (t : Token) (tokens : List Token) → LastOf (t ∷ tokens)
last_of t [] = record { inside = []; last = t; is = refl }
last_of t (u ∷ tokens) =
    let a = last_of u tokens in
    record { inside = t ∷ a.inside; last = a.last; is = ap (λ ts. t ∷ ts) a.is }

one_less : (inside : List Token) (t : Token) → length (inside ++ t ∷ []) - 1 ≡ length inside
one_less [] t = refl
one_less (u ∷ inside) t =
    let e : length (inside ++ t ∷ []) - 1 ≡ length inside = one_less inside t in
    let l : 1 ≤ length (inside ++ t ∷ []) = one_at_least inside in
    omega (arith, e, l)
  where
    one_at_least : (others : List Token) → 1 ≤ length (others ++ t ∷ [])
    one_at_least [] = omega arith
    one_at_least (u ∷ others) = omega arith

-- what stands before a last token is all before it
before_last : (inside : List Token) (t : Token) → before_period (inside ++ t ∷ []) ≡ (if same_kind t.kind period then Some inside else None)
before_last inside t =
    ap (λ n. if is period (front (drop n (inside ++ t ∷ []))) then Some (take n (inside ++ t ∷ [])) else None) (one_less inside t)
    ∙ ap (λ ts. if is period (front ts) then Some (take (length inside) (inside ++ t ∷ [])) else None) (drop-append_seam inside (t ∷ []))
    ∙ ap (λ ts. if same_kind t.kind period then Some ts else None) (take-append_seam inside (t ∷ []))

kinds_append : (a b : List Token) → kinds (a ++ b) ≡ kinds a ++ kinds b
kinds_append [] b = refl
kinds_append (t ∷ a) b = ap (λ ks. t.kind ∷ ks) (kinds_append a b)

-- ---- what is read is spelled

true_and : (a b : Bool) → a ≡ true → (a && b) ≡ b
true_and a b e = ap (λ c. c && b) e

no_steps : (tokens : List Token) → lines_agree [] tokens ≡ true
unfolding lines_agree
no_steps tokens = refl

one_passed : (t : Token) (steps : List Step) → lines_agree (passes ∷ steps) (t ∷ []) ≡ lines_agree steps []
unfolding lines_agree
one_passed t steps = refl

-- a formula and the period behind it
grown : (f : Formula) (inside : List Token) (t : Token) → t.kind ≡ period → BeginsWith formula_part inside f [] → BeginsWith (ended_part period formula_part) (inside ++ t ∷ []) f []
grown f inside t e a =
    let p = puts_formula f in
    let inside_is : kinds inside ≡ p.tokens = a.spelled ∙ p.spelled_is [] ∙ append-nil p.tokens in
    let lines_are : lines_agree p.steps inside ≡ true = ap (λ s. lines_agree s inside) (sym (p.lined_is [] ∙ append-nil p.steps)) ∙ a.lined [] ∙ no_steps [] in
    record {
      spelled = kinds_append inside (t ∷ []) ∙ ap (λ ks. ks ++ t.kind ∷ []) inside_is ∙ ap (λ k. p.tokens ++ k ∷ []) e ∙ sym (p.spelled_is (period ∷ []));
      lined = λ steps.
          ap (λ s. lines_agree s (inside ++ t ∷ [])) (p.lined_is (passes ∷ steps))
          ∙ split_lines p.steps inside (t ∷ []) (passes ∷ steps) (ap (fits p.steps) inside_is ∙ p.fit)
          ∙ true_and _ _ lines_are
          ∙ one_passed t steps;
    }

-- where nothing is left of the tokens before the period
abbrev AssertedAt : List Token → Formula → List Token → Type 0
AssertedAt tokens f rest = rest ≡ [] → BeginsWith (ended_part period formula_part) tokens f []

inside_sound : (n : ℕ) (inside : List Token) (t : Token) (b : Bool) → same_kind t.kind period ≡ b → On (read_inside (read_formula n) (if b then Some inside else None)) (AssertedAt (inside ++ t ∷ []))
inside_sound n inside t true e =
    record { at = λ f rest r is_nil. grown f inside t (same_kind-true t.kind period e) (subst (λ ts. BeginsWith formula_part inside f ts) is_nil ((formula_sound n inside).at f rest r)) }
inside_sound n inside t false e = on_none _

asserted_sound : (n : ℕ) (tokens : List Token) → On (read_asserted n tokens) (AssertedAt tokens)
asserted_sound n [] = on_none _
asserted_sound n (t ∷ tokens) =
    let a = last_of t tokens in
    subst (λ ts. On (read_asserted n ts) (AssertedAt ts)) (sym a.is) (record {
      at = λ f rest r. (inside_sound n a.inside a.last _ refl).at f rest (sym (ap (read_inside (read_formula n)) (before_last a.inside a.last)) ∙ r);
    })

abbrev TextAt : List Token → FormulaText → List Token → Type 0
TextAt tokens t rest = rest ≡ [] → BeginsWith formula_text_part tokens t []

pub formula_text_sound : (n : ℕ) (tokens : List Token) → On (read_formula_text n tokens) (TextAt tokens)
formula_text_sound n tokens =
    on_past (kind.Word word.Program) tokens (λ one p. on_then (ended_sound (kind.Sign sign.Semicolon) name_part name one (name_sound one)) (λ x two a. on_then (declarations_sound n two) (λ ds three b. on_past (kind.Word word.Assert) three (λ four q. on_then (asserted_sound n four) (λ f rest c. on_some _ (record { line = first_line tokens; name = x; declarations = ds; formula = f }) rest (λ is_nil. record {
      spelled = p.spelled ∙ ap (λ ks. kind.Word word.Program ∷ ks) (a.spelled ∙ ap (λ ks. name_kind x ∷ kind.Sign sign.Semicolon ∷ ks) (b.spelled ∙ ap (declarations_spelling in_kinds ds) (q.spelled ∙ ap (λ ks. kind.Word word.Assert ∷ ks) (c is_nil).spelled)));
      lined = λ steps.
          begun tokens _ ∙ p.lined (begins x.line ∷ passes ∷ passes ∷ (declarations_spelling in_lines) ds (passes ∷ (formula_spelling in_lines) f (passes ∷ steps)))
          ∙ a.lined (declarations_spelling in_lines ds (passes ∷ (formula_spelling in_lines) f (passes ∷ steps)))
          ∙ b.lined (passes ∷ (formula_spelling in_lines) f (passes ∷ steps))
          ∙ q.lined (formula_spelling in_lines f (passes ∷ steps))
          ∙ (c is_nil).lined steps;
    }))))))

-- ---- what is spelled is read

record Shrunk (tokens : List Token) (f : Formula) : Type 0 where
  inside : List Token
  last : Token
  is : tokens ≡ inside ++ last ∷ []
  ends : last.kind ≡ period
  stands : Stands inside (formula_spelling in_kinds f []) (formula_spelling in_lines f [])

-- a last kind, and those before it
ends_are : (a : List TokenKind) (k l : TokenKind) (b : List TokenKind) → a ++ k ∷ [] ≡ b ++ l ∷ [] → (a ≡ b) × (k ≡ l)
ends_are [] k l [] e = (refl, cc (e))
ends_are [] k l (m ∷ []) e = absurd (cc (e))
ends_are [] k l (m ∷ o ∷ b) e = absurd (cc (e))
ends_are (m ∷ []) k l [] e = absurd (cc (e))
ends_are (m ∷ o ∷ a) k l [] e = absurd (cc (e))
ends_are (m ∷ a) k l (o ∷ b) e =
    let h : (m ≡ o) × (a ++ k ∷ [] ≡ b ++ l ∷ []) = (cc (e), cc (e)) in
    let r = ends_are a k l b h.1 in
    (cc (h.0, r.0), r.1)

shrunk_by : (f : Formula) (inside : List Token) (t : Token) → Stands (inside ++ t ∷ []) (formula_spelling in_kinds f (period ∷ [])) (formula_spelling in_lines f (passes ∷ [])) → Shrunk (inside ++ t ∷ []) f
shrunk_by f inside t s =
    let p = puts_formula f in
    let both = ends_are (kinds inside) t.kind period p.tokens (sym (kinds_append inside (t ∷ [])) ∙ s.spelled ∙ p.spelled_is (period ∷ [])) in
    let lines_are : (lines_agree p.steps inside && lines_agree (passes ∷ []) (t ∷ [])) ≡ true =
    sym (split_lines p.steps inside (t ∷ []) (passes ∷ []) (ap (fits p.steps) both.0 ∙ p.fit)) ∙ ap (λ s. lines_agree s (inside ++ t ∷ [])) (sym (p.lined_is (passes ∷ []))) ∙ s.lined in
    record {
      inside = inside;
      last = t;
      is = refl;
      ends = both.1;
      stands = record {
        spelled = both.0 ∙ sym (p.spelled_is [] ∙ append-nil p.tokens);
        lined = ap (λ s. lines_agree s inside) (p.lined_is [] ∙ append-nil p.steps) ∙ left_true _ _ lines_are;
      };
    }

shrunk : (f : Formula) (tokens : List Token) → Stands tokens (formula_spelling in_kinds f (period ∷ [])) (formula_spelling in_lines f (passes ∷ [])) → Shrunk tokens f
shrunk f [] s =
    let p = puts_formula f in
    absurd (not_empty p.tokens (s.spelled ∙ p.spelled_is (period ∷ [])))
  where
    not_empty : (ks : List TokenKind) → [] ≡ ks ++ period ∷ [] → ⊥
    not_empty [] e = cc (e)
    not_empty (k ∷ ks) e = cc (e)
shrunk f (t ∷ tokens) s =
    let a = last_of t tokens in
    subst (λ ts. Shrunk ts f) (sym a.is) (shrunk_by f a.inside a.last (subst (λ ts. Stands ts (formula_spelling in_kinds f (period ∷ [])) (formula_spelling in_lines f (passes ∷ []))) a.is s))

asserted_answers : (n : ℕ) (f : Formula) → formula_depth f ≤ n → {tokens : List Token} → Stands tokens (formula_spelling in_kinds f (period ∷ [])) (formula_spelling in_lines f (passes ∷ [])) → Answers (read_asserted n tokens) f tokens [] []
asserted_answers n f d {tokens} s =
    let a = shrunk f tokens s in
    let b = formula_complete f n d a.inside [] [] a.stands refl in
    record {
      rest = b.rest;
      is = ap (read_asserted n) a.is ∙ ap (read_inside (read_formula n)) (before_last a.inside a.last ∙ if_true None (ap (λ k. same_kind k period) a.ends) refl) ∙ b.is;
      stands = b.stands;
      shorter = omega (arith, kinds_length b.rest, ap length b.stands.spelled);
    }

pub formula_text_answers : (n : ℕ) (t : FormulaText) → formula_text_depth t ≤ n → {tokens : List Token} → Stands tokens (formula_text_spelling in_kinds t []) (formula_text_spelling in_lines t []) → Answers (read_formula_text n tokens) t tokens [] []
formula_text_answers n t d {tokens} s =
    let b = begun_of s in
    let line_is : first_line tokens ≡ t.line = b.line in
    past_answers (kind.Word word.Program) refl b.stands (λ one a. then_answers (then_answers (name_complete t.name a) (λ y is_y mid m. past_answers (kind.Sign sign.Semicolon) refl m (λ rest r. done r is_y))) (λ x is_x two c. then_answers (declarations_complete t.declarations n (omega arith) two _ _ c refl) (λ ds is_ds three g. past_answers (kind.Word word.Assert) refl g (λ four h. then_answers (asserted_answers n t.formula (omega arith) h) (λ f is_f rest r. done {y = record { line = first_line tokens; name = x; declarations = ds; formula = f }} r (λ i. record { line = line_is i; name = is_x i; declarations = is_ds i; formula = is_f i }))))))
