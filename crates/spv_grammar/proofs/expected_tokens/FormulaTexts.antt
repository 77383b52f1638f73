-- Reading of a formula text stops where its tokens go wrong.
use Rattle.std.proofs.Common.{◌≡◌, ℕ, suc, ◌+◌, ◌≤◌, Bool, true, false, if◌then◌else◌, List, [], ◌∷◌, ◌++◌, Option, Some, None, length, refl, sym, ap, ◌∙◌, subst, append_assoc, arith}
use Rattle.spv_tree.specs.declared.tokens.token.Token.{Token}
use Rattle.spv_tree.specs.declared.tokens.token.TokenKind.{TokenKind}
use Rattle.spv_tree.specs.declared.tokens.token.TokenKind.TheVariants as kind
use Rattle.spv_tree.specs.declared.tokens.token.Word.TheVariants as word
use Rattle.spv_tree.specs.declared.tokens.token.Sign.TheVariants as sign
use Rattle.spv_tree.specs.declared.syntax.formula_texts.FormulaText.{FormulaText}
use Rattle.spv_tree.specs.syntax.Formulas.{Formula}
use Rattle.spv_tree.specs.syntax.Steps.{first_line}
use Rattle.spv_tree.specs.syntax.Reads.{ReadsFormulaText}
use Rattle.spv_grammar.specs.first_sets.Lines.{line_where}
use Rattle.spv_grammar.specs.first_sets.Begins.{Begins, GoesWrongAt}
use Rattle.spv_grammar.proofs.first_sets.Among.{length_of}
use Rattle.spv_grammar.specs.reading.Readers.{front, after, is, Outcome, Read, Stop, wrong, deep, Halted, misfit, and_then, past, name, ended}
use Rattle.spv_grammar.specs.reading.FormulaReaders.{read_formula}
use Rattle.spv_grammar.specs.reading.DeclarationReaders.{read_declarations}
use Rattle.spv_grammar.specs.reading.RoutineReaders.{read_whole}
use Rattle.spv_grammar.specs.reading.RuleReaders.{before_period, read_inside, read_formula_text}
use Rattle.spv_grammar.proofs.reading.Fronts.{same_kind-true}
use Rattle.spv_grammar.specs.expected_tokens.Expected.{Expected, formula_text}
use Rattle.spv_grammar.specs.expected_tokens.Expected as expected
use Rattle.spv_grammar.specs.expected_tokens.Machine as machine
use Rattle.spv_grammar.specs.expected_tokens.Machine.{Leads, Wrong}
use Rattle.spv_grammar.specs.expected_tokens.FormulaTexts.{surplus, up_to_period, without_period, asserted_by, whole_asserted, whole_formula_text}
use Rattle.spv_grammar.specs.expected_tokens.Laws.{StopsWhereWrong, LevelsTakeTokens, ReadTheSame}
use Rattle.spv_grammar.proofs.expected_tokens.Small.{nothing_behind}
use Rattle.spv_grammar.proofs.expected_tokens.Follows.{stop_is, leads_on, wrong_on}
use Rattle.spv_grammar.proofs.expected_tokens.FormulaFollows.{formula_follows}
use Rattle.spv_grammar.proofs.expected_tokens.Going.{heads, tails, completed, wrong_again, not_both}
use Rattle.spv_grammar.proofs.expected_tokens.Places.{at_token, at_the_end, at_the_last}
use Rattle.spv_grammar.proofs.expected_tokens.Periods.{period, not_at_period, whole_before}
use Rattle.spv_grammar.proofs.expected_tokens.Asserting.{before_of, Way, stops, goes, asserting, asserting_way}
use Rattle.spv_grammar.proofs.expected_tokens.Bodies.{Ended, ended_by, Decided, there, elsewhere, decided, body_of, text_of}

-- ---- which tokens begin a formula text, and which begin none

begins : (before more : List Token) → Leads formula_text (before ++ more) [] [] → Begins ReadsFormulaText before
begins before more a =
    let t = text_of (before ++ more) (record { kind = period; line = 1 }) refl a in
    record {
      more = more ++ record { kind = period; line = 1 } ∷ [];
      tree = t.0;
      read = subst (λ (ts : List Token). ReadsFormulaText ts t.0) (append_assoc before more (record { kind = period; line = 1 } ∷ [])) t.1;
    }

begins_with : (before : List Token) (t : Token) → t.kind ≡ period → Leads formula_text before [] [] → Begins ReadsFormulaText (before ++ t ∷ [])
begins_with before t ends a =
    let x = text_of before t ends a in
    record { more = []; tree = x.0; read = subst (λ (ts : List Token). ReadsFormulaText ts x.0) (sym (nothing_behind (before ++ t ∷ []))) x.1 }

-- the last token is this one, or it stands behind it
data Place (before : List Token) (t : Token) (body : List Token) (last : Token) : Type 0 where
  the_last : before ≡ body → t ≡ last → Place before t body last
  earlier : (others : List Token) → body ≡ before ++ t ∷ others → Place before t body last

place : (before : List Token) (t : Token) (more body : List Token) (last : Token) → before ++ t ∷ more ≡ body ++ last ∷ [] → Place before t body last
place [] t more [] last e = the_last refl (heads t last more [] e)
place [] t more (u ∷ body) last e = earlier body (ap (λ v. v ∷ body) (sym (heads t u more (body ++ last ∷ []) e)))
place (v ∷ before) t more [] last e =
    let none : length (before ++ t ∷ more) ≡ 0 = ap length (tails v last (before ++ t ∷ more) [] e) in
    absurd (omega (arith, none, length_of before (t ∷ more)))
place (v ∷ before) t more (u ∷ body) last e = further (heads v u (before ++ t ∷ more) (body ++ last ∷ []) e) (place before t more body last (tails v u (before ++ t ∷ more) (body ++ last ∷ []) e))
  where
    further : v ≡ u → Place before t body last → Place (v ∷ before) t (u ∷ body) last
    further same (the_last f g) = the_last (cc (same, f)) g
    further same (earlier others f) = earlier others (cc (same, f))

begins_none : (before : List Token) (t : Token) → ((others : List Token) → Leads formula_text (before ++ t ∷ others) [] [] → ⊥) → (Leads formula_text before [] [] → t.kind ≡ period → ⊥) → Begins ReadsFormulaText (before ++ t ∷ []) → ⊥
begins_none before t never not_whole b =
    let o = body_of ((before ++ t ∷ []) ++ b.more) b.tree b.read in
    by_place o.body o.last o.ends o.leads (place before t b.more o.body o.last (sym (append_assoc before (t ∷ []) b.more) ∙ o.is))
  where
    by_place : (body : List Token) (last : Token) → last.kind ≡ period → Leads formula_text body [] [] → Place before t body last → ⊥
    by_place body last ends a (the_last f g) = not_whole (subst (λ (ts : List Token). Leads formula_text ts [] []) (sym f) a) (ap (λ u. u.kind) g ∙ ends)
    by_place body last ends a (earlier others f) = never others (subst (λ (ts : List Token). Leads formula_text ts [] []) f a)

not_with : (before : List Token) (t : Token) (behind tokens : List Token) (left : ℕ) → Wrong formula_text tokens left → tokens ≡ before ++ t ∷ behind → left ≡ length (t ∷ behind) → (others : List Token) → Leads formula_text (before ++ t ∷ others) [] [] → ⊥
not_with before t behind tokens left w is many others a = not_both formula_text (before ++ t ∷ others) (length (t ∷ others)) a (wrong_again t behind others formula_text tokens left w before is many)

-- ---- what goes wrong inside

abbrev tail_of : Option Token → List Token
tail_of None = []
tail_of (Some t) = t ∷ []

-- where the tokens before the last one end too early
early : (tokens inside : List Token) (last : Token) (more : List Token) → tokens ≡ inside ++ last ∷ [] → Wrong formula_text inside 0 → Leads formula_text (inside ++ more) [] [] → GoesWrongAt ReadsFormulaText tokens (line_where tokens 1)
early tokens inside last more is w a = by_case (decided (suc (length (inside ++ last ∷ []))) (inside ++ last ∷ []) (omega arith))
  where
    begun : Begins ReadsFormulaText inside
    begun = begins inside more a

    by_place : (before : List Token) (t : Token) (behind : List Token) (left : ℕ) → Wrong formula_text (inside ++ last ∷ []) left → inside ++ last ∷ [] ≡ before ++ t ∷ behind → left ≡ length (t ∷ behind) → Place before t inside last → GoesWrongAt ReadsFormulaText tokens (line_where tokens 1)
    by_place before t behind left v both many (the_last f g) =
        at_token ReadsFormulaText tokens inside last [] 1 is refl
        (record {
          right = begun;
          wrong = begins_none inside last
              (subst (λ (u : Token). (others : List Token) → Leads formula_text (inside ++ u ∷ others) [] [] → ⊥) g (subst (λ (b : List Token). (others : List Token) → Leads formula_text (b ++ t ∷ others) [] [] → ⊥) f (not_with before t behind (inside ++ last ∷ []) left v both many)))
              (λ b k. not_both formula_text inside 0 b w);
        })
    by_place before t behind left v both many (earlier others f) =
        absurd (not_with before t behind (inside ++ last ∷ []) left v both many (others ++ more) (subst (λ (ts : List Token). Leads formula_text ts [] []) (ap (λ (ts : List Token). ts ++ more) f ∙ append_assoc before (t ∷ others) more) a))

    by_rest : (before rest : List Token) (left : ℕ) (others : List Token) → Wrong formula_text (inside ++ last ∷ []) left → inside ++ last ∷ [] ≡ before ++ rest → length rest ≡ left → Leads formula_text (before ++ others) [] [] → GoesWrongAt ReadsFormulaText tokens (line_where tokens 1)
    by_rest before [] left others v both many b =
        at_the_last ReadsFormulaText tokens inside last 1 is refl (subst (λ (ts : List Token). Begins ReadsFormulaText ts) (sym (both ∙ nothing_behind before)) (begins before others b))
    by_rest before (t ∷ behind) left others v both many b = by_place before t behind left v both (sym many) (place before t behind inside last (sym both))

    by_case : Decided (suc (length (inside ++ last ∷ []))) (inside ++ last ∷ []) → GoesWrongAt ReadsFormulaText tokens (line_where tokens 1)
    by_case (there x e b) = at_the_last ReadsFormulaText tokens inside last 1 is refl (begins (inside ++ last ∷ []) [] (subst (λ (ts : List Token). Leads formula_text ts [] []) (sym (nothing_behind (inside ++ last ∷ []))) b))
    by_case (elsewhere left v) =
        let c = completed formula_text (inside ++ last ∷ []) left v refl in
        by_rest c.before c.rest left c.more v c.are_both c.so_many c.leads

-- where reading stops in tokens behind which this stands
misfit_inside : (tokens inside : List Token) (tail : Option Token) (left told : ℕ) → tokens ≡ inside ++ tail_of tail → told ≡ left + length (tail_of tail) → ((ps : List Expected) → Wrong (formula_text ++ ps) inside left) → GoesWrongAt ReadsFormulaText tokens (line_where tokens told)
misfit_inside tokens inside tail left told is told_is w =
    let c = completed formula_text inside left (w []) refl in
    by_rest c.before c.rest c.are_both c.so_many c.more c.leads
  where
    by_tail : (others : Option Token) → tail ≡ others → (before more : List Token) → inside ≡ before → 0 ≡ left → Leads formula_text (before ++ more) [] [] → GoesWrongAt ReadsFormulaText tokens (line_where tokens told)
    by_tail None e before more all none a =
        let nothing_told : told ≡ 0 = told_is ∙ ap (λ (o : Option Token). left + length (tail_of o)) e ∙ ap (λ n. n + 0) (sym none) in
        at_the_end ReadsFormulaText tokens told nothing_told
        (subst (λ (ts : List Token). Begins ReadsFormulaText ts) (sym (is ∙ ap (λ (o : Option Token). inside ++ tail_of o) e ∙ nothing_behind inside ∙ all)) (begins before more a))
    by_tail (Some last) e before more all none a =
        let one_told : told ≡ 1 = told_is ∙ ap (λ (o : Option Token). left + length (tail_of o)) e ∙ ap (λ n. n + 1) (sym none) in
        subst (λ (n : ℕ). GoesWrongAt ReadsFormulaText tokens (line_where tokens n)) (sym one_told)
        (early tokens inside last more (is ∙ ap (λ (o : Option Token). inside ++ tail_of o) e) (subst (λ (n : ℕ). Wrong formula_text inside n) (sym none) (w [])) (subst (λ (ts : List Token). Leads formula_text (ts ++ more) [] []) (sym all) a))

    by_rest : (before rest : List Token) → inside ≡ before ++ rest → length rest ≡ left → (more : List Token) → Leads formula_text (before ++ more) [] [] → GoesWrongAt ReadsFormulaText tokens (line_where tokens told)
    by_rest before [] both many more a = by_tail tail refl before more (both ∙ nothing_behind before) many a
    by_rest before (t ∷ behind) both many more a =
        let again : Wrong (formula_text ++ expected.token period ∷ []) (before ++ t ∷ []) 1 = wrong_again t behind [] (formula_text ++ expected.token period ∷ []) inside left (w (expected.token period ∷ [])) before both (sym many) in
        let so_many : told ≡ length (t ∷ behind ++ tail_of tail) = omega (arith, told_is, many, length_of behind (tail_of tail)) in
        at_token ReadsFormulaText tokens before t (behind ++ tail_of tail) told (is ∙ ap (λ (ts : List Token). ts ++ tail_of tail) both ∙ append_assoc before (t ∷ behind) (tail_of tail)) so_many
        (record {
          right = begins before more a;
          wrong = begins_none before t (not_with before t behind inside left (w []) both (sym many)) (λ b k. not_at_period t k formula_text before 1 (omega arith) b again);
        })

-- ---- what is left behind a whole formula

same_rest : (before rest others behind : List Token) → before ++ rest ≡ others ++ behind → length rest ≡ length behind → before ≡ others
same_rest [] rest [] behind e n = refl
same_rest [] rest (u ∷ others) behind e n =
    let same : length rest ≡ suc (length (others ++ behind)) = ap length e in
    absurd (omega (arith, n, same, length_of others behind))
same_rest (t ∷ before) rest [] behind e n =
    let same : suc (length (before ++ rest)) ≡ length behind = ap length e in
    absurd (omega (arith, n, same, length_of before rest))
same_rest (t ∷ before) rest (u ∷ others) behind e n =
    let first_is : t ≡ u = heads t u (before ++ rest) (others ++ behind) e in
    let all : before ≡ others = same_rest before rest others behind (tails t u (before ++ rest) (others ++ behind) e) n in
    cc

left_behind : (tokens inside : List Token) (tail : Option Token) (t : Token) (behind : List Token) (told : ℕ) → tokens ≡ inside ++ tail_of tail → told ≡ length (surplus (t ∷ behind)) + length (tail_of tail) → Leads formula_text inside [] (t ∷ behind) → GoesWrongAt ReadsFormulaText tokens (line_where tokens told)
left_behind tokens inside tail t behind told all told_is a =
    let b = before_of a in
    by_test b.0 b.1 (is period (Some t.kind)) refl
  where
    w : Wrong formula_text inside (length (t ∷ behind))
    w = wrong_on a (machine.surplus t behind)

    all_of : (before : List Token) → inside ≡ before ++ t ∷ behind → tokens ≡ before ++ t ∷ (behind ++ tail_of tail)
    all_of before both = all ∙ ap (λ (ts : List Token). ts ++ tail_of tail) both ∙ append_assoc before (t ∷ behind) (tail_of tail)

    begun : (before : List Token) → inside ≡ before ++ t ∷ behind → Begins ReadsFormulaText before
    begun before both =
        let c = completed formula_text inside (length (t ∷ behind)) w refl in
        begins before c.more (subst (λ (ts : List Token). Leads formula_text (ts ++ c.more) [] []) (same_rest c.before c.rest before (t ∷ behind) (sym c.are_both ∙ both) c.so_many) c.leads)

    by_next : (before : List Token) → inside ≡ before ++ t ∷ behind → t.kind ≡ period → (others : List Token) → behind ++ tail_of tail ≡ others → told ≡ length others → GoesWrongAt ReadsFormulaText tokens (line_where tokens told)
    by_next before both ends [] rest_is many =
        at_the_end ReadsFormulaText tokens told many
        (subst (λ (ts : List Token). Begins ReadsFormulaText ts) (sym (all_of before both ∙ ap (λ (ts : List Token). before ++ t ∷ ts) rest_is)) (begins_with before t ends (whole_before t ends formula_text inside behind a before both)))
    by_next before both ends (u ∷ others) rest_is many =
        let never : (more : List Token) → Leads formula_text (before ++ t ∷ more) [] [] → ⊥ = not_with before t behind inside (length (t ∷ behind)) w both refl in
        at_token ReadsFormulaText tokens (before ++ t ∷ []) u others told (all_of before both ∙ ap (λ (ts : List Token). before ++ t ∷ ts) rest_is ∙ sym (append_assoc before (t ∷ []) (u ∷ others))) many
        (record {
          right = begins_with before t ends (whole_before t ends formula_text inside behind a before both);
          wrong = begins_none (before ++ t ∷ []) u (λ more x. never (u ∷ more) (subst (λ (ts : List Token). Leads formula_text ts [] []) (append_assoc before (t ∷ []) (u ∷ more)) x)) (λ x k. never [] x);
        })

    by_test : (before : List Token) → inside ≡ before ++ t ∷ behind → (b : Bool) → is period (Some t.kind) ≡ b → GoesWrongAt ReadsFormulaText tokens (line_where tokens told)
    by_test before both true e =
        by_next before both (same_kind-true t.kind period e) (behind ++ tail_of tail) refl (told_is ∙ ap (λ (c : Bool). length (if c then behind else t ∷ behind) + length (tail_of tail)) e ∙ sym (length_of behind (tail_of tail)))
    by_test before both false e =
        at_token ReadsFormulaText tokens before t (behind ++ tail_of tail) told (all_of before both) (told_is ∙ ap (λ (c : Bool). length (if c then behind else t ∷ behind) + length (tail_of tail)) e ∙ sym (length_of (t ∷ behind) (tail_of tail)))
        (record {
          right = begun before both;
          wrong = begins_none before t (not_with before t behind inside (length (t ∷ behind)) w both refl) (λ x k. no_period (sym e ∙ ap (λ l. is period (Some l)) k));
        })
      where
        no_period : false ≡ true → ⊥
        no_period f = absurd (cc (f))

-- ---- so reading stops there

stopped : {A B : Type 0} (o : Outcome A) (make : A → B) (s : Stop) → and_then o (λ x rest. Read (make x, rest)) ≡ Halted s → o ≡ Halted s
stopped {A} {B} (Read r) make s e = absurd (cc (e))
stopped {A} {B} (Halted t) make s e = ap Halted (stop_is {A = B} t s e)

told_is : {A : Type 0} (l n : ℕ) → ◌≡◌ {A = Outcome A} (Halted (wrong l)) (Halted (wrong n)) → n ≡ l
told_is l n e = cc

module _ (n : ℕ) (tokens : List Token) (left : ℕ) where
  at_surplus : (inside : List Token) (tail : Option Token) (rest : List Token) → tokens ≡ inside ++ tail_of tail → left ≡ length (surplus rest) + length (tail_of tail) → Leads formula_text inside [] rest → (rest ≡ [] → tail ≡ None) → GoesWrongAt ReadsFormulaText tokens (line_where tokens left)
  at_surplus inside tail (t ∷ rest) is many a h = left_behind tokens inside tail t rest left is many a
  at_surplus inside tail [] is many a h =
      let none : tail ≡ None = h refl in
      at_the_end ReadsFormulaText tokens left (many ∙ ap (λ (o : Option Token). 0 + length (tail_of o)) none)
      (begins tokens [] (subst (λ (ts : List Token). Leads formula_text ts [] []) (sym (nothing_behind tokens ∙ is ∙ ap (λ (o : Option Token). inside ++ tail_of o) none ∙ nothing_behind inside)) a))

  module _ (before : List Token) (a : Token) (behind : List Token) (led : (others : List Token) (ps : List Expected) → Leads (asserting ++ ps) (before ++ a ∷ others) ps others) (is : tokens ≡ before ++ a ∷ behind) where
    unended : (o : Outcome Formula) → read_formula n behind ≡ o → without_period o ≡ Halted (wrong left) → GoesWrongAt ReadsFormulaText tokens (line_where tokens left)
    unended (Read (f, rest)) e h =
        at_surplus (before ++ a ∷ behind) None rest (is ∙ sym (nothing_behind (before ++ a ∷ behind))) (omega (arith, told_is (length (surplus rest)) left h)) (leads_on (led behind (expected.formula ∷ [])) ((formula_follows n behind).read f rest e [])) (λ none. refl)
    unended (Halted s) e h =
        misfit_inside tokens (before ++ a ∷ behind) None left left (is ∙ sym (nothing_behind (before ++ a ∷ behind))) (omega arith)
        (λ ps. wrong_on (led behind (expected.formula ∷ ps)) ((formula_follows n behind).wrong left (e ∙ h) ps))

    module _ (inside : List Token) (last : Ended behind inside) where
      all_is : tokens ≡ (before ++ a ∷ inside) ++ last.last ∷ []
      all_is = is ∙ ap (λ (ts : List Token). before ++ a ∷ ts) last.is ∙ sym (append_assoc before (a ∷ inside) (last.last ∷ []))

      with_period : (o : Outcome Formula) → read_formula n inside ≡ o → up_to_period o ≡ Halted (wrong left) → GoesWrongAt ReadsFormulaText tokens (line_where tokens left)
      with_period (Read (f, [])) e h = absurd (cc (h))
      with_period (Read (f, t ∷ rest)) e h =
          at_surplus (before ++ a ∷ inside) (Some last.last) (t ∷ rest) all_is (told_is (length (surplus (t ∷ rest)) + 1) left h) (leads_on (led inside (expected.formula ∷ [])) ((formula_follows n inside).read f (t ∷ rest) e [])) (λ none. absurd (cc (none)))
      with_period (Halted (wrong l)) e h =
          misfit_inside tokens (before ++ a ∷ inside) (Some last.last) l left all_is (told_is (l + 1) left h)
          (λ ps. wrong_on (led inside (expected.formula ∷ ps)) ((formula_follows n inside).wrong l e ps))
      with_period (Halted (deep l)) e h = absurd (cc (h))

    by_end : (o : Option (List Token)) → before_period behind ≡ o → asserted_by n o behind ≡ Halted (wrong left) → GoesWrongAt ReadsFormulaText tokens (line_where tokens left)
    by_end None e h = unended (read_formula n behind) refl h
    by_end (Some inside) e h = with_period inside (ended_by behind inside e) (read_formula n inside) refl h

  wrong_by : {o : Outcome FormulaText} → Way n asserting tokens (whole_asserted n) o → o ≡ Halted (wrong left) → GoesWrongAt ReadsFormulaText tokens (line_where tokens left)
  wrong_by (stops s o f) e = misfit_inside tokens tokens None left left (sym (nothing_behind tokens)) (omega arith) (λ ps. f.wrong left (sym o ∙ e) (expected.formula ∷ ps))
  wrong_by (goes before a behind make is o led) e = by_end before a behind led is (before_period behind) refl (stopped (whole_asserted n behind) make (wrong left) (sym o ∙ e))

pub formula_texts_stop : StopsWhereWrong whole_formula_text ReadsFormulaText
formula_texts_stop n tokens left e = wrong_by n tokens left (asserting_way n (whole_asserted n) tokens) e

-- ---- where no level is left

deep_told : {A : Type 0} (l n : ℕ) → ◌≡◌ {A = Outcome A} (Halted (deep l)) (Halted (deep n)) → n ≡ l
deep_told l n e = cc

module _ (n : ℕ) (behind : List Token) (left : ℕ) where
  deep_unended : (o : Outcome Formula) → read_formula n behind ≡ o → without_period o ≡ Halted (deep left) → left + n ≤ length behind
  deep_unended (Read r) e h = absurd (cc (h))
  deep_unended (Halted s) e h = let d = (formula_follows n behind).deep left (e ∙ h) in omega (arith, d)

  deep_ended : (inside : List Token) → Ended behind inside → (o : Outcome Formula) → read_formula n inside ≡ o → up_to_period o ≡ Halted (deep left) → left + n ≤ length behind
  deep_ended inside last (Read (f, [])) e h = absurd (cc (h))
  deep_ended inside last (Read (f, t ∷ rest)) e h = absurd (cc (h))
  deep_ended inside last (Halted (wrong l)) e h = absurd (cc (h))
  deep_ended inside last (Halted (deep l)) e h =
      let d = (formula_follows n inside).deep l e in
      let many : length behind ≡ length (inside ++ last.last ∷ []) = ap length last.is in
      omega (arith, d, many, length_of inside (last.last ∷ []), deep_told (l + 1) left h)

  deep_by : (o : Option (List Token)) → before_period behind ≡ o → asserted_by n o behind ≡ Halted (deep left) → left + n ≤ length behind
  deep_by None e h = deep_unended (read_formula n behind) refl h
  deep_by (Some inside) e h = deep_ended inside (ended_by behind inside e) (read_formula n inside) refl h

pub formula_texts_take : LevelsTakeTokens whole_formula_text
formula_texts_take n tokens left e = by_way (asserting_way n (whole_asserted n) tokens) e
  where
    by_way : {o : Outcome FormulaText} → Way n asserting tokens (whole_asserted n) o → o ≡ Halted (deep left) → left + n ≤ length tokens
    by_way (stops s o f) e = f.deep left (sym o ∙ e)
    by_way (goes before a behind make is o led) e =
        let d = deep_by n behind left (before_period behind) refl (stopped (whole_asserted n behind) make (deep left) (sym o ∙ e)) in
        let many : length tokens ≡ length (before ++ a ∷ behind) = ap length is in
        omega (arith, d, many, length_of before (a ∷ behind))

-- ---- the same texts are read

same_behind : {A B : Type 0} (o : Outcome A) (one other : A → List Token → Outcome B) → ((x : A) (mid : List Token) → read_whole (one x mid) ≡ read_whole (other x mid)) → read_whole (and_then o one) ≡ read_whole (and_then o other)
same_behind (Read r) one other h = h r.0 r.1
same_behind (Halted s) one other h = refl

same_past : {B : Type 0} (k : TokenKind) (tokens : List Token) (one other : List Token → Outcome B) → ((rest : List Token) → read_whole (one rest) ≡ read_whole (other rest)) → read_whole (past k tokens one) ≡ read_whole (past k tokens other)
same_past k tokens one other h = by_test (is k (front tokens))
  where
    by_test : (b : Bool) → read_whole (if b then one (after tokens) else misfit tokens) ≡ read_whole (if b then other (after tokens) else misfit tokens)
    by_test true = h (after tokens)
    by_test false = refl

module _ (make : Formula → FormulaText) where
  ended_same : (o : Outcome Formula) → read_whole (and_then (up_to_period o) (λ f rest. Read (make f, rest))) ≡ read_whole (and_then o (λ f rest. Read (make f, rest)))
  ended_same (Read (f, [])) = refl
  ended_same (Read (f, t ∷ rest)) = refl
  ended_same (Halted s) = refl

  unended_none : (o : Outcome Formula) → read_whole (and_then (without_period o) (λ f rest. Read (make f, rest))) ≡ None
  unended_none (Read r) = refl
  unended_none (Halted s) = refl

  asserted_same : (n : ℕ) (tokens : List Token) (o : Option (List Token)) → read_whole (and_then (asserted_by n o tokens) (λ f rest. Read (make f, rest))) ≡ read_whole (and_then (read_inside (read_formula n) o) (λ f rest. Read (make f, rest)))
  asserted_same n tokens None = unended_none (read_formula n tokens)
  asserted_same n tokens (Some inside) = ended_same (read_formula n inside)

pub formula_texts_same : ReadTheSame whole_formula_text read_formula_text
formula_texts_same n tokens =
    same_past (kind.Word word.Program) tokens _ _ (λ one. same_behind (ended (kind.Sign sign.Semicolon) name one) _ _ (λ x two. same_behind (read_declarations n two) _ _ (λ ds three. same_past (kind.Word word.Assert) three _ _ (λ four.
    asserted_same (λ f. record { line = first_line tokens; name = x; declarations = ds; formula = f }) n four (before_period four)))))
