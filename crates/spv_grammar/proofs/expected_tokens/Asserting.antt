-- A formula text is read as it is expected up to what it asserts, whatever reads that.
use Rattle.std.proofs.Common.{◌≡◌, ℕ, Bool, true, false, if◌then◌else◌, List, [], ◌∷◌, ◌++◌, Some, None, length, refl, sym, ap, ◌∙◌, subst, append_assoc, arith}
use Rattle.spv_tree.specs.declared.tokens.token.Token.{Token}
use Rattle.spv_tree.specs.declared.tokens.token.TokenKind.{TokenKind}
use Rattle.spv_tree.specs.declared.tokens.token.TokenKind.TheVariants as kind
use Rattle.spv_tree.specs.declared.tokens.token.Word.TheVariants as word
use Rattle.spv_tree.specs.declared.tokens.token.Sign.TheVariants as sign
use Rattle.spv_tree.specs.syntax.Formulas.{Formula}
use Rattle.spv_tree.specs.syntax.Steps.{first_line}
use Rattle.spv_grammar.specs.reading.Readers.{front, is, Outcome, Read, Stop, wrong, Halted, Reader, misfit, and_then, past, name, ended}
use Rattle.spv_grammar.specs.reading.DeclarationReaders.{read_declarations}
use Rattle.spv_grammar.proofs.reading.Fronts.{read_is}
use Rattle.spv_grammar.specs.expected_tokens.Expected.{Expected, token, token_by, predict, taken}
use Rattle.spv_grammar.specs.expected_tokens.Expected as expected
use Rattle.spv_grammar.specs.expected_tokens.Machine.{Leads, here, takes, opens}
use Rattle.spv_grammar.specs.expected_tokens.FormulaTexts.{read_asserting}
use Rattle.spv_grammar.proofs.expected_tokens.Follows.{Follows, leads_on, shorter, one_less, misfit_at, take_first, then_by, follows_name, follows_ended}
use Rattle.spv_grammar.proofs.expected_tokens.DeclarationFollows.{declarations_follow}
use Rattle.spv_grammar.proofs.expected_tokens.Going.{none_before, fronts, tails, heads}

-- ---- the same way with other tokens behind it

pub before_of : {ps : List Expected} {tokens : List Token} {qs : List Expected} {rest : List Token} → Leads ps tokens qs rest → (before : List Token) × (tokens ≡ before ++ rest)
before_of (here ps tokens) = ([], refl)
before_of (takes p parts ps t tokens qs rest e a) =
    let b = before_of a in
    (t ∷ b.0, ap (λ ts. t ∷ ts) b.1)
before_of (opens p parts ps tokens qs rest e a) = before_of a

module _ (between : List Token) (a : Token) (behind others : List Token) where
  fronts_behind : (before : List Token) → front (before ++ (between ++ a ∷ behind)) ≡ front (before ++ (between ++ a ∷ others))
  fronts_behind [] = fronts between a behind others
  fronts_behind (t ∷ before) = refl

  pub leads_again : (ps : List Expected) (tokens : List Token) (qs : List Expected) (mid : List Token) → Leads ps tokens qs mid → mid ≡ between ++ a ∷ behind → (before : List Token) → tokens ≡ before ++ mid → Leads ps (before ++ (between ++ a ∷ others)) qs (between ++ a ∷ others)
  leads_again _ _ _ _ (here ps tokens) mid_is before is =
      subst (λ (b : List Token). Leads ps (b ++ (between ++ a ∷ others)) ps (between ++ a ∷ others)) (sym (none_before before tokens tokens is refl)) (here ps (between ++ a ∷ others))
  leads_again _ _ _ _ (takes p parts ps t tokens qs mid e x) mid_is [] is =
      let s = shorter x in
      let same : length (t ∷ tokens) ≡ length mid = ap length is in
      absurd (omega (arith, s, same))
  leads_again _ _ _ _ (takes p parts ps t tokens qs mid e x) mid_is (u ∷ before) is =
      let first_is : t ≡ u = heads t u tokens (before ++ mid) is in
      takes p parts ps u (before ++ (between ++ a ∷ others)) qs (between ++ a ∷ others) (subst (λ (v : Token). predict p (Some v.kind) ≡ taken parts) first_is e) (leads_again (parts ++ ps) tokens qs mid x mid_is before (tails t u tokens (before ++ mid) is))
  leads_again _ _ _ _ (opens p parts ps tokens qs mid e x) mid_is before is =
      opens p parts ps (before ++ (between ++ a ∷ others)) qs (between ++ a ∷ others)
      (ap (predict p) (sym (fronts_behind before) ∙ ap (λ (ts : List Token). front (before ++ ts)) (sym mid_is) ∙ ap front (sym is)) ∙ e)
      (leads_again (parts ++ ps) tokens qs mid x mid_is before is)

-- ---- ways to what is read last

-- reading stops before it; or it begins behind a token, to which one comes whatever stands behind
pub data Way {A B : Type 0} (m : ℕ) (from : List Expected) (tokens : List Token) (last : Reader A) (o : Outcome B) : Type 0 where
  stops : (s : Stop) → o ≡ Halted s → Follows {A = B} m from tokens (Halted s) → Way m from tokens last o
  goes : (before : List Token) (a : Token) (behind : List Token) (make : A → B) → tokens ≡ before ++ a ∷ behind → o ≡ and_then (last behind) (λ x rest. Read (make x, rest)) → ((others : List Token) (ps : List Expected) → Leads (from ++ ps) (before ++ a ∷ others) ps others) → Way m from tokens last o

module _ {A B : Type 0} {m : ℕ} {last : Reader A} where
  way_end : (k : TokenKind) (tokens : List Token) (make : A → B) → Way m (token k ∷ []) tokens last (past k tokens (λ behind. and_then (last behind) (λ x rest. Read (make x, rest))))
  way_end k [] make = stops (wrong 0) refl (misfit_at m (token k) [] [] None refl refl)
  way_end k (t ∷ tokens) make = by_test (is k (Some t.kind)) refl
    where
      by_test : (b : Bool) → is k (Some t.kind) ≡ b → Way m (token k ∷ []) (t ∷ tokens) last (if b then and_then (last tokens) (λ x rest. Read (make x, rest)) else misfit (t ∷ tokens))
      by_test true e = goes [] t tokens make refl refl (λ others ps. takes (token k) [] ps t others ps others (ap token_by e) (here ps others))
      by_test false e = stops (wrong (length (t ∷ tokens))) refl (misfit_at m (token k) [] (t ∷ tokens) (Some t.kind) refl (ap token_by e))

  way_past : {two : List Expected} (k : TokenKind) (tokens : List Token) {next : List Token → Outcome B} → ((rest : List Token) → Way m two rest last (next rest)) → Way m (token k ∷ two) tokens last (past k tokens next)
  way_past {two} k [] {next} w = stops (wrong 0) refl (misfit_at m (token k) two [] None refl refl)
  way_past {two} k (t ∷ tokens) {next} w = by_test (is k (Some t.kind)) refl (w tokens)
    where
      by_test : (b : Bool) → is k (Some t.kind) ≡ b → Way m two tokens last (next tokens) → Way m (token k ∷ two) (t ∷ tokens) last (if b then next tokens else misfit (t ∷ tokens))
      by_test true e (stops s o f) = stops s o (one_less (take_first m (token k) two [] (Halted s) t tokens (ap token_by e) f))
      by_test true e (goes before a behind make here_is o l) =
          goes (t ∷ before) a behind make (ap (λ ts. t ∷ ts) here_is) o (λ others ps. takes (token k) [] (two ++ ps) t (before ++ a ∷ others) ps others (ap token_by e) (l others ps))
      by_test false e w = stops (wrong (length (t ∷ tokens))) refl (misfit_at m (token k) two (t ∷ tokens) (Some t.kind) refl (ap token_by e))

  way_then : {C : Type 0} {one two : List Expected} {tokens : List Token} (o : Outcome C) (next : C → List Token → Outcome B) → Follows m one tokens o → ((x : C) (mid : List Token) → Way m two mid last (next x mid)) → Way m (one ++ two) tokens last (and_then o next)
  way_then {C} {one} {two} {tokens} (Halted s) next f w = stops s refl (then_by (Halted s) next f (λ x mid e. absurd (cc (e))))
  way_then {C} {one} {two} {tokens} (Read (x, mid)) next f w = by_way (w x mid)
    where
      by_way : Way m two mid last (next x mid) → Way m (one ++ two) tokens last (next x mid)
      by_way (stops s o g) =
          stops s o (then_by (Read (x, mid)) (λ y rest. Halted s) f (λ y rest e. subst (λ (r : C × List Token). Follows {A = B} m two r.1 (Halted s)) (read_is (x, mid) (y, rest) e) g))
      by_way (goes between a behind make mid_is o l) =
          let b = before_of (f.read x mid refl []) in
          goes (b.0 ++ between) a behind make (b.1 ∙ ap (λ (ts : List Token). b.0 ++ ts) mid_is ∙ sym (append_assoc b.0 between (a ∷ behind))) o
          (λ others ps. led b.0 between a behind others ps (leads_again between a behind others (one ++ (two ++ ps)) tokens (two ++ ps) mid (f.read x mid refl (two ++ ps)) mid_is b.0 b.1) (l others ps))
        where
          led : (before between : List Token) (a : Token) (behind others : List Token) (ps : List Expected) → Leads (one ++ (two ++ ps)) (before ++ (between ++ a ∷ others)) (two ++ ps) (between ++ a ∷ others) → Leads (two ++ ps) (between ++ a ∷ others) ps others → Leads ((one ++ two) ++ ps) ((before ++ between) ++ a ∷ others) ps others
          led before between a behind others ps x y =
              subst (λ (qs : List Expected). Leads qs ((before ++ between) ++ a ∷ others) ps others) (sym (append_assoc one two ps))
              (subst (λ (ts : List Token). Leads (one ++ (two ++ ps)) ts ps others) (sym (append_assoc before between (a ∷ others))) (leads_on x y))

-- ---- up to ASSERT

abbrev pub asserting : List Expected
asserting =
    token (kind.Word word.Program) ∷ expected.name ∷ token (kind.Sign sign.Semicolon) ∷ expected.const_part ∷ expected.type_part ∷ expected.var_part ∷ expected.declare_part ∷ token (kind.Word word.Assert) ∷ []

pub asserting_way : (n : ℕ) (last : Reader Formula) (tokens : List Token) → Way n asserting tokens last (read_asserting n last tokens)
asserting_way n last tokens =
    way_past (kind.Word word.Program) tokens (λ one. way_then (ended (kind.Sign sign.Semicolon) name one) _ (follows_ended (kind.Sign sign.Semicolon) name one (follows_name one)) (λ x two. way_then (read_declarations n two) _ (declarations_follow n two) (λ ds three.
    way_end (kind.Word word.Assert) three (λ f. record { line = first_line tokens; name = x; declarations = ds; formula = f }))))
