-- A part that may be missing is, before tokens that do not go on with it; so what completes parts leads to their end.
use Rattle.std.proofs.Common.{◌≡◌, Bool, true, false, ◌||◌, not, if◌then◌else◌, List, [], ◌∷◌, ◌++◌, Option, Some, None, refl, sym, ap}
use Rattle.std.specs.Prelude.{is_some}
use Rattle.std.proofs.lemmas.Bool.{false≢true}
use Rattle.spv_logic.proofs.list.Tests.{left_false, right_false}
use Rattle.spv_tree.specs.declared.tokens.token.Token.{Token}
use Rattle.spv_tree.specs.declared.tokens.token.TokenKind.{TokenKind}
use Rattle.spv_tree.specs.declared.tokens.token.TokenKind.TheVariants as kind
use Rattle.spv_tree.specs.declared.tokens.token.Word.TheVariants as word
use Rattle.spv_tree.specs.declared.tokens.token.Sign.TheVariants as sign
use Rattle.spv_grammar.specs.reading.Readers.{front, is}
use Rattle.spv_grammar.specs.reading.FormulaReaders.{comparison_of, adding_of, multiplying_of}
use Rattle.spv_grammar.specs.reading.StatementReaders.{begins_constant}
use Rattle.spv_grammar.specs.reading.TypeReaders.{begins_name}
use Rattle.spv_grammar.specs.reading.Continuing.{continues_selectors, continues_term, continues_simple, continues_relation, continues_formula, continues_arms, continues_statements, continues_declarations}
use Rattle.spv_grammar.specs.expected_tokens.Expected.{Expected, taken, opened, word_is, compared, added, multiplied, named_by, opened_if, marks_by, mark_end_by, token_by, predict}
use Rattle.spv_grammar.specs.expected_tokens.Expected as expected
use Rattle.spv_grammar.specs.expected_tokens.Machine.{Leads, here, takes, opens}
use Rattle.spv_grammar.proofs.expected_tokens.Completions.{some_name, continues, token_of}
use Rattle.spv_grammar.proofs.expected_tokens.Follows.{leads_on}
use Rattle.spv_grammar.proofs.expected_tokens.Fitting.{relation_ends, simple_ends, term_ends}

-- ---- what is missing

none_of : {X : Type 0} (o : Option X) → is_some o ≡ false → o ≡ None
none_of None h = refl
none_of (Some x) h = absurd (false≢true (sym h))

pub word_missing : (k : TokenKind) (o : Option TokenKind) (parts : List Expected) → is k o ≡ false → word_is k o parts ≡ opened []
word_missing k o parts h = ap (λ b. if b then taken parts else opened []) h

pub selectors_missing : (o : Option TokenKind) → continues_selectors o ≡ false → predict expected.selectors o ≡ opened []
selectors_missing (Some (kind.Sign sign.OpenBracket)) h = absurd (false≢true (sym h))
selectors_missing (Some (kind.Sign sign.Period)) h = absurd (false≢true (sym h))
selectors_missing (Some (kind.Sign sign.Caret)) h = absurd (false≢true (sym h))
selectors_missing o h = refl

pub statement_missing : (o : Option TokenKind) → continues_arms o ≡ false → predict expected.statement o ≡ opened []
statement_missing (Some (kind.Name x)) h = absurd (false≢true (sym h))
statement_missing (Some (kind.Word word.New)) h = absurd (false≢true (sym h))
statement_missing (Some (kind.Word word.Begin)) h = absurd (false≢true (sym h))
statement_missing (Some (kind.Word word.If)) h = absurd (false≢true (sym h))
statement_missing (Some (kind.Word word.Case)) h = absurd (false≢true (sym h))
statement_missing (Some (kind.Word word.Invariant)) h = absurd (false≢true (sym h))
statement_missing (Some (kind.Word word.While)) h = absurd (false≢true (sym h))
statement_missing (Some (kind.Word word.Repeat)) h = absurd (false≢true (sym h))
statement_missing (Some (kind.Word word.For)) h = absurd (false≢true (sym h))
statement_missing (Some (kind.Word word.Assert)) h = absurd (false≢true (sym h))
statement_missing o h = refl

pub action_missing : (o : Option TokenKind) → continues_arms o ≡ false → predict expected.action o ≡ opened []
action_missing (Some (kind.Sign sign.OpenParenthesis)) h = absurd (false≢true (sym h))
action_missing (Some (kind.Sign sign.OpenBracket)) h = absurd (false≢true (sym h))
action_missing (Some (kind.Sign sign.Period)) h = absurd (false≢true (sym h))
action_missing (Some (kind.Sign sign.Caret)) h = absurd (false≢true (sym h))
action_missing (Some (kind.Sign sign.Becomes)) h = absurd (false≢true (sym h))
action_missing o h = refl

pub semicolon_missing : (o : Option TokenKind) (parts : List Expected) → continues_arms o ≡ false → word_is (kind.Sign sign.Semicolon) o parts ≡ opened []
semicolon_missing o parts h = word_missing _ o parts (left_false (is (kind.Sign sign.Semicolon) o) _ (right_false (begins_constant o) (continues_statements o) h))

pub else_missing : (o : Option TokenKind) (parts : List Expected) → continues_arms o ≡ false → word_is (kind.Word word.Else) o parts ≡ opened []
else_missing o parts h = word_missing _ o parts (left_false (is (kind.Word word.Else) o) _ (right_false (is (kind.Sign sign.Semicolon) o) _ (right_false (begins_constant o) (continues_statements o) h)))

pub names_missing : (o : Option TokenKind) (parts : List Expected) → begins_name o ≡ false → expected.name_begins o parts ≡ opened []
names_missing (Some (kind.Name x)) parts h = absurd (false≢true (sym h))
names_missing o parts h = refl

pub rules_missing : (o : Option TokenKind) → continues expected.rules o ≡ false → predict expected.rules o ≡ opened []
rules_missing (Some (kind.Word word.Replace)) h = absurd (false≢true (sym h))
rules_missing (Some (kind.Word word.Infer)) h = absurd (false≢true (sym h))
rules_missing o h = refl

module _ (o : Option TokenKind) (h : continues_declarations o ≡ false) where
  pub no_name : begins_name o ≡ false
  no_name = left_false (begins_name o) _ h

  pub no_const : (is (kind.Word word.Const) o || (is (kind.Word word.Type) o || (is (kind.Word word.Var) o || is (kind.Word word.Declare) o))) ≡ false
  no_const = right_false (begins_name o) _ h

  pub no_type : (is (kind.Word word.Type) o || (is (kind.Word word.Var) o || is (kind.Word word.Declare) o)) ≡ false
  no_type = right_false (is (kind.Word word.Const) o) _ no_const

  pub no_var : (is (kind.Word word.Var) o || is (kind.Word word.Declare) o) ≡ false
  no_var = right_false (is (kind.Word word.Type) o) _ no_type

-- ---- what is read of what completes a part

module _ (ps : List Expected) (rest : List Token) where
  pub missing : (p : Expected) → predict p (front rest) ≡ opened [] → Leads (p ∷ ps) rest ps rest
  missing p e = opens p [] ps rest ps rest e (here ps rest)

pub same_token : (k : TokenKind) → not (is k (Some k)) ≡ false → is k (Some k) ≡ true
same_token k h = by_test (is k (Some k)) h
  where
    by_test : (b : Bool) → not b ≡ false → b ≡ true
    by_test true g = refl
    by_test false g = absurd (false≢true (sym g))

abbrev pub tokens_of : List TokenKind → List Token → List Token
tokens_of [] rest = rest
tokens_of (k ∷ ks) rest = token_of k ∷ tokens_of ks rest

pub take : (p : Expected) (parts ps : List Expected) (k : TokenKind) (tokens : List Token) (qs : List Expected) (rest : List Token) → predict p (Some k) ≡ taken parts → Leads (parts ++ ps) tokens qs rest → Leads (p ∷ ps) (token_of k ∷ tokens) qs rest
take p parts ps k tokens qs rest e a = takes p parts ps (token_of k) tokens qs rest e a

module _ (rest : List Token) where
  pub term_missing : continues_term (front rest) ≡ false → predict expected.more_factors (front rest) ≡ opened []
  term_missing h = ap multiplied (none_of (multiplying_of (front rest)) (left_false (is_some (multiplying_of (front rest))) _ h))

  pub terms_missing : continues_simple (front rest) ≡ false → predict expected.more_terms (front rest) ≡ opened []
  terms_missing h = ap added (none_of (adding_of (front rest)) (left_false (is_some (adding_of (front rest))) _ h))

  pub side_missing : continues_relation (front rest) ≡ false → predict expected.right_side (front rest) ≡ opened []
  side_missing h = ap compared (none_of (comparison_of (front rest)) (left_false (is_some (comparison_of (front rest))) _ h))

  pub conclusion_missing : continues_formula (front rest) ≡ false → predict expected.conclusion (front rest) ≡ opened []
  conclusion_missing h = word_missing (kind.Sign sign.Arrow) (front rest) _ (left_false (is (kind.Sign sign.Arrow) (front rest)) _ h)

  pub nil_factor : (qs : List Expected) → Leads (expected.factor ∷ qs) (token_of (kind.Word word.Nil) ∷ rest) qs rest
  nil_factor qs = take expected.factor [] qs (kind.Word word.Nil) rest qs rest refl (here qs rest)

  pub nil_term : (qs : List Expected) → continues_term (front rest) ≡ false → Leads (expected.term ∷ qs) (token_of (kind.Word word.Nil) ∷ rest) qs rest
  nil_term qs h = opens expected.term (expected.factor ∷ expected.more_factors ∷ []) qs _ qs rest refl (leads_on (nil_factor (expected.more_factors ∷ qs)) (missing qs rest expected.more_factors (term_missing h)))

  pub nil_simple : (qs : List Expected) → continues_simple (front rest) ≡ false → Leads (expected.simple ∷ qs) (token_of (kind.Word word.Nil) ∷ rest) qs rest
  nil_simple qs h =
      opens expected.simple (expected.term ∷ expected.more_terms ∷ []) qs _ qs rest refl (leads_on (nil_term (expected.more_terms ∷ qs) (term_ends (front rest) h)) (missing qs rest expected.more_terms (terms_missing h)))

  pub nil_formula : (qs : List Expected) → continues_formula (front rest) ≡ false → Leads (expected.formula ∷ qs) (token_of (kind.Word word.Nil) ∷ rest) qs rest
  nil_formula qs h =
      opens expected.formula (expected.simple ∷ expected.right_side ∷ expected.conclusion ∷ []) qs _ qs rest refl
      (leads_on (nil_simple (expected.right_side ∷ expected.conclusion ∷ qs) (simple_ends (front rest) (relation_ends (front rest) h))) (leads_on (missing (expected.conclusion ∷ qs) rest expected.right_side (side_missing (relation_ends (front rest) h))) (missing qs rest expected.conclusion (conclusion_missing h))))

  pub named_token : (p : Expected) (qs : List Expected) → predict p (Some some_name) ≡ taken [] → Leads (p ∷ qs) (token_of some_name ∷ rest) qs rest
  named_token p qs e = take p [] qs some_name rest qs rest e (here qs rest)
