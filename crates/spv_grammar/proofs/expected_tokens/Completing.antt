-- What completes parts is read as they are.
use Rattle.std.proofs.Common.{◌≡◌, ℕ, zero, suc, Bool, true, false, not, List, [], ◌∷◌, ◌++◌, Some, refl, sym, ap, ◌∙◌, subst}
use Rattle.spv_logic.proofs.list.Tests.{left_true, right_true, left_false, right_false}
use Rattle.spv_tree.specs.declared.tokens.token.Token.{Token}
use Rattle.spv_tree.specs.declared.tokens.token.TokenKind.{TokenKind}
use Rattle.spv_tree.specs.declared.tokens.token.TokenKind.TheVariants as kind
use Rattle.spv_tree.specs.declared.tokens.token.Word.TheVariants as word
use Rattle.spv_tree.specs.declared.tokens.token.Sign.TheVariants as sign
use Rattle.spv_grammar.specs.reading.Readers.{first, front, is}
use Rattle.spv_grammar.specs.reading.StatementReaders.{begins_constant}
use Rattle.spv_grammar.specs.reading.TypeReaders.{begins_name}
use Rattle.spv_grammar.specs.reading.RoutineReaders.{begins_heading}
use Rattle.spv_grammar.specs.reading.Continuing.{continues_arms, continues_type, continues_statements}
use Rattle.spv_grammar.specs.expected_tokens.Expected.{Expected, taken, opened, named_by, opened_if, marks_by, token_by, predict, while_parts, typed_names, block_parts}
use Rattle.spv_grammar.specs.expected_tokens.Expected as expected
use Rattle.spv_grammar.specs.expected_tokens.Machine.{Leads, here, opens}
use Rattle.spv_grammar.proofs.expected_tokens.Completions.{some_name, routine_ends, completion, continues, completions, fits, token_of}
use Rattle.spv_grammar.proofs.expected_tokens.Small.{not_true}
use Rattle.spv_grammar.proofs.expected_tokens.Follows.{leads_on}
use Rattle.spv_grammar.proofs.expected_tokens.Fitting.{selectors_end}
use Rattle.spv_grammar.proofs.expected_tokens.Ends.{word_missing, selectors_missing, statement_missing, action_missing, semicolon_missing, else_missing, names_missing, rules_missing, no_name, no_const, no_type, no_var, missing, same_token, tokens_of, take, term_missing, terms_missing, side_missing, conclusion_missing, nil_factor, nil_term, nil_simple, nil_formula, named_token}

word_there : (k : TokenKind) (rest : List Token) (ps : List Expected) → is k (Some k) ≡ true → Leads (expected.token k ∷ ps) (token_of k ∷ rest) ps rest
word_there k rest ps h = take (expected.token k) [] ps k rest ps rest (ap token_by h) (here ps rest)

named_completed : (rest : List Token) (ps : List Expected) → continues expected.named (front rest) ≡ false → Leads (expected.named ∷ ps) rest ps rest
named_completed rest ps h =
    opens expected.named (expected.selectors ∷ []) ps rest ps rest (ap named_by (left_false (is (kind.Sign sign.OpenParenthesis) (front rest)) _ h)) (missing ps rest expected.selectors (selectors_missing (front rest) (selectors_end (front rest) h)))

loop_completed : (rest : List Token) (ps : List Expected) → continues_arms (front rest) ≡ false → Leads (expected.loop ∷ ps) (tokens_of (completion expected.loop) rest) ps rest
loop_completed rest ps h =
    take expected.loop while_parts ps (kind.Word word.While) _ ps rest refl
    (leads_on (nil_formula (token_of (kind.Word word.Do) ∷ rest) (expected.token (kind.Word word.Do) ∷ expected.statement ∷ ps) refl)
    (leads_on (word_there (kind.Word word.Do) rest (expected.statement ∷ ps) refl) (missing ps rest expected.statement (statement_missing (front rest) h))))

group_completed : (rest : List Token) (ps : List Expected) → Leads (expected.group ∷ ps) (tokens_of (completion expected.group) rest) ps rest
group_completed rest ps =
    opens expected.group typed_names ps _ ps rest refl
    (leads_on (named_token (token_of (kind.Sign sign.Colon) ∷ token_of some_name ∷ rest) expected.name (expected.more_names ∷ expected.token (kind.Sign sign.Colon) ∷ expected.name ∷ ps) refl)
    (leads_on (missing (expected.token (kind.Sign sign.Colon) ∷ expected.name ∷ ps) (token_of (kind.Sign sign.Colon) ∷ token_of some_name ∷ rest) expected.more_names refl)
    (leads_on (word_there (kind.Sign sign.Colon) (token_of some_name ∷ rest) (expected.name ∷ ps) refl) (named_token rest expected.name ps refl))))

heading_completed : (rest : List Token) (ps : List Expected) → is (kind.Sign sign.OpenParenthesis) (front rest) ≡ false → Leads (expected.heading ∷ ps) (tokens_of (completion expected.heading) rest) ps rest
heading_completed rest ps h =
    take expected.heading (expected.name ∷ expected.group_part ∷ []) ps (kind.Word word.Procedure) _ ps rest refl
    (leads_on (named_token rest expected.name (expected.group_part ∷ ps) refl) (missing ps rest expected.group_part (word_missing _ (front rest) _ h)))

marks_completed : (begun : ℕ) (rest : List Token) (ps : List Expected) → begins_heading (front rest) ≡ false → Leads (expected.marks begun ∷ ps) (tokens_of (routine_ends begun) rest) ps rest
marks_completed zero rest ps h = missing ps rest (expected.marks zero) (ap (marks_by zero) h)
marks_completed (suc begun) rest ps h =
    let behind : List Token = tokens_of (routine_ends begun) rest in
    let shut : List Expected = expected.token (kind.Sign sign.Semicolon) ∷ expected.marks begun ∷ ps in
    let last : List Token = token_of (kind.Word word.End) ∷ token_of (kind.Sign sign.Semicolon) ∷ behind in
    opens (expected.marks (suc begun)) (expected.token (kind.Word word.Begin) ∷ block_parts (expected.token (kind.Sign sign.Semicolon) ∷ expected.marks begun ∷ [])) ps _ ps rest refl
    (leads_on (word_there (kind.Word word.Begin) last (block_parts shut) refl)
    (leads_on (missing (expected.more_statements ∷ expected.token (kind.Word word.End) ∷ shut) last expected.statement refl)
    (leads_on (missing (expected.token (kind.Word word.End) ∷ shut) last expected.more_statements refl)
    (leads_on (word_there (kind.Word word.End) (token_of (kind.Sign sign.Semicolon) ∷ behind) shut refl)
    (leads_on (word_there (kind.Sign sign.Semicolon) behind (expected.marks begun ∷ ps) refl) (marks_completed begun rest ps h))))))

mark_end_completed : (begun : ℕ) (rest : List Token) (ps : List Expected) → begins_heading (front rest) ≡ false → Leads (expected.mark_end begun ∷ ps) (tokens_of (completion (expected.mark_end begun)) rest) ps rest
mark_end_completed begun rest ps h =
    take (expected.mark_end begun) (expected.token (kind.Sign sign.Semicolon) ∷ expected.marks begun ∷ []) ps (kind.Word word.Forward) _ ps rest refl
    (leads_on (word_there (kind.Sign sign.Semicolon) (tokens_of (routine_ends begun) rest) (expected.marks begun ∷ ps) refl) (marks_completed begun rest ps h))

if_missing : (b : Bool) (parts : List Expected) → b ≡ false → opened_if b parts ≡ opened []
if_missing b parts h = ap (λ c. opened_if c parts) h

completes : (p : Expected) (rest : List Token) (ps : List Expected) → continues p (front rest) ≡ false → Leads (p ∷ ps) (tokens_of (completion p) rest) ps rest
completes (expected.token k) rest ps h = word_there k rest ps (same_token k h)
completes expected.name rest ps h = named_token rest expected.name ps refl
completes expected.formula rest ps h = nil_formula rest ps h
completes expected.conclusion rest ps h = missing ps rest expected.conclusion (conclusion_missing rest h)
completes expected.right_side rest ps h = missing ps rest expected.right_side (side_missing rest h)
completes expected.simple rest ps h = nil_simple rest ps h
completes expected.more_terms rest ps h = missing ps rest expected.more_terms (terms_missing rest h)
completes expected.term rest ps h = nil_term rest ps h
completes expected.more_factors rest ps h = missing ps rest expected.more_factors (term_missing rest h)
completes expected.factor rest ps h = nil_factor rest ps
completes expected.named rest ps h = named_completed rest ps h
completes expected.selectors rest ps h = missing ps rest expected.selectors (selectors_missing (front rest) h)
completes expected.more_formulas rest ps h = missing ps rest expected.more_formulas (word_missing _ (front rest) _ (left_false (is (kind.Sign sign.Comma) (front rest)) _ h))
completes expected.scalar rest ps h = named_token rest expected.scalar ps refl
completes expected.constant rest ps h = opens expected.constant (expected.scalar ∷ []) ps _ ps rest refl (named_token rest expected.scalar ps refl)
completes expected.more_constants rest ps h = missing ps rest expected.more_constants (word_missing _ (front rest) _ h)
completes expected.statement rest ps h = missing ps rest expected.statement (statement_missing (front rest) h)
completes expected.more_statements rest ps h = missing ps rest expected.more_statements (semicolon_missing (front rest) _ h)
completes expected.action rest ps h = missing ps rest expected.action (action_missing (front rest) h)
completes expected.loop rest ps h = loop_completed rest ps h
completes expected.direction rest ps h = take expected.direction [] ps (kind.Word word.To) rest ps rest refl (here ps rest)
completes expected.otherwise rest ps h = missing ps rest expected.otherwise (else_missing (front rest) _ h)
completes expected.arm rest ps h = missing ps rest expected.arm (if_missing (begins_constant (front rest)) _ (left_false (begins_constant (front rest)) (continues_statements (front rest)) h))
completes expected.more_arms rest ps h = missing ps rest expected.more_arms (semicolon_missing (front rest) _ h)
completes expected.more_names rest ps h = missing ps rest expected.more_names (word_missing _ (front rest) _ h)
completes expected.type rest ps h = take expected.type (expected.range_part ∷ []) ps some_name rest ps rest refl (missing ps rest expected.range_part (word_missing _ (front rest) _ h))
completes expected.range_part rest ps h = missing ps rest expected.range_part (word_missing _ (front rest) _ h)
completes expected.more_types rest ps h = missing ps rest expected.more_types (word_missing _ (front rest) _ (left_false (is (kind.Sign sign.Comma) (front rest)) _ h))
completes expected.field rest ps h =
    missing ps rest expected.field (if_missing (begins_name (front rest)) _ (left_false (begins_name (front rest)) (continues_type (front rest)) (right_false (is (kind.Sign sign.Semicolon) (front rest)) _ h)))
completes expected.more_fields rest ps h = missing ps rest expected.more_fields (word_missing _ (front rest) _ (left_false (is (kind.Sign sign.Semicolon) (front rest)) _ h))
completes expected.more_consts rest ps h = missing ps rest expected.more_consts (names_missing (front rest) _ (no_name (front rest) h))
completes expected.const_part rest ps h = missing ps rest expected.const_part (word_missing _ (front rest) _ (left_false (is (kind.Word word.Const) (front rest)) _ (no_const (front rest) h)))
completes expected.more_typedefs rest ps h = missing ps rest expected.more_typedefs (names_missing (front rest) _ (no_name (front rest) h))
completes expected.type_part rest ps h = missing ps rest expected.type_part (word_missing _ (front rest) _ (left_false (is (kind.Word word.Type) (front rest)) _ (no_type (front rest) h)))
completes expected.more_vars rest ps h = missing ps rest expected.more_vars (names_missing (front rest) _ (no_name (front rest) h))
completes expected.var_part rest ps h = missing ps rest expected.var_part (word_missing _ (front rest) _ (left_false (is (kind.Word word.Var) (front rest)) _ (no_var (front rest) h)))
completes expected.more_symbols rest ps h = missing ps rest expected.more_symbols (names_missing (front rest) _ (no_name (front rest) h))
completes expected.declare_part rest ps h = missing ps rest expected.declare_part (word_missing _ (front rest) _ (right_false (is (kind.Word word.Var) (front rest)) _ (no_var (front rest) h)))
completes expected.argument_part rest ps h = missing ps rest expected.argument_part (word_missing _ (front rest) _ h)
completes expected.sort rest ps h = opens expected.sort (expected.name ∷ []) ps _ ps rest refl (named_token rest expected.name ps refl)
completes expected.more_sorts rest ps h = missing ps rest expected.more_sorts (word_missing _ (front rest) _ h)
completes expected.group rest ps h = group_completed rest ps
completes expected.more_groups rest ps h = missing ps rest expected.more_groups (word_missing _ (front rest) _ (left_false (is (kind.Sign sign.Semicolon) (front rest)) _ h))
completes expected.group_part rest ps h = missing ps rest expected.group_part (word_missing _ (front rest) _ (left_false (is (kind.Sign sign.OpenParenthesis) (front rest)) _ h))
completes expected.result_part rest ps h = missing ps rest expected.result_part (word_missing _ (front rest) _ (right_false (is (kind.Sign sign.OpenParenthesis) (front rest)) _ h))
completes expected.heading rest ps h = heading_completed rest ps (left_false (is (kind.Sign sign.OpenParenthesis) (front rest)) _ h)
completes expected.global_group rest ps h =
    opens expected.global_group (expected.sort ∷ expected.more_sorts ∷ []) ps _ ps rest refl
    (opens expected.sort (expected.name ∷ []) (expected.more_sorts ∷ ps) _ ps rest refl (leads_on (named_token rest expected.name (expected.more_sorts ∷ ps) refl) (missing ps rest expected.more_sorts (word_missing _ (front rest) _ h))))
completes expected.more_global_groups rest ps h = missing ps rest expected.more_global_groups (word_missing _ (front rest) _ (left_false (is (kind.Sign sign.Semicolon) (front rest)) _ h))
completes expected.global_part rest ps h = missing ps rest expected.global_part (word_missing _ (front rest) _ h)
completes expected.more_starts rest ps h = missing ps rest expected.more_starts (word_missing _ (front rest) _ h)
completes expected.initial_part rest ps h = missing ps rest expected.initial_part (word_missing _ (front rest) _ h)
completes (expected.condition_part k) rest ps h = missing ps rest (expected.condition_part k) (word_missing _ (front rest) _ h)
completes (expected.marks begun) rest ps h = marks_completed begun rest ps h
completes (expected.mark_end begun) rest ps h = mark_end_completed begun rest ps h
completes expected.file_part rest ps h = missing ps rest expected.file_part (word_missing _ (front rest) _ h)
completes expected.more_rule_vars rest ps h = missing ps rest expected.more_rule_vars (names_missing (front rest) _ (no_name (front rest) h))
completes expected.rule_var_part rest ps h = missing ps rest expected.rule_var_part (word_missing _ (front rest) _ (left_false (is (kind.Word word.Var) (front rest)) _ (no_var (front rest) h)))
completes (expected.premise_part k) rest ps h = missing ps rest (expected.premise_part k) (word_missing _ (front rest) _ (left_false (is k (front rest)) _ h))
completes expected.rules rest ps h = missing ps rest expected.rules (rules_missing (front rest) h)

-- ---- all of them

front_of : (ks : List TokenKind) → first ks ≡ front (tokens_of ks [])
front_of [] = refl
front_of (k ∷ ks) = refl

in_a_row : (ks ls : List TokenKind) (rest : List Token) → tokens_of ks (tokens_of ls rest) ≡ tokens_of (ks ++ ls) rest
in_a_row [] ls rest = refl
in_a_row (k ∷ ks) ls rest = ap (λ ts. token_of k ∷ ts) (in_a_row ks ls rest)

pub all_complete : (ps : List Expected) → fits ps ≡ true → Leads ps (tokens_of (completions ps) []) [] []
all_complete [] h = here [] []
all_complete (p ∷ ps) h =
    let ends : continues p (first (completions ps)) ≡ false = not_true _ (left_true (not (continues p (first (completions ps)))) (fits ps) h) in
    let here_ends : continues p (front (tokens_of (completions ps) [])) ≡ false = ap (continues p) (sym (front_of (completions ps))) ∙ ends in
    subst (λ (ts : List Token). Leads (p ∷ ps) ts [] []) (in_a_row (completion p) (completions ps) []) (leads_on (completes p (tokens_of (completions ps) []) ps here_ends) (all_complete ps (right_true (not (continues p (first (completions ps)))) (fits ps) h)))
