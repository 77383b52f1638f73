-- Rule files are read as they are expected.
use Rattle.std.proofs.Common.{◌≡◌, ℕ, if◌then◌else◌, List, [], ◌∷◌, Some, None, refl, ap, subst}
use Rattle.spv_logic.specs.declared.names.names.Symbol.{Symbol}
use Rattle.spv_tree.specs.declared.tokens.token.Token.{Token}
use Rattle.spv_tree.specs.declared.tokens.token.TokenKind.{TokenKind}
use Rattle.spv_tree.specs.declared.tokens.token.TokenKind.TheVariants as kind
use Rattle.spv_tree.specs.declared.tokens.token.Word.TheVariants as word
use Rattle.spv_tree.specs.declared.tokens.token.Sign.TheVariants as sign
use Rattle.spv_tree.specs.declared.syntax.rules.RuleForm.TheVariants.{Replace, Infer}
use Rattle.spv_tree.specs.syntax.Steps.{first_line}
use Rattle.spv_grammar.specs.reading.Readers.{starting, headed_by}
use Rattle.spv_grammar.specs.reading.FormulaReaders.{read_formula}
use Rattle.spv_grammar.specs.reading.TypeReaders.{begins_name}
use Rattle.spv_grammar.specs.reading.DeclarationReaders.{read_sort}
use Rattle.spv_grammar.specs.reading.RuleReaders.{read_rule_vars, begins_rule, read_premise, read_replace, read_infer, read_rule, read_rules}
use Rattle.spv_grammar.specs.expected_tokens.Expected.{Expected, rule_vars_parts, rule_file, predict}
use Rattle.spv_grammar.specs.expected_tokens.Expected as expected
use Rattle.spv_grammar.proofs.expected_tokens.Follows.{Follows, gives, one_less, follows_then, follows_past, FollowsItem, no_item, an_item, follows_all, follows_optional, follows_ended}
use Rattle.spv_grammar.proofs.expected_tokens.FormulaFollows.{formula_follows}
use Rattle.spv_grammar.proofs.expected_tokens.TypeFollows.{names_follow}
use Rattle.spv_grammar.proofs.expected_tokens.DeclarationFollows.{at_line, with_kind, headed_follows, names_behind, sort_follows}

-- ---- variables

rule_vars_behind : {m : ℕ} (line : ℕ) (x : Symbol) (tokens : List Token) → Follows m (rule_vars_parts []) tokens (read_rule_vars (at_line line (kind.Name x) ∷ tokens))
rule_vars_behind {m} line x tokens =
    follows_then (names_behind m (record { line = line; symbol = x }) tokens) (λ xs mid. follows_past _ mid (λ last. follows_then (follows_ended (kind.Sign sign.Semicolon) read_sort last (sort_follows last)) (λ s rest. gives m rest (record { line = line; names = xs; sort = s }))))

rule_vars_follow : {m : ℕ} (tokens : List Token) → Follows m (expected.name ∷ rule_vars_parts []) tokens (read_rule_vars tokens)
rule_vars_follow {m} tokens =
    follows_then (names_follow tokens) (λ xs mid. follows_past _ mid (λ last. follows_then (follows_ended (kind.Sign sign.Semicolon) read_sort last (sort_follows last)) (λ s rest. gives m rest (record { line = first_line tokens; names = xs; sort = s }))))

variables_follow : {m : ℕ} (tokens : List Token) → Follows m (expected.rule_var_part ∷ []) tokens (headed_by (kind.Word word.Var) begins_name read_rule_vars tokens)
variables_follow tokens = headed_follows expected.more_rule_vars (rule_vars_parts []) read_rule_vars (λ o. refl) rule_vars_behind expected.rule_var_part (kind.Word word.Var) (λ o. refl) rule_vars_follow tokens

-- ---- rules

module _ (n : ℕ) where
  formula_at : (tokens : List Token) → Follows n (expected.formula ∷ []) tokens (read_formula n tokens)
  formula_at tokens = one_less (formula_follows n tokens)

  premise_follows : (k : TokenKind) (tokens : List Token) → Follows n (expected.premise_part k ∷ []) tokens (read_premise n k tokens)
  premise_follows k tokens = follows_optional (expected.premise_part k) (expected.formula ∷ []) k (read_formula n) (λ o. refl) formula_at tokens

  abbrev replace_parts : List Expected
  replace_parts = expected.formula ∷ expected.token (kind.Word word.By) ∷ expected.formula ∷ expected.premise_part (kind.Word word.Where) ∷ expected.token (kind.Sign sign.Semicolon) ∷ []

  abbrev infer_parts : List Expected
  infer_parts = expected.formula ∷ expected.premise_part (kind.Word word.From) ∷ expected.token (kind.Sign sign.Semicolon) ∷ []

  replace_follows : (tokens : List Token) → Follows n (expected.formula ∷ expected.token (kind.Word word.By) ∷ expected.formula ∷ expected.premise_part (kind.Word word.Where) ∷ []) tokens (read_replace n tokens)
  replace_follows tokens =
      follows_then (formula_at tokens) (λ f mid. follows_past _ mid (λ last. follows_then (formula_at last) (λ g next. follows_then (premise_follows (kind.Word word.Where) next) (λ h rest. gives n rest (Replace f g h)))))

  infer_follows : (tokens : List Token) → Follows n (expected.formula ∷ expected.premise_part (kind.Word word.From) ∷ []) tokens (read_infer n tokens)
  infer_follows tokens = follows_then (formula_at tokens) (λ f mid. follows_then (premise_follows (kind.Word word.From) mid) (λ h rest. gives n rest (Infer f h)))

  replace_behind : (line : ℕ) (tokens : List Token) → Follows n replace_parts tokens (read_rule n (at_line line (kind.Word word.Replace) ∷ tokens))
  replace_behind line tokens =
      follows_then (follows_then (replace_follows tokens) (λ x mid. follows_past (kind.Sign sign.Semicolon) mid (λ rest. gives n rest x))) (λ x rest. gives n rest (record { line = line; form = x }))

  infer_behind : (line : ℕ) (tokens : List Token) → Follows n infer_parts tokens (read_rule n (at_line line (kind.Word word.Infer) ∷ tokens))
  infer_behind line tokens =
      follows_then (follows_then (infer_follows tokens) (λ x mid. follows_past (kind.Sign sign.Semicolon) mid (λ rest. gives n rest x))) (λ x rest. gives n rest (record { line = line; form = x }))

  rule_item : (tokens : List Token) → FollowsItem n expected.rules tokens (starting begins_rule (read_rule n) tokens)
  rule_item [] = no_item [] refl
  rule_item (t ∷ tokens) = by_kind t.kind refl
    where
      by_kind : (k : TokenKind) → t.kind ≡ k → FollowsItem n expected.rules (t ∷ tokens) (if begins_rule (Some k) then Some (read_rule n (t ∷ tokens)) else None)
      by_kind (kind.Word word.Replace) e =
          an_item t tokens replace_parts (read_rule n (t ∷ tokens)) (ap (λ k. predict expected.rules (Some k)) e) (subst (λ (u : Token). Follows n replace_parts tokens (read_rule n (u ∷ tokens))) (with_kind t (kind.Word word.Replace) e) (replace_behind t.line tokens))
      by_kind (kind.Word word.Infer) e =
          an_item t tokens infer_parts (read_rule n (t ∷ tokens)) (ap (λ k. predict expected.rules (Some k)) e) (subst (λ (u : Token). Follows n infer_parts tokens (read_rule n (u ∷ tokens))) (with_kind t (kind.Word word.Infer) e) (infer_behind t.line tokens))
      by_kind k e = no_item (t ∷ tokens) (ap (λ l. predict expected.rules (Some l)) e)

  pub rules_follow : (tokens : List Token) → Follows n rule_file tokens (read_rules n tokens)
  rules_follow tokens =
      follows_then (variables_follow tokens) (λ vs mid. follows_then (follows_all expected.rules [] ◌∷◌ (starting begins_rule (read_rule n)) rule_item mid) (λ rs rest. gives n rest (record { line = first_line tokens; variables = vs; rules = rs })))
