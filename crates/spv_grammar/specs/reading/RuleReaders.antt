-- How rule files and formula texts are read.
use Rattle.std.specs.Prelude.{ℕ, Bool, true, false, ◌-◌, if◌then◌else◌, List, [], ◌∷◌, Option, Some, None, length, take, drop}
use Rattle.spv_tree.specs.declared.tokens.token.Token.{Token}
use Rattle.spv_tree.specs.declared.tokens.token.TokenKind.{TokenKind}
use Rattle.spv_tree.specs.declared.tokens.token.TokenKind.TheVariants as kind
use Rattle.spv_tree.specs.declared.tokens.token.Word.TheVariants as word
use Rattle.spv_tree.specs.declared.tokens.token.Sign.TheVariants as sign
use Rattle.spv_tree.specs.declared.syntax.rules.RuleVars.{RuleVars}
use Rattle.spv_tree.specs.declared.syntax.rules.RuleForm.{RuleForm}
use Rattle.spv_tree.specs.declared.syntax.rules.RuleForm.TheVariants.{Replace, Infer}
use Rattle.spv_tree.specs.declared.syntax.rules.Rule.{Rule}
use Rattle.spv_tree.specs.declared.syntax.rules.RuleTree.{RuleTree}
use Rattle.spv_tree.specs.declared.syntax.formula_texts.FormulaText.{FormulaText}
use Rattle.spv_tree.specs.syntax.Formulas.{Formula}
use Rattle.spv_tree.specs.syntax.Steps.{first_line}
use Rattle.spv_grammar.specs.reading.Readers.{front, after, is, Outcome, Read, Halted, wrong, Reader, misfit, and_then, past, name, all_items, starting, headed_by, optional, ended}
use Rattle.spv_grammar.specs.reading.FormulaReaders.{read_formula}
use Rattle.spv_grammar.specs.reading.TypeReaders.{read_names, begins_name}
use Rattle.spv_grammar.specs.reading.DeclarationReaders.{read_sort, read_declarations}

-- names ":" sort ";"
abbrev pub read_rule_vars : Reader RuleVars
read_rule_vars tokens =
    and_then (read_names tokens) (λ xs mid. past (kind.Sign sign.Colon) mid (λ last. and_then (ended (kind.Sign sign.Semicolon) read_sort last) (λ s rest. Read (record { line = first_line tokens; names = xs; sort = s }, rest))))

-- whether a rule begins with the token
abbrev pub begins_rule : Option TokenKind → Bool
begins_rule (Some (kind.Word word.Replace)) = true
begins_rule (Some (kind.Word word.Infer)) = true
begins_rule _ = false

-- the tokens before the last one, where that is a period
abbrev pub before_period : List Token → Option (List Token)
before_period tokens = if is (kind.Sign sign.Period) (front (drop (length tokens - 1) tokens)) then Some (take (length tokens - 1) tokens) else None

-- what is read of these tokens, where there are some to be read; where there are none, nothing is said of the place
abbrev pub read_inside : {A : Type 0} → Reader A → Option (List Token) → Outcome A
read_inside item None = Halted (wrong 0)
read_inside item (Some inside) = item inside

-- ---- formulas in them have n levels at most

module _ (n : ℕ) where
  -- WHERE formula or FROM formula, where it is there
  abbrev pub read_premise : TokenKind → Reader (Option Formula)
  read_premise k tokens = optional k (read_formula n) tokens

  -- formula BY formula [WHERE formula], behind REPLACE
  abbrev pub read_replace : Reader RuleForm
  read_replace tokens =
      and_then (read_formula n tokens) (λ f mid. past (kind.Word word.By) mid (λ last. and_then (read_formula n last) (λ g next. and_then (read_premise (kind.Word word.Where) next) (λ h rest. Read (Replace f g h, rest)))))

  -- formula [FROM formula], behind INFER
  abbrev pub read_infer : Reader RuleForm
  read_infer tokens = and_then (read_formula n tokens) (λ f mid. and_then (read_premise (kind.Word word.From) mid) (λ h rest. Read (Infer f h, rest)))

  abbrev pub rule_on : Option TokenKind → Reader RuleForm
  rule_on (Some (kind.Word word.Replace)) tokens = read_replace (after tokens)
  rule_on (Some (kind.Word word.Infer)) tokens = read_infer (after tokens)
  rule_on _ tokens = misfit tokens

  -- REPLACE formula BY formula [WHERE formula] | INFER formula [FROM formula]
  abbrev pub read_rule_form : Reader RuleForm
  read_rule_form tokens = rule_on (front tokens) tokens

  -- the same with its ";"
  abbrev pub read_rule : Reader Rule
  read_rule tokens = and_then (ended (kind.Sign sign.Semicolon) read_rule_form tokens) (λ x rest. Read (record { line = first_line tokens; form = x }, rest))

  -- [VAR rvars {rvars}] {rule}
  abbrev pub read_rules : Reader RuleTree
  read_rules tokens =
      and_then (headed_by (kind.Word word.Var) begins_name read_rule_vars tokens) (λ vs mid. and_then (all_items [] ◌∷◌ (starting begins_rule read_rule) mid) (λ rs rest. Read (record { line = first_line tokens; variables = vs; rules = rs }, rest)))

  -- formula ".", to the end of the tokens: as the period would go on with the formula, this is taken away first
  abbrev pub read_asserted : Reader Formula
  read_asserted tokens = read_inside (read_formula n) (before_period tokens)

  -- PROGRAM name ";" decls ASSERT formula "."
  abbrev pub read_formula_text : Reader FormulaText
  read_formula_text tokens =
      past (kind.Word word.Program) tokens (λ one. and_then (ended (kind.Sign sign.Semicolon) name one) (λ x two. and_then (read_declarations n two) (λ ds three. past (kind.Word word.Assert) three (λ four. and_then (read_asserted four) (λ f rest. Read (record { line = first_line tokens; name = x; declarations = ds; formula = f }, rest))))))
