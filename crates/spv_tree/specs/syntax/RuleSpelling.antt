-- How rule files and formula texts are spelled, in front of what follows.
use Rattle.std.specs.Prelude.{List, ◌∷◌, Option, Some, None}
use Rattle.spv_tree.specs.declared.tokens.token.TokenKind.{TokenKind}
use Rattle.spv_tree.specs.declared.tokens.token.TokenKind.TheVariants as kind
use Rattle.spv_tree.specs.declared.tokens.token.Word.TheVariants as word
use Rattle.spv_tree.specs.declared.tokens.token.Sign.TheVariants as sign
use Rattle.spv_tree.specs.declared.syntax.rules.RuleVars.{RuleVars}
use Rattle.spv_tree.specs.declared.syntax.rules.RuleForm.{RuleForm}
use Rattle.spv_tree.specs.declared.syntax.rules.RuleForm.TheVariants.{Replace, Infer}
use Rattle.spv_tree.specs.declared.syntax.rules.Rule.{Rule}
use Rattle.spv_tree.specs.declared.syntax.rules.RuleTree.{RuleTree}
use Rattle.spv_tree.specs.declared.syntax.formula_texts.FormulaText.{FormulaText}
use Rattle.spv_tree.specs.syntax.Formulas.{Formula}
use Rattle.spv_tree.specs.syntax.Lists.{each, headed}
use Rattle.spv_tree.specs.syntax.Members.{Members}
use Rattle.spv_tree.specs.syntax.ProgramSpelling.{declarations_spelling, sort_spelling}
use Rattle.spv_tree.specs.syntax.FormulaSpelling.{formula_spelling, name_spelling}
use Rattle.spv_tree.specs.syntax.TypeSpelling.{names_spelling}

-- ---- in members of one kind

module _ {R : Type 0} (m : Members R) where
  -- ---- rule files

  abbrev pub rule_vars_spelling : RuleVars → List R → List R
  rule_vars_spelling v rest =
      m.at v.line (names_spelling m v.names (m.token (kind.Sign sign.Colon) ∷ sort_spelling m v.sort (m.token (kind.Sign sign.Semicolon)
      ∷ rest)))

  -- a word and the formula behind it, where they are there
  abbrev pub premise_spelling : TokenKind → Option Formula → List R → List R
  premise_spelling k None rest = rest
  premise_spelling k (Some f) rest = m.token k ∷ formula_spelling m f rest

  abbrev pub rule_form_spelling : RuleForm → List R → List R
  rule_form_spelling (Replace f g h) rest =
      m.token (kind.Word word.Replace) ∷ formula_spelling m f (m.token (kind.Word word.By) ∷ formula_spelling m g
      (premise_spelling (kind.Word word.Where) h rest))
  rule_form_spelling (Infer f h) rest = m.token (kind.Word word.Infer) ∷ formula_spelling m f (premise_spelling (kind.Word word.From) h rest)

  abbrev pub rule_spelling : Rule → List R → List R
  rule_spelling r rest = m.at r.line (rule_form_spelling r.form (m.token (kind.Sign sign.Semicolon) ∷ rest))

  abbrev pub rule_tree_spelling : RuleTree → List R → List R
  rule_tree_spelling t rest =
      m.at t.line (headed (m.token (kind.Word word.Var)) rule_vars_spelling t.variables (each rule_spelling t.rules rest))

  -- ---- formula texts

  abbrev pub formula_text_spelling : FormulaText → List R → List R
  formula_text_spelling t rest =
      m.at t.line (m.token (kind.Word word.Program) ∷ name_spelling m t.name (m.token (kind.Sign sign.Semicolon)
      ∷ declarations_spelling m t.declarations (m.token (kind.Word word.Assert) ∷ formula_spelling m t.formula (m.token (kind.Sign sign.Period)
      ∷ rest))))
