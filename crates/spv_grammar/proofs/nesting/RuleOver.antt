-- The way over the tokens of a rule file or a formula text goes above as many levels as it has.
use Rattle.std.proofs.Common.{[], ◌∷◌, Some, None, arith}
use Rattle.spv_tree.specs.declared.tokens.token.TokenKind.{TokenKind}
use Rattle.spv_tree.specs.declared.tokens.token.TokenKind.TheVariants as kind
use Rattle.spv_tree.specs.declared.tokens.token.Word.TheVariants as word
use Rattle.spv_tree.specs.declared.tokens.token.Sign.TheVariants as sign
use Rattle.spv_tree.specs.declared.syntax.rules.RuleForm.TheVariants.{Replace, Infer}
use Rattle.spv_tree.specs.syntax.Lists.{each}
use Rattle.spv_tree.specs.syntax.Members.{in_kinds}
use Rattle.spv_tree.specs.syntax.FormulaSpelling.{formula_spelling, name_kind}
use Rattle.spv_tree.specs.syntax.RuleSpelling.{formula_text_spelling, premise_spelling, rule_form_spelling, rule_spelling, rule_tree_spelling, rule_vars_spelling}
use Rattle.spv_grammar.specs.reading.Depths.{formula_depth, condition_depth, rule_form_depth, rules_depth, rule_tree_depth, formula_text_depth}
use Rattle.spv_grammar.proofs.nesting.FormulaClimbs.{formula_climbs}
use Rattle.spv_grammar.proofs.nesting.Over.{GoesOver, IsFlat, over_none, over_both, over_token, over_shallower, over_flat, over_climbs, each_flat, over_headed}
use Rattle.spv_grammar.proofs.nesting.ProgramOver.{names_flat, signed, sort_flat, declarations_over}

-- ---- rule files

rule_vars_flat : IsFlat (rule_vars_spelling in_kinds)
rule_vars_flat v c rest =
    over_flat (names_flat v.names c _) (λ at. over_token (kind.Sign sign.Colon) (λ mid. over_flat (sort_flat v.sort mid _) (λ last. signed (kind.Sign sign.Semicolon) last rest)))

formula_over : GoesOver (formula_spelling in_kinds) formula_depth
formula_over f c rest = over_climbs (formula_spelling in_kinds) formula_depth formula_climbs f c rest

premise_over : (k : TokenKind) → GoesOver (premise_spelling in_kinds k) condition_depth
premise_over k None c rest = over_none c rest
premise_over k (Some f) c rest = over_token k (λ at. formula_over f at rest)

rule_form_over : GoesOver (rule_form_spelling in_kinds) rule_form_depth
rule_form_over (Replace f g h) c rest =
    over_token (kind.Word word.Replace) (λ at. over_both (formula_over f at _) (λ mid. over_token (kind.Word word.By) (λ next. over_both (formula_over g next _) (λ last. premise_over (kind.Word word.Where) h last rest))))
rule_form_over (Infer f h) c rest =
    over_token (kind.Word word.Infer) (λ at. over_both (formula_over f at _) (λ last. premise_over (kind.Word word.From) h last rest))

rule_over : GoesOver (rule_spelling in_kinds) (λ r. rule_form_depth r.form)
rule_over r c rest =
    over_shallower _ (over_both (rule_form_over r.form c (kind.Sign sign.Semicolon ∷ rest)) (λ at. signed (kind.Sign sign.Semicolon) at rest)) (omega arith)

rules_over : GoesOver (each (rule_spelling in_kinds)) rules_depth
rules_over [] c rest = over_none c rest
rules_over (r ∷ rs) c rest = over_both (rule_over r c (each (rule_spelling in_kinds) rs rest)) (λ at. rules_over rs at rest)

pub rule_tree_over : GoesOver (rule_tree_spelling in_kinds) rule_tree_depth
rule_tree_over t c rest =
    over_flat (over_headed (rule_vars_spelling in_kinds) (λ xs. 0) (each_flat (rule_vars_spelling in_kinds) rule_vars_flat) (kind.Word word.Var) t.variables c _) (λ at. rules_over t.rules at rest)

-- ---- formula texts

pub formula_text_over : GoesOver (formula_text_spelling in_kinds) formula_text_depth
formula_text_over t c rest =
    over_token (kind.Word word.Program) (λ at. over_token (name_kind t.name) (λ mid. over_token (kind.Sign sign.Semicolon) (λ here. over_both (declarations_over t.declarations here _) (λ there. over_token (kind.Word word.Assert) (λ last. over_shallower _ (over_both (formula_over t.formula last (kind.Sign sign.Period ∷ rest)) (λ end. signed (kind.Sign sign.Period) end rest)) (omega arith))))))
