use Rattle.std.proofs.Common.{◌≡◌, map, IfOk, List, subst, sym}
use Rattle.spv_typing.specs.Known.{known_in}
use Rattle.spv_rules.specs.RuleSets.{RuleSet, rules_in}
use Rattle.spv_rule_files.specs.declared.rules.TypedRule.{TypedRule}
use Rattle.spv_rule_files.specs.Right.{AreRight}
use Rattle.spv_rule_files.specs.rule_terms.RuleTerms.{rule_of}
use Rattle.spv_verify.proofs.tree_reports.RuleCauses.{are_file_rules, right_rules}
use Rattle.spv_verify.proofs.tree_reports.rule_files.file_rules.Goals as goal

pub made_rules-requires-clause-right : goal.made_rules-requires-clause-right
made_rules-requires-clause-right c =
    subst (λ (l : List TypedRule). AreRight c.args.program.now l) (sym c.as_slice.ensures)
    (right_rules c.law_rules.ensures.programs c.law_rules.ensures.formula_texts c.args.program.now c.requires.of_tree (known_in c.rule_tree.new.names) c.in-Ok.tree c.in-Ok-typed_rules.list c.in-Ok-typed_rules.ensures.typed)

pub returns-clause-rules : goal.returns-clause-rules
returns-clause-rules c =
    let r = c.made_rules.result in
    are_file_rules (λ (s : RuleSet). rules_in s) c.args.names.now c.rule_tree.new.names c.args.program.now c.args.text.now c.in-Ok.tree c.in-Ok-typed_rules.list c.in-Ok.ensures.names c.in-Ok.ensures.tree
    c.in-Ok-typed_rules.ensures.typed r (subst (λ (l : List TypedRule). IfOk r (λ x. rules_in x ≡ map rule_of l)) c.as_slice.ensures c.made_rules.ensures.rules)
