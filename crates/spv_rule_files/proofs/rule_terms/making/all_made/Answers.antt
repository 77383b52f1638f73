use Rattle.std.proofs.Common.{subst, sym}
use Rattle.spv_rule_files.specs.declared.rules.TypedRule.{TypedRule}
use Rattle.spv_rule_files.specs.rule_terms.Sound.{IsSound}
use Rattle.spv_rule_files.proofs.rule_terms.Made.{sound_later}
use Rattle.spv_rule_files.proofs.rule_terms.making.all_made.Goals as goal

pub put_rule-requires-clause-sound : goal.put_rule-requires-clause-sound
put_rule-requires-clause-sound c =
    subst (λ (r : TypedRule). IsSound c.loop-rule.terms.shapes c.loop-rule.terms.decls r) (sym c.rule-item.is)
    (sound_later c.args.terms.now c.loop-rule.terms c.args.list.now c.loop-rule.rule-index c.rule-item.result c.requires c.loop-rule.invariant.grows c.loop-rule-test.true)
