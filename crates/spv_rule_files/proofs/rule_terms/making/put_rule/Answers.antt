use Rattle.spv_rule_files.proofs.rule_terms.Made.{rule_put, rules_put}
use Rattle.spv_rule_files.proofs.rule_terms.making.put_rule.Goals as goal

pub returns-clause-are : goal.returns-clause-are
returns-clause-are c =
    rule_put c.args.terms.now c.rule_made.new.terms c.args.made.now.items c.push.new.items.items c.in_ok-one.one c.args.rule.now c.requires.rules c.rule_made.ensures.grows
    c.in_ok-one.ensures.is c.in_ok-push.ensures

pub returns-clause-rules : goal.returns-clause-rules
returns-clause-rules c =
    rules_put c.args.terms.now c.rule_made.new.terms c.args.made.now.items c.push.new.items.items c.in_ok-one.one c.requires.rules c.rule_made.ensures.grows
    c.in_ok-one.ensures.rule c.in_ok-push.ensures
