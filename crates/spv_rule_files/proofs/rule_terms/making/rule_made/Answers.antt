use Rattle.spv_rule_files.proofs.rule_terms.Made.{rule_is, rule_is_one}
use Rattle.spv_rule_files.proofs.rule_terms.making.rule_made.Goals as goal

pub returns-clause-is : goal.returns-clause-is
returns-clause-is c =
    rule_is c.variables.new.terms c.trigger_made.new.terms c.stated_made.new.terms c.args.rule.now c.in_ok-variables.variables c.in_ok-trigger.trigger c.in_ok-formula.formula
    c.in_ok-variables.ensures.heads c.in_ok-variables.ensures.below c.trigger_made.ensures.grows c.in_ok-trigger.ensures.tree c.in_ok-trigger.ensures.in_range
    c.stated_made.ensures.grows c.in_ok-formula.ensures.tree

pub returns-clause-rule : goal.returns-clause-rule
returns-clause-rule c =
    rule_is_one c.args.terms.now c.variables.new.terms c.trigger_made.new.terms c.stated_made.new.terms c.args.rule.now c.in_ok-variables.variables c.in_ok-trigger.trigger
    c.in_ok-formula.formula c.requires c.variables.ensures.grows c.in_ok-variables.ensures.heads c.in_ok-variables.ensures.below c.trigger_made.ensures.grows
    c.in_ok-trigger.ensures.tree c.in_ok-trigger.ensures.in_range c.stated_made.ensures.grows c.in_ok-formula.ensures.tree c.in_ok-formula.ensures.in_range
