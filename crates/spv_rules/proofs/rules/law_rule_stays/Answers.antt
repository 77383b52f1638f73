use Rattle.spv_rules.proofs.Growing.{RuleStays-Extends}
use Rattle.spv_rules.proofs.rules.law_rule_stays.Goals as goal

pub returns : goal.returns
returns c old new more = RuleStays-Extends more
