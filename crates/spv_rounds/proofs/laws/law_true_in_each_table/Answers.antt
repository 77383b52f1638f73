use Rattle.spv_rounds.proofs.Exactly.{not-unproved, not-unproved-under}
use Rattle.spv_rounds.proofs.laws.law_true_in_each_table.Goals as goal

pub returns-clause-with_facts : goal.returns-clause-with_facts
returns-clause-with_facts c = not-unproved

pub returns-clause-under_rules : goal.returns-clause-under_rules
returns-clause-under_rules c = not-unproved-under
