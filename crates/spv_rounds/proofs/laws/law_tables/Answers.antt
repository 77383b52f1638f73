use Rattle.spv_rounds.proofs.RefutedTables.{failures-with, failures-under}
use Rattle.spv_rounds.proofs.laws.law_tables.Goals as goal

pub returns-clause-with_facts : goal.returns-clause-with_facts
returns-clause-with_facts c = failures-with c.law_atoms.ensures.listed_with_facts

pub returns-clause-under_rules : goal.returns-clause-under_rules
returns-clause-under_rules c = failures-under c.law_atoms.ensures.facts c.law_atoms.ensures.listed_under_rules
