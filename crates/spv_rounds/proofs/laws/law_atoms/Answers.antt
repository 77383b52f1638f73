use Rattle.spv_rounds.proofs.RefutedTerms.{facts-same}
use Rattle.spv_rounds.proofs.RefutedAtoms.{atoms-alone, atoms-same, listed-alone, listed-same, all-there}
use Rattle.spv_rounds.proofs.laws.law_atoms.Goals as goal

pub returns-clause-facts : goal.returns-clause-facts
returns-clause-facts c = facts-same c.law_sorts_that_fit.ensures

pub returns-clause-atoms_with_facts : goal.returns-clause-atoms_with_facts
returns-clause-atoms_with_facts c = atoms-alone

pub returns-clause-atoms_under_rules : goal.returns-clause-atoms_under_rules
returns-clause-atoms_under_rules c = atoms-same c.law_sorts_that_fit.ensures

pub returns-clause-listed_with_facts : goal.returns-clause-listed_with_facts
returns-clause-listed_with_facts c = listed-alone

pub returns-clause-listed_under_rules : goal.returns-clause-listed_under_rules
returns-clause-listed_under_rules c = listed-same c.law_sorts_that_fit.ensures

pub returns-clause-none_missing : goal.returns-clause-none_missing
returns-clause-none_missing c = all-there
