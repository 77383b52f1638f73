use Rattle.spv_verdicts.proofs.TermCounts.{parts-there, atoms-there, copies-stop, asks-stop}
use Rattle.spv_verdicts.proofs.laws.law_terms.Goals as goal

pub returns-clause-parts : goal.returns-clause-parts
returns-clause-parts c = parts-there

pub returns-clause-atoms : goal.returns-clause-atoms
returns-clause-atoms c = atoms-there

pub returns-clause-copies : goal.returns-clause-copies
returns-clause-copies c a q limits h = copies-stop q limits.terms h

pub returns-clause-asks : goal.returns-clause-asks
returns-clause-asks c a q limits e f s = asks-stop q limits.terms a e f s
