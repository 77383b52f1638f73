use Rattle.spv_search.proofs.walking.run.Goals as goal

pub returns-in-Some : goal.returns-in-Some
returns-in-Some c = rw c.in-Some.is at c.in_ok-found.ensures

pub walk-requires-clause-running : goal.walk-requires-clause-running
walk-requires-clause-running c = (rw c.in-None.is at c.in_ok-found.ensures).0
