use Rattle.spv_search.proofs.walking.walk.Goals as goal

pub returns-in-Some : goal.returns-in-Some
returns-in-Some c = rw c.in-Some.is at c.in_ok-found.ensures

pub loop-alloc-preserved : goal.loop-alloc-preserved
loop-alloc-preserved c = (rw c.in_default.is at c.in_ok-found.ensures).0

pub loop-alloc-smaller : goal.loop-alloc-smaller
loop-alloc-smaller c = (rw c.in_default.is at c.in_ok-found.ensures).1
