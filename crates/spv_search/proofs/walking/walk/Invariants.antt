use Rattle.spv_search.specs.Searching.{IsRunning, room_left}
use Rattle.spv_search.proofs.walking.walk.Given as goal

abbrev pub invariant-loop-alloc : goal.invariant-loop-alloc
invariant-loop-alloc l = IsRunning l.terms l.condition l.atoms l.ground l.limits l.path l.branches l.marks.items

abbrev pub decreases-loop-alloc : goal.decreases-loop-alloc
decreases-loop-alloc l = room_left l.terms l.condition l.branches
