use Rattle.std.proofs.Common.{Bool, List, ◌++◌, drop}
use Rattle.spv_assign.specs.pending.Staying.{AreMarked}
use Rattle.spv_assign.proofs.pending.staying.marks.Given as goal

abbrev pub invariant-loop-t : goal.invariant-loop-t
invariant-loop-t l = (more : List Bool) → AreMarked l.terms l.pairs more (drop l.t-index l.list) → AreMarked l.terms l.pairs (l.marks.items ++ more) l.list
