use Rattle.std.proofs.Common.{drop}
use Rattle.spv_atoms.proofs.Sums.{Scaling}
use Rattle.spv_atoms.proofs.parts.scaled.Given as goal

abbrev pub invariant-loop-part : goal.invariant-loop-part
invariant-loop-part l = Scaling l.fn.factor l.from l.parts.items (drop l.part-index l.from)
