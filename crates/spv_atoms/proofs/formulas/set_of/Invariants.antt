use Rattle.std.proofs.Common.{take}
use Rattle.spv_atoms.specs.Order.{SameMembers}
use Rattle.spv_atoms.proofs.formulas.set_of.Given as goal

abbrev pub invariant-loop-t : goal.invariant-loop-t
invariant-loop-t l = record {
  same : SameMembers l.set (take l.t-index l.ids);
}
