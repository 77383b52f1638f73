use Rattle.std.proofs.Common.{◌≡◌, drop}
use Rattle.spv_logic.specs.Sorts.{sorts_eq}
use Rattle.spv_rechecking.proofs.written_terms.sorts.same_sorts.Given as goal

abbrev pub invariant-loop-i : goal.invariant-loop-i
invariant-loop-i l = sorts_eq (drop l.i l.left) (drop l.i l.right) ≡ sorts_eq l.left l.right
