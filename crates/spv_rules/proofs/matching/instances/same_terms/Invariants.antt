use Rattle.std.proofs.Common.{◌≡◌, drop}
use Rattle.spv_term.specs.Arena.{ids_eq}
use Rattle.spv_rules.proofs.matching.instances.same_terms.Given as goal

abbrev pub invariant-loop-i : goal.invariant-loop-i
invariant-loop-i l = ids_eq (drop l.i l.left) (drop l.i l.right) ≡ ids_eq l.left l.right
