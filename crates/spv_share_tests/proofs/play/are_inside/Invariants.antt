use Rattle.std.proofs.Common.{drop, length}
use Rattle.spv_term.specs.Arena.{AllBelow}
use Rattle.spv_share_tests.proofs.play.are_inside.Given as goal

abbrev pub invariant-loop-atom : goal.invariant-loop-atom
invariant-loop-atom l = AllBelow (length l.terms.nodes) (drop l.atom-index l.atoms) → AllBelow (length l.terms.nodes) l.atoms
