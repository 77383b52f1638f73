use Rattle.std.proofs.Common.{[], ◌∷◌, drop, IsTrue}
use Rattle.spv_atoms.specs.Shape.{in_order}
use Rattle.spv_trimming.proofs.testing.is_tree.Given as goal

abbrev pub invariant-loop-place : goal.invariant-loop-place
invariant-loop-place l = IsTrue (in_order l.place l.waiting.items (drop l.place l.nodes)) → IsTrue (in_order 0 (0 ∷ []) l.nodes)
