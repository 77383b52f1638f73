use Rattle.std.proofs.Common.{◌≡◌, take}
use Rattle.spv_verify.proofs.tree_reports.arenas.shapes_copy.Given as goal

abbrev pub invariant-loop-shape : goal.invariant-loop-shape
invariant-loop-shape l = l.list.items ≡ take l.shape-index l.shapes
