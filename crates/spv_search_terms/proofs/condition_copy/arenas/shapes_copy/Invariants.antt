use Rattle.std.proofs.Common.{◌≡◌, take}
use Rattle.spv_search_terms.proofs.condition_copy.arenas.shapes_copy.Given as goal

abbrev pub invariant-loop-shape : goal.invariant-loop-shape
invariant-loop-shape l = l.list.items ≡ take l.shape-index l.shapes
