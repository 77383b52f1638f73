use Rattle.std.proofs.Common.{◌≡◌, take}
use Rattle.spv_verify.proofs.tree_reports.arenas.items.Given as goal

abbrev pub invariant-loop-item : goal.invariant-loop-item
invariant-loop-item g l = l.copy.items ≡ take l.item-index l.slice
