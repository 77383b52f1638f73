use Rattle.std.proofs.Common.{◌≡◌, ◌++◌, drop}
use Rattle.spv_assign.specs.pending.Steps.{left_behind}
use Rattle.spv_assign.proofs.pending.listing.left_behind.Given as goal

abbrev pub invariant-loop-h : goal.invariant-loop-h
invariant-loop-h l = l.left.items ++ left_behind (drop l.h-index l.known) ≡ left_behind l.known
