use Rattle.std.proofs.Common.{◌≡◌, ◌≤◌, length, drop}
use Rattle.spv_logic.specs.names.Names.{packed}
use Rattle.spv_logic.proofs.names.maps.packed.Given as goal

abbrev pub invariant-loop-left : goal.invariant-loop-left
invariant-loop-left l = (l.left ≤ length l.text) × (l.number ≡ packed (drop l.left l.text))

abbrev pub decreases-loop-left : goal.decreases-loop-left
decreases-loop-left l = l.left
