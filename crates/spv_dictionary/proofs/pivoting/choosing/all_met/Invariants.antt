use Rattle.std.proofs.Common.{◌≡◌, true, take}
use Rattle.spv_dictionary.specs.updates.Shifts.{value_in}
use Rattle.spv_dictionary.specs.pivoting.Choosing.{are_met}
use Rattle.spv_dictionary.proofs.pivoting.choosing.all_met.Given as goal

abbrev pub invariant-loop-place : goal.invariant-loop-place
invariant-loop-place l = are_met l.width (value_in l.values) (take l.place l.trail.bounds) ≡ true
