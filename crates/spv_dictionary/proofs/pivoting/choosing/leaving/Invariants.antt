use Rattle.std.proofs.Common.{length}
use Rattle.spv_dictionary.specs.updates.Shifts.{value_in}
use Rattle.spv_dictionary.specs.pivoting.Choosing.{limits_of, LeavesFirst}
use Rattle.spv_dictionary.proofs.pivoting.choosing.leaving.Given as goal

abbrev pub invariant-loop-place : goal.invariant-loop-place
invariant-loop-place l = LeavesFirst (limits_of (length l.dictionary.outside) l.trail.bounds) l.dictionary (value_in l.values) l.trail.bounds l.place l.found
