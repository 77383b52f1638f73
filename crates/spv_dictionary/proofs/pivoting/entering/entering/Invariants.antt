use Rattle.std.proofs.Common.{length}
use Rattle.spv_dictionary.specs.updates.Shifts.{value_in}
use Rattle.spv_dictionary.specs.pivoting.Choosing.{limits_of, EntersFirst}
use Rattle.spv_dictionary.proofs.pivoting.entering.entering.Given as goal

abbrev pub invariant-loop-slot : goal.invariant-loop-slot
invariant-loop-slot l = EntersFirst (limits_of (length l.dictionary.outside) l.trail.bounds) l.dictionary (value_in l.values) l.row l.side l.slot l.found
