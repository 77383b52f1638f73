use Rattle.spv_dictionary.specs.updates.Shifts.{HasGoneTo}
use Rattle.spv_dictionary.proofs.updates.shifting.shift.Given as goal

abbrev pub invariant-loop-row : goal.invariant-loop-row
invariant-loop-row l = HasGoneTo l.dictionary l.initial.values l.slot l.distance l.skip l.row l.values
