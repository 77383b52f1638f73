use Rattle.spv_dictionary.specs.updates.Shifts.{CanGoTo}
use Rattle.spv_dictionary.proofs.updates.shifting.test.Given as goal

abbrev pub invariant-loop-row : goal.invariant-loop-row
invariant-loop-row l = CanGoTo l.dictionary l.values l.slot l.distance l.skip l.row
