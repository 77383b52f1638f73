use Rattle.spv_dictionary.specs.Mixing.{CanMixRowsTo}
use Rattle.spv_dictionary.proofs.mixing.test_rows.Given as goal

abbrev pub invariant-loop-row : goal.invariant-loop-row
invariant-loop-row l = CanMixRowsTo l.rows l.solved l.here l.slot l.row
