use Rattle.spv_dictionary.specs.Mixing.{CanMixTo}
use Rattle.spv_dictionary.proofs.mixing.test_row.Given as goal

abbrev pub invariant-loop-place : goal.invariant-loop-place
invariant-loop-place l = CanMixTo l.row l.solved l.slot l.place
