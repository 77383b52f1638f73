use Rattle.spv_dictionary.specs.Mixing.{AreMixedTo}
use Rattle.spv_dictionary.proofs.mixing.mix_rows.Given as goal

abbrev pub invariant-loop-row : goal.invariant-loop-row
invariant-loop-row l = AreMixedTo l.initial.rows l.solved l.here l.slot l.row l.rows
