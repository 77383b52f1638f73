use Rattle.spv_dictionary.specs.Mixing.{MixedTo}
use Rattle.spv_dictionary.proofs.mixing.mix_row.Given as goal

abbrev pub invariant-loop-place : goal.invariant-loop-place
invariant-loop-place l = MixedTo l.initial.row l.solved l.slot l.place l.row
