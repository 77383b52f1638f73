use Rattle.spv_dictionary.proofs.Mixed.{rows_more}
use Rattle.spv_dictionary.proofs.mixing.mix_rows.Goals as goal

pub loop-row-preserved : goal.loop-row-preserved
loop-row-preserved c = rows_more c.args.rows.now c.args.solved.now c.args.here c.args.slot c.loop-row.row c.loop-row.rows c.mix_other.new.rows c.loop-row.invariant c.mix_other.ensures
