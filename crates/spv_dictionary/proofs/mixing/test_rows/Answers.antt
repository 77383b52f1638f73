use Rattle.spv_dictionary.proofs.Mixed.{can_rows_more}
use Rattle.spv_dictionary.proofs.mixing.test_rows.Goals as goal

pub loop-row-preserved : goal.loop-row-preserved
loop-row-preserved c = can_rows_more c.args.rows.now c.args.solved.now c.args.here c.args.slot c.loop-row.row c.loop-row.invariant c.in-Ok.ensures.ok
