use Rattle.spv_dictionary.proofs.updates.Going.{can_more}
use Rattle.spv_dictionary.proofs.updates.shifting.test.Goals as goal

pub loop-row-preserved : goal.loop-row-preserved
loop-row-preserved c =
    can_more c.args.dictionary.now c.args.values.now c.args.slot c.args.distance c.args.skip c.loop-row.row c.loop-row.invariant c.in-Ok.ensures.ok
